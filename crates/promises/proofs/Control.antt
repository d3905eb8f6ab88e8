-- Controls of `Determines`: a public contract does allow what its function comes to, so nothing is stated of no outcome at all; and two
-- contracts that say less, as one might write them, are seen to leave a choice. Assumes nothing.
use mathlib.Core.Path.{◌≡◌, refl, sym, ap}
use mathlib.Core.List.{List, [], ◌∷◌, head-eq_of_cons-eq}
use Prim.Native.Nat.{ℕ, ◌≤◌}
use native.Mathlib.Omega.{arith}
use seplogic.Ra.Ura.{Ura}
use base.Logic.{SProp, emp}
use prog.Memory.{Memory}
use prog.Routine.{Routine}
use types.Logic.{Logic}
use mir.Syntax.{w64}
use mir.Val.{vint, vunit}
use contract.Lifetimes.{Lfts}
use contract.Monad.{Fun, fact}
use denote.Triple.Entry.{Args}
use denote.Triple.Clauses.{Clauses, closing}
use lib.ListN.{length}
use Rattle.promises.specs.Determined.{Allows, Determines}
use Rattle.promises.proofs.Told.{tell}
use Rattle.wire.specs.contracts as wire
use Rattle.writing.specs.contracts as writing
use Rattle.judging.specs.contracts as judging

module _ {M : Type 1} {𝓤 : Ura M} (𝓛 : Logic 𝓤) (mem : Memory → SProp 𝓤) (run : Routine → Fun 𝓤) where
  -- the contract is the one that the function is proved to meet
  pub same_contract : closing 𝓛 judging.judge.ended (judging.judge.clauses 𝓛 mem run) ≡ judging.judge.spec 𝓛 mem run
  same_contract = refl

  -- the lesser of 3 and 5 may be 3
  pub allows : (κs : Lfts 0) → Allows 𝓤 wire.least.ended (wire.least.clauses 𝓛 mem run) κs (3, (5, tt)) tt 3 (tt, (tt, tt))
  allows κs = record { held = (vint w64 3 ∷ [], (refl, omega arith)); told = tell 𝓤 refl }

  -- of `least`: at most the first number
  abbrev AtMost : Clauses 𝓤 wire.least.ended
  AtMost κs a = record { ghost = Unit {0}; requires = λ g. emp 𝓤; ensures = λ g r e. fact 𝓤 (r ≤ a.0) }

  pub at_most_leaves_a_choice : Lfts 0 → Determines 𝓤 wire.least.ended AtMost {Seen = λ κs. ℕ} (λ κs r. r) → ⊥
  at_most_leaves_a_choice κs determines =
      let e : ◌≡◌ {A = ℕ} 0 1 =
      (determines κs (1, (1, tt)) tt 0 1 (tt, (tt, tt)) (tt, (tt, tt))
      (record { held = (vint w64 0 ∷ [], (refl, omega arith)); told = tell 𝓤 (omega arith) })
      (record { held = (vint w64 1 ∷ [], (refl, omega arith)); told = tell 𝓤 (omega arith) })).0
      in omega arith

  -- of `put_text`: the buffer keeps its length
  abbrev AsLong : Clauses 𝓤 writing.put_text.ended
  AsLong κs a =
      record { ghost = Unit {0}; requires = λ g. emp 𝓤; ensures = λ g r e. fact 𝓤 (length e.0.now ≡ length a.0.now) }

  -- a buffer of one byte
  pub as_long_leaves_a_choice : (κs : Lfts 2) (a : Args (writing.put_text.ended).signature κs) → length a.0.now ≡ 1
      → Determines 𝓤 writing.put_text.ended AsLong {Seen = λ κs. Unit {0}} (λ κs r. r) → ⊥
  as_long_leaves_a_choice κs a one determines =
      let e : ◌≡◌ {A = List ℕ} (0 ∷ []) (1 ∷ []) =
      ap (λ ws. ws.0)
      (determines κs a tt tt tt (0 ∷ [], (tt, (tt, tt))) (1 ∷ [], (tt, (tt, tt)))
      (record { held = (vunit ∷ [], refl); told = tell 𝓤 (sym one) })
      (record { held = (vunit ∷ [], refl); told = tell 𝓤 (sym one) })).1
      in
      let e' : ◌≡◌ {A = ℕ} 0 1 = head-eq_of_cons-eq e in omega arith
