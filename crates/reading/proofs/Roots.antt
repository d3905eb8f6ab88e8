-- The documents one after the other: the bound on their number never shows. Assumes nothing.
use mathlib.Core.Path.{◌≡◌, refl, ap, ◌∙◌}
use mathlib.Core.Bool.{Bool, true, false, cond}
use mathlib.Core.List.{List}
use Prim.Native.Nat.{ℕ, zero, suc, ◌+◌, ◌≤◌, ◌<◌}
use native.Mathlib.Omega.{arith}
use lib.Dec.{eqb, ltb}
use lib.ListN.{length}
use borrow.Author.Tests.{eq-eqb, ne_eqb, lt-ltb, le-ltb, ltb-true}
use Rattle.letters.specs.Places.{byte_at}
use Rattle.tags.specs.Names.{space_end, name_at}
use Rattle.paths.specs.Table.{root_role}
use Rattle.elements.specs.Forest.{Forest, none, beside}
use Rattle.elements.specs.Grammar.{Parsed, read, broken, deep, on_read}
use Rattle.elements.proofs.Forward.{element_onward}
use Rattle.reading.specs.Text.{levels, document_at, roots_by, roots_at}

module _ (s : List ℕ) where
  -- what stands at a place: nothing more, a document and what is after it, or something else
  abbrev after_document : (ℕ → Parsed) → ℕ → Parsed
  after_document rest at =
      cond (ltb at (length s))
      (cond (eqb (byte_at s at) 60)
      (on_read (document_at s at) (λ next f. on_read (rest (space_end s next)) (λ e g. read e (beside f g))))
      (broken at))
      (read at none)

  pub document_onward : (at n : ℕ) (f : Forest) → document_at s at ≡ read n f → (at < n) × (n ≤ length s)
  document_onward at n f e = element_onward levels s (root_role (name_at s (at + 1))) at n f e

  alike : (rest other : ℕ → Parsed) (at : ℕ) → ((next : ℕ) → at < next → rest next ≡ other next) → after_document rest at ≡ after_document other at
  alike rest other at same = by_end (ltb at (length s)) (eqb (byte_at s at) 60)
    where
      by_read : (r : Parsed) → document_at s at ≡ r
          → on_read r (λ next f. on_read (rest (space_end s next)) (λ e g. read e (beside f g))) ≡ on_read r (λ next f. on_read (other (space_end s next)) (λ e g. read e (beside f g)))
      by_read (read next f) e =
          let on = document_onward at next f e in
          ap (λ (r : Parsed). on_read r (λ e g. read e (beside f g))) (same (space_end s next) (omega arith))
      by_read (broken p) e = refl
      by_read (deep p) e = refl

      by_end : (t u : Bool)
          → cond t (cond u (on_read (document_at s at) (λ next f. on_read (rest (space_end s next)) (λ e g. read e (beside f g)))) (broken at)) (read at none)
          ≡ cond t (cond u (on_read (document_at s at) (λ next f. on_read (other (space_end s next)) (λ e g. read e (beside f g)))) (broken at)) (read at none)
      by_end true true = by_read (document_at s at) refl
      by_end true false = refl
      by_end false u = refl

  roots_any : (b c at : ℕ) → length s < at + b → length s < at + c → 0 < b → 0 < c → roots_by s b at ≡ roots_by s c at
  unfolding roots_by
  roots_any zero c at h k p q = absurd (omega arith)
  roots_any (suc b) zero at h k p q = absurd (omega arith)
  roots_any (suc b) (suc c) at h k p q = by_end (roots_any b c) (ltb at (length s)) refl
    where
      by_end : ((next : ℕ) → length s < next + b → length s < next + c → 0 < b → 0 < c → roots_by s b next ≡ roots_by s c next)
          → (t : Bool) → ltb at (length s) ≡ t → after_document (roots_by s b) at ≡ after_document (roots_by s c) at
      by_end rest true e =
          let low = ltb-true at (length s) e in
          alike (roots_by s b) (roots_by s c) at (λ next on. rest next (omega arith) (omega arith) (omega arith) (omega arith))
      by_end rest false e = rw e

  pub roots_turn : (at : ℕ) → roots_at s at ≡ after_document (roots_at s) at
  unfolding roots_at roots_by
  roots_turn at = by_end (ltb at (length s)) refl
    where
      by_end : (t : Bool) → ltb at (length s) ≡ t → after_document (roots_by s (length s)) at ≡ after_document (roots_by s (suc (length s))) at
      by_end true e =
          let low = ltb-true at (length s) e in
          alike (roots_by s (length s)) (roots_by s (suc (length s))) at (λ next on. roots_any (length s) (suc (length s)) next (omega arith) (omega arith) (omega arith) (omega arith))
      by_end false e = rw e

  -- each way that a turn goes
  pub roots_end : (at : ℕ) → length s ≤ at → roots_at s at ≡ read at none
  roots_end at h = roots_turn at ∙ (rw (le-ltb at (length s) h))

  pub roots_odd : (at : ℕ) → at < length s → (byte_at s at ≡ 60 → ⊥) → roots_at s at ≡ broken at
  roots_odd at h odd = roots_turn at ∙ (rw (lt-ltb at (length s) h, ne_eqb _ _ odd))

  pub roots_document : (at : ℕ) (r : Parsed) → at < length s → byte_at s at ≡ 60 → document_at s at ≡ r
      → roots_at s at ≡ on_read r (λ next f. on_read (roots_at s (space_end s next)) (λ e g. read e (beside f g)))
  roots_document at r h here e = roots_turn at ∙ (rw (lt-ltb at (length s) h, eq-eqb _ _ here, e))
