-- Where a function's contract requires nothing and tells the outcome that is defined, whatever holds of that outcome holds of all that the
-- contract allows, and of the code. Assumes nothing.
use mathlib.Core.Path.{◌≡◌, sym, ap, ◌∙◌}
use seplogic.Ra.Ura.{Ura}
use seplogic.Bi.Sat
use base.Logic.{emp, ent, via, mono_r}
use prog.Model.{Model}
use prog.Wired.{Code, Wired}
use mir.Syntax.{Callee}
use types.Logic.{Logic, sem}
use contract.Lifetimes.{Lfts}
use contract.Monad.{fact, fact_i, fact_mono, fm→mono}
use contract.Running.{Running}
use denote.Triple.Table.{run_framed}
use denote.Triple.Weaken.{weaken_under}
use denote.Triple.Clauses.{AtExit, at_exit, lasts, closing}
use denote.Triple.Entry.{Args, Res}
use denote.Triple.Spec.{Meets}
use Rattle.promises.specs.Entries.{Asked, Entry, Comes, EachMeets, AllowedBy, demanding, CodeMeets}
use Rattle.promises.proofs.Told.{taken}

-- the outcome that is defined, which is made of numbers and bytes
pub record Defined (asked : Asked) : Type 0 where
  pub out : asked.Given → asked.Left
  pub set : IsSet asked.Left

module _ {M : Type 1} (𝓤 : Ura M) {asked : Asked} (defined : Defined asked) where
  -- an entry that requires nothing, and tells that outcome
  pub record Tells (entry : Entry 𝓤 asked) : Type 1 where
    pub ghost : (κs : Lfts entry.function.signature.lifetimes) (a : Args entry.function.signature κs) → (entry.contract κs a).ghost
    pub requires : (κs : Lfts entry.function.signature.lifetimes) (a : Args entry.function.signature κs) → ent 𝓤 (emp 𝓤) ((entry.contract κs a).requires (ghost κs a))
    pub ensures : (κs : Lfts entry.function.signature.lifetimes) (a : Args entry.function.signature κs) (g : (entry.contract κs a).ghost)
        (r : Res entry.function.signature κs) (e : AtExit entry.function κs)
        → ent 𝓤 ((entry.contract κs a).ensures g r e) (fact 𝓤 (entry.left κs r e ≡ defined.out (entry.given κs a)))

  module _ (entry : Entry 𝓤 asked) (tells : Tells entry) where
    -- what it allows is that outcome
    pub comes_defined : (given : asked.Given) (out : asked.Left) → Comes 𝓤 entry given out → out ≡ defined.out given
    comes_defined given out comes =
        let e = at_exit entry.function comes.lifetimes comes.arguments comes.last in
        sym comes.left
        ∙ taken 𝓤 (defined.set _ _) (Sat.mono 𝓤.op (tells.ensures comes.lifetimes comes.arguments comes.ghost comes.result e) comes.allowed.told)
        ∙ ap defined.out comes.given

    -- so a function whose every answer it allows is the one that is defined
    pub all_defined : (answer : asked.Given → asked.Left) → AllowedBy 𝓤 entry answer → answer ≡ defined.out
    all_defined answer comes = λ i given. comes_defined given (answer given) (comes given) i

    module _ (holds : (given : asked.Given) → asked.each given (defined.out given)) where
      as_defined : {given : asked.Given} {out : asked.Left} → out ≡ defined.out given → asked.each given out
      as_defined {given} {out} e = rw e (holds given)

      pub each_meets : EachMeets 𝓤 entry
      each_meets given out comes = as_defined (comes_defined given out comes)

      -- by the rule of consequence, from the contract that the code is proved to meet
      pub code_meets : (𝓛 : Logic 𝓤) (𝓜 : Model 𝓤 𝓛.H) (𝓡 : Running 𝓤 𝓛.H 𝓜) (code : Code) (name : Callee)
          → (Wired 𝓡.env code → Meets 𝓛 entry.function.signature (𝓡.run (𝓡.env name)) (closing 𝓛 entry.function entry.contract))
          → CodeMeets 𝓤 𝓛 𝓜 𝓡 entry code name
      code_meets 𝓛 𝓜 𝓡 code name met wired =
          weaken_under 𝓛 entry.function entry.contract (demanding 𝓤 entry)
          (λ κs a g. tells.ghost κs a)
          (λ κs a g. Unit {0})
          (λ κs a g. fact_i 𝓤 (Unit {0}) (emp 𝓤) tt)
          (λ κs a g known. tells.requires κs a)
          (λ κs a g known r ws.
          let e = at_exit entry.function κs a ws in
          let is = entry.left κs r e ≡ defined.out (entry.given κs a) in
          let wanted = asked.each (entry.given κs a) (entry.left κs r e) in
          mono_r 𝓤 (sem 𝓛 (lasts entry.function κs a ws))
          (via 𝓤 (fact 𝓤 is) (tells.ensures κs a (tells.ghost κs a) r e) (fact_mono 𝓤 is wanted as_defined)))
          (𝓡.run (𝓡.env name))
          (λ vs. fm→mono 𝓤 (𝓡.run (𝓡.env name) vs) (run_framed 𝓤 𝓛.H 𝓜 𝓡 (𝓡.env name) vs))
          (met wired)
