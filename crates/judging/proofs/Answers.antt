-- What a call comes to by whether it is refused. Assumes nothing.
use mathlib.Core.Path.{◌≡◌, refl, sym}
use mathlib.Core.Bool.{Bool, true, false, cond}
use lib.Dec.{eqb}
use borrow.Author.Tests.{eqb-true, ne_eqb}
use Rattle.refusing.specs.Refusals.{Call, refusal}
use Rattle.judging.specs.Outcome.{judgement, judged_of, turned_away, outcome}

pub number_is_lem : (call : Call) → (outcome call).number ≡ refusal call
unfolding outcome
number_is_lem call = by_test (eqb (refusal call) 0) refl
  where
    by_test : (t : Bool) → eqb (refusal call) 0 ≡ t → (cond t (judged_of call (judgement call)) (turned_away call (refusal call))).number ≡ refusal call
    by_test true e = sym (eqb-true (refusal call) 0 e)
    by_test false e = refl

pub outcome_judged : (call : Call) → refusal call ≡ 0 → outcome call ≡ judged_of call (judgement call)
unfolding outcome
outcome_judged call e = rw e

pub outcome_refused : (call : Call) → (refusal call ≡ 0 → ⊥) → outcome call ≡ turned_away call (refusal call)
unfolding outcome
outcome_refused call e = rw (ne_eqb (refusal call) 0 e)
