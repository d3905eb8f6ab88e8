-- How the results of the functions around an index, and what they leave, are read back from what their contracts tell. Assumes nothing.
use mathlib.Core.Path.{◌≡◌, refl, sym, ap, ◌∙◌}
use mathlib.Core.Bool.{Bool}
use mathlib.Core.List.{List, is_set}
use Prim.Native.Nat.{ℕ}
use native.Mathlib.Nat.{ℕ_set}
use borrow.Author.Tests.{eqb-false}
use Rattle.tally.specs.Tally.{Totals, totals_of}
use Rattle.messages.specs.declared.Counts.{Counts}
use Rattle.messages.specs.contracts.Counts.{the_row as counts_row}
use Rattle.slots.specs.Slots.{End}
use Rattle.slots.specs.Asked.{end_of}
use Rattle.slots.specs.declared.Ended.{Ended}
use Rattle.index.specs.Ready.{SoughtTold}
use Rattle.index.specs.declared.Sought.{Sought}
use Rattle.refusing.specs.Refusals.{refusal_number}
use Rattle.refusing.proofs.Numbers.{some_number, number_tells}
use Rattle.judging.specs.Indexed.{IndexedOutcome, indexed_left, IndexBuilt, building_number, built_left}
use Rattle.judging.specs.declared.Judged.{Judged}
use Rattle.refusing.specs.declared.Refusal.{Refusal}
use Rattle.std.specs.Prelude.{Result, Ok, Err}
use Rattle.tynderaxo.specs.Doors.{indexed_door_outcome}
use Rattle.tynderaxo.specs.declared.TynderaxoIndexedAnswer.{TynderaxoIndexedAnswer}
use Rattle.promises.specs.Determined.{Held}
use Rattle.promises.proofs.Readings.{answer_one, tally_one, outcomes}

-- ---- a struct is its fields

pub ended_one : {e : End} {x y : Ended} → end_of x ≡ e → end_of y ≡ e → x ≡ y
ended_one p q = λ i. record { place = ((p ∙ sym q) i).place; name = ((p ∙ sym q) i).name; read = ((p ∙ sym q) i).read }

pub sought_one : {indexed : Bool} {register key : List ℕ} {x y : Sought} → SoughtTold indexed register key x → SoughtTold indexed register key y → x ≡ y
sought_one p q = λ i. record { there = (p.there ∙ sym q.there) i; ended = ended_one p.ended q.ended i }

pub counts_one : {totals : Totals} {slots : ℕ} {x y : Counts} → Held counts_row x → Held counts_row y
    → totals_of x.tally ≡ totals → totals_of y.tally ≡ totals → x.slots ≡ slots → y.slots ≡ slots → x ≡ y
counts_one p q t t' s s' = λ i. record {
  tally = tally_one (p.1.0.0, p.1.1.1.0) (q.1.0.0, q.1.1.1.0) t t' i;
  slots = (s ∙ sym s') i;
}

building_one : (x y : Result Unit Refusal) → building_number x ≡ building_number y → x ≡ y
building_one (Err r) (Err s) e = ap Err (number_tells r s e)
building_one (Err r) (Ok u) e = absurd (eqb-false (refusal_number r) 0 (some_number r) e)
building_one (Ok u) (Err s) e = absurd (eqb-false (refusal_number s) 0 (some_number s) (sym e))
building_one (Ok u) (Ok v) e = refl

-- ---- what is left: nothing of what is only read, and the bytes of the rest

-- of the judgement of a bulk's messages, which has eight arguments
abbrev MessagesLeft : Type 0
MessagesLeft = Unit {0} × (Unit {0} × (List ℕ × (List ℕ × (List ℕ × (List ℕ × (Unit {0} × (Unit {0} × Unit {0})))))))

pub messages_left : (ws ws' : MessagesLeft) → ws.1.1.0 ≡ ws'.1.1.0 → ws.1.1.1.0 ≡ ws'.1.1.1.0
    → ws.1.1.1.1.0 ≡ ws'.1.1.1.1.0 → ws.1.1.1.1.1.0 ≡ ws'.1.1.1.1.1.0 → ws ≡ ws'
messages_left ws ws' p q e f = λ i. (tt, (tt, (p i, (q i, (e i, (f i, (tt, (tt, tt))))))))

-- of a call with an index
abbrev Left : Type 0
Left = Unit {0} × (Unit {0} × (Unit {0} × (List ℕ × (List ℕ × (List ℕ × (List ℕ × Unit {0}))))))

pub indexed_outcomes : IsSet IndexedOutcome
indexed_outcomes x y p q = λ j i. record {
  outcome = outcomes x.outcome y.outcome (λ k. (p k).outcome) (λ k. (q k).outcome) j i;
  slots = ℕ_set x.slots y.slots (λ k. (p k).slots) (λ k. (q k).slots) j i;
  index = is_set ℕ_set x.index y.index (λ k. (p k).index) (λ k. (q k).index) j i;
}

pub index_builts : IsSet IndexBuilt
index_builts x y p q = λ j i. record {
  number = ℕ_set x.number y.number (λ k. (p k).number) (λ k. (q k).number) j i;
  index = is_set ℕ_set x.index y.index (λ k. (p k).index) (λ k. (q k).index) j i;
}

abbrev left_by : IndexedOutcome → Left
left_by o = (tt, (tt, (tt, (o.outcome.register, (o.outcome.positions, (o.outcome.report, (o.index, tt)))))))

-- the outcomes that two answers and what they leave make up
module _ (ws ws' : Left) where
  abbrev outcome_of : Left → (List ℕ → List ℕ → List ℕ → List ℕ → IndexedOutcome) → IndexedOutcome
  outcome_of vs make = make vs.1.1.1.0 vs.1.1.1.1.0 vs.1.1.1.1.1.0 vs.1.1.1.1.1.1.0

  pub indexed_one : {x y : Result Judged Refusal} → outcome_of ws (indexed_left x) ≡ outcome_of ws' (indexed_left y) → (x ≡ y) × (ws ≡ ws')
  indexed_one {x = Err r} {y = Err s} e = (ap Err (number_tells r s (λ i. (e i).outcome.number)), λ i. left_by (e i))
  indexed_one {x = Err r} {y = Ok m} e = absurd (eqb-false (refusal_number r) 0 (some_number r) (λ i. (e i).outcome.number))
  indexed_one {x = Ok n} {y = Err s} e = absurd (eqb-false (refusal_number s) 0 (some_number s) (sym (λ i. (e i).outcome.number)))
  indexed_one {x = Ok n} {y = Ok m} e = (ap Ok (λ i. record { length = (e i).outcome.length; slots = (e i).slots }), λ i. left_by (e i))

  pub indexed_door_one : {x y : TynderaxoIndexedAnswer} → outcome_of ws (indexed_door_outcome x) ≡ outcome_of ws' (indexed_door_outcome y) → (x ≡ y) × (ws ≡ ws')
  indexed_door_one e = (
    λ i. record { number = (e i).outcome.number; length = (e i).outcome.length; slots = (e i).slots },
    λ i. (tt, (tt, (tt, ((e i).outcome.register, ((e i).outcome.positions, ((e i).outcome.report, ((e i).index, tt))))))),
  )

-- of a building, whose index is its second argument
module _ (ws ws' : Unit {0} × (List ℕ × Unit {0})) where
  pub built_one : {x y : Result Unit Refusal} → built_left x ws.1.0 ≡ built_left y ws'.1.0 → (x ≡ y) × (ws ≡ ws')
  built_one {x} {y} e = (building_one x y (λ i. (e i).number), λ i. (tt, ((e i).index, tt)))

  pub built_door_one : {x y : ℕ} → ◌≡◌ {A = IndexBuilt} (record { number = x; index = ws.1.0 }) (record { number = y; index = ws'.1.0 }) → (x ≡ y) × (ws ≡ ws')
  built_door_one e = (λ i. (e i).number, λ i. (tt, ((e i).index, tt)))
