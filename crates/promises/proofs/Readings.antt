-- What a contract says of a struct or an enum through the value that it stands for says all of it: no two stand for the same.
-- Assumes nothing.
use mathlib.Core.Path.{◌≡◌, refl, sym, ap, ◌∙◌}
use mathlib.Core.Bool.{Bool, true, false, cond}
use mathlib.Core.List.{List, is_set}
use mathlib.Core.Option.{Option, none, some}
use Prim.Native.Nat.{ℕ, zero, suc, ◌+◌, ◌-◌, ◌*◌, ◌^◌, ◌<◌}
use native.Mathlib.Nat.{ℕ_set}
use native.Mathlib.Omega.{arith}
use lib.Dec.{eqb}
use borrow.Author.Tests.{eqb-false}
use Rattle.std.specs.Prelude.{Option as RustOption, Some, None, Result, Ok, Err}
use Rattle.promises.specs.Determined.{Held}
use Rattle.routing.specs.Lookup.{Routed, option_of, values_of}
use Rattle.routing.specs.Promise.{RowTold, AnswerTold}
use Rattle.routing.specs.declared.Refusal.{Refusal as BadQuestion}
use Rattle.routing.specs.declared.Refusal.TheVariants.{Date as BadDate, Table as BadTable, Bic as BadBic}
use Rattle.routing.specs.declared.Row.{Row}
use Rattle.sheet.specs.Reading.{CountRead, HeaderRead, MessageRead, WalkStarted, BulkTaken, shape_of}
use Rattle.sheet.specs.declared.Counted.{Counted}
use Rattle.sheet.specs.declared.Header.{Header}
use Rattle.sheet.specs.declared.Message.{Message}
use Rattle.sheet.specs.declared.Walk.{Walk}
use Rattle.sheet.specs.declared.BulkRead.{BulkRead}
use Rattle.sheet.specs.declared.Contents.{Contents}
use Rattle.tally.specs.Tally.{Totals, cents_of, totals_of}
use Rattle.tally.specs.Room.{SideTold}
use Rattle.tally.specs.contracts.Cents.{the_row as cents_row}
use Rattle.tally.specs.contracts.Side.{the_row as side_row}
use Rattle.tally.specs.contracts.Tally.{the_row as tally_row}
use Rattle.tally.specs.declared.Cents.{Cents}
use Rattle.tally.specs.declared.Side.{Side}
use Rattle.tally.specs.declared.Tally.{Tally}
use Rattle.report.specs.Told.{PlacesTold}
use Rattle.report.specs.declared.Places.{Places}
use Rattle.refusing.specs.Refusals.{refusal_number}
use Rattle.refusing.specs.Checking.{Told as CheckTold}
use Rattle.refusing.proofs.Numbers.{some_number, number_tells}
use Rattle.judging.specs.Outcome.{Outcome, answer_number, answer_length, left}
use Rattle.refusing.specs.declared.Refusal.{Refusal}
use Rattle.tynderaxo.specs.Doors.{door_outcome, routed_by}
use Rattle.tynderaxo.specs.declared.TynderaxoAnswer.{TynderaxoAnswer}
use Rattle.tynderaxo.specs.declared.TynderaxoRoute.{TynderaxoRoute}

-- ---- an enum is read back from its values

found_of : Option ℕ → RustOption ℕ
found_of none = None
found_of (some i) = Some i

found_back : (x : RustOption ℕ) → found_of (option_of x) ≡ x
unfolding found_of
found_back (Some i) = refl
found_back None = refl

pub found_one : {table : List ℕ} {e : Option ℕ} {x y : RustOption ℕ} → RowTold table (option_of x) e → RowTold table (option_of y) e → x ≡ y
found_one {x = x} {y = y} p q = sym (found_back x) ∙ ap found_of (p.is ∙ sym q.is) ∙ found_back y

shape_from : Option (ℕ × ℕ) → RustOption Contents
shape_from none = None
shape_from (some n) = Some (record { bulks = n.0; messages = n.1 })

shape_back : (x : RustOption Contents) → shape_from (shape_of x) ≡ x
unfolding shape_from
shape_back None = refl
shape_back (Some contents) = refl

pub shape_one : {e : Option (ℕ × ℕ)} {x y : RustOption Contents} → shape_of x ≡ e → shape_of y ≡ e → x ≡ y
shape_one {x = x} {y = y} p q = sym (shape_back x) ∙ ap shape_from (p ∙ sym q) ∙ shape_back y

abbrev RoutingAnswer : Type 0
RoutingAnswer = Result (RustOption Row) BadQuestion

routed_from : ℕ → ℕ → ℕ → ℕ → RoutingAnswer
routed_from zero zero row reachable = Ok None
routed_from zero (suc found) row reachable = Ok (Some (record { place = row; reachable = eqb reachable 1 }))
routed_from (suc n) found row reachable = Err (cond (eqb n 0) BadDate (cond (eqb n 1) BadTable BadBic))

routed_of : Routed → RoutingAnswer
routed_of v = routed_from v.number v.found v.row v.reachable

routed_back : (x : RoutingAnswer) → routed_of (values_of x) ≡ x
unfolding routed_of routed_from
routed_back (Err BadDate) = refl
routed_back (Err BadTable) = refl
routed_back (Err BadBic) = refl
routed_back (Ok None) = refl
routed_back (Ok (Some row)) = by_reach row.reachable
  where
    by_reach : (b : Bool) → routed_of (values_of (Ok (Some (record { place = row.place; reachable = b })))) ≡ Ok (Some (record { place = row.place; reachable = b }))
    by_reach true = refl
    by_reach false = refl

pub routed_one : {table : List ℕ} {e : Routed} {x y : RoutingAnswer} → AnswerTold table x e → AnswerTold table y e → x ≡ y
routed_one {x = x} {y = y} p q = sym (routed_back x) ∙ ap routed_of (p.is ∙ sym q.is) ∙ routed_back y

-- what was checked is a refusal, which has a number, or what the sheet holds
pub checked_one : (first : Refusal) (test : Refusal → Bool) (sheet : List ℕ) (x y : Result Contents Refusal) → CheckTold first test sheet x → CheckTold first test sheet y → x ≡ y
checked_one first test sheet (Err r) (Err s) p q = ap Err (number_tells r s (sym p ∙ q))
checked_one first test sheet (Err r) (Ok c) p q = absurd (eqb-false (refusal_number r) 0 (some_number r) (sym p ∙ q.0))
checked_one first test sheet (Ok c) (Err s) p q = absurd (eqb-false (refusal_number s) 0 (some_number s) (sym q ∙ p.0))
checked_one first test sheet (Ok c) (Ok d) p q =
    ap Ok (λ i. record { bulks = (p.1.bulk_count ∙ sym q.1.bulk_count) i; messages = (p.1.message_count ∙ sym q.1.message_count) i })

pub answer_one : (x y : Result ℕ Refusal) → answer_number x ≡ answer_number y → answer_length x ≡ answer_length y → x ≡ y
answer_one (Err r) (Err s) e e' = ap Err (number_tells r s e)
answer_one (Err r) (Ok n) e e' = absurd (eqb-false (refusal_number r) 0 (some_number r) e)
answer_one (Ok n) (Err s) e e' = absurd (eqb-false (refusal_number s) 0 (some_number s) (sym e))
answer_one (Ok n) (Ok m) e e' = ap Ok e'

-- ---- a struct is its fields

pub count_one : {s : List ℕ} {at : ℕ} {x y : Counted} → CountRead s at x → CountRead s at y → x ≡ y
count_one p q = λ i. record { count = (p.count ∙ sym q.count) i; next = record { at = (p.moved ∙ sym q.moved) i } }

pub header_one : {s : List ℕ} {at : ℕ} {x y : Header} → HeaderRead s at x → HeaderRead s at y → x ≡ y
header_one p q = λ i. record {
  at = (p.place ∙ sym q.place) i;
  kind = (p.kind ∙ sym q.kind) i;
  number = (p.number ∙ sym q.number) i;
  sum = (p.sum ∙ sym q.sum) i;
  date = (p.date ∙ sym q.date) i;
  marks = (p.marks ∙ sym q.marks) i;
  next = record { at = (p.moved ∙ sym q.moved) i };
}

pub message_one : {s : List ℕ} {bulk_kind at : ℕ} {x y : Message} → MessageRead s bulk_kind at x → MessageRead s bulk_kind at y → x ≡ y
message_one p q = λ i. record {
  at = (p.place ∙ sym q.place) i;
  kind = (p.kind ∙ sym q.kind) i;
  amount = (p.amount ∙ sym q.amount) i;
  original = (p.original ∙ sym q.original) i;
  next = record { at = (p.moved ∙ sym q.moved) i };
}

pub walk_one : {s : List ℕ} {x y : Walk} → WalkStarted s x → WalkStarted s y → x ≡ y
walk_one p q = λ i. record {
  heads = record { at = (p.heads ∙ sym q.heads) i };
  bodies = record { at = (p.bodies ∙ sym q.bodies) i };
}

pub bulk_one : {s : List ℕ} {head at : ℕ} {x y : BulkRead} → BulkTaken s head at x → BulkTaken s head at y → x ≡ y
bulk_one p q = λ i. record {
  header = header_one p.header q.header i;
  section = record { at = (p.first ∙ sym q.first) i; number = (p.number ∙ sym q.number) i };
  next = record {
    heads = record { at = (p.heads ∙ sym q.heads) i };
    bodies = record { at = (p.bodies ∙ sym q.bodies) i };
  };
}

pub places_one : {line section : ℕ} {x y : Places} → PlacesTold x line section → PlacesTold y line section → x ≡ y
places_one p q = λ i. record { line = (p.line_is ∙ sym q.line_is) i; section = (p.section_is ∙ sym q.section_is) i }

-- ---- two halves are their value: the low one is a u64. The long paths lead into what the struct's type holds, to that bound; without
-- it (0, 2^64) and (1, 0) would stand for one number.

low_one : (h h' l l' : ℕ) → l < 2 ^ 64 → l' < 2 ^ 64 → h * 2 ^ 64 + l ≡ h' * 2 ^ 64 + l' → l ≡ l'
low_one h h' l l' small small' e = omega arith

high_one : (h h' l l' : ℕ) → l < 2 ^ 64 → l' < 2 ^ 64 → h * 2 ^ 64 + l ≡ h' * 2 ^ 64 + l' → h ≡ h'
high_one h h' l l' small small' e = omega arith

small_one : {x y : Cents} → x.1 < 2 ^ 64 → y.1 < 2 ^ 64 → cents_of x ≡ cents_of y → x ≡ y
small_one {x} {y} p q e = λ i. record {
  0 = high_one x.0 y.0 x.1 y.1 p q e i;
  1 = low_one x.0 y.0 x.1 y.1 p q e i;
}

pub cents_one : {n : ℕ} {x y : Cents} → Held cents_row x → Held cents_row y → cents_of x ≡ n → cents_of y ≡ n → x ≡ y
cents_one p q t t' = small_one p.1.1.1.1.0.1 q.1.1.1.1.0.1 (t ∙ sym t')

pub side_one : {x y : Side} {number cents : ℕ} → Held side_row x → Held side_row y → SideTold x number cents → SideTold y number cents
    → x ≡ y
side_one {x} {y} p q t t' = λ i. record {
  number = record { 0 = (t.number_is ∙ sym t'.number_is) i };
  cents = small_one {x = x.cents} {y = y.cents} p.1.1.1.1.0.1.1.1.0.1 q.1.1.1.1.0.1.1.1.0.1
      (t.cents_is ∙ sym t'.cents_is) i;
}

pub tally_one : {e : Totals} {x y : Tally} → Held tally_row x → Held tally_row y → totals_of x ≡ e → totals_of y ≡ e → x ≡ y
tally_one {x = x} {y = y} p q t t' = λ i. record {
  accepted = record {
    number = record { 0 = ((t ∙ sym t') i).accepted_number };
    cents = small_one {x = x.accepted.cents} {y = y.accepted.cents}
        p.1.1.1.0.1.1.1.0.1.1.1.0.1 q.1.1.1.0.1.1.1.0.1.1.1.0.1
        (λ k. ((t ∙ sym t') k).accepted_cents) i;
  };
  rejected = record {
    number = record { 0 = ((t ∙ sym t') i).rejected_number };
    cents = small_one {x = x.rejected.cents} {y = y.rejected.cents}
        p.1.1.1.1.0.1.1.1.0.1.1.1.0.1 q.1.1.1.1.0.1.1.1.0.1.1.1.0.1
        (λ k. ((t ∙ sym t') k).rejected_cents) i;
  };
}

-- ---- an outcome is its number, its length and its bytes
pub outcomes : IsSet Outcome
outcomes x y p q = λ j i. record {
  number = ℕ_set x.number y.number (λ k. (p k).number) (λ k. (q k).number) j i;
  length = ℕ_set x.length y.length (λ k. (p k).length) (λ k. (q k).length) j i;
  register = is_set ℕ_set x.register y.register (λ k. (p k).register) (λ k. (q k).register) j i;
  positions = is_set ℕ_set x.positions y.positions (λ k. (p k).positions) (λ k. (q k).positions) j i;
  report = is_set ℕ_set x.report y.report (λ k. (p k).report) (λ k. (q k).report) j i;
}

-- what a judging call leaves: nothing of the terms, the sheet and the table, and the bytes of register, positions and report
abbrev Left : Type 0
Left = Unit {0} × (Unit {0} × (Unit {0} × (List ℕ × (List ℕ × (List ℕ × Unit {0})))))

left_one : {ws ws' : Left} → ws.1.1.1.0 ≡ ws'.1.1.1.0 → ws.1.1.1.1.0 ≡ ws'.1.1.1.1.0
    → ws.1.1.1.1.1.0 ≡ ws'.1.1.1.1.1.0 → ws ≡ ws'
left_one p q e = λ i. (tt, (tt, (tt, (p i, (q i, (e i, tt))))))

-- the outcomes that two answers and what they leave make up
module _ (ws ws' : Left) where
  abbrev outcome_of : Left → (List ℕ → List ℕ → List ℕ → Outcome) → Outcome
  outcome_of vs make = make vs.1.1.1.0 vs.1.1.1.1.0 vs.1.1.1.1.1.0

  pub judged_one : {x y : Result ℕ Refusal} → outcome_of ws (left x) ≡ outcome_of ws' (left y) → (x ≡ y) × (ws ≡ ws')
  judged_one {x} {y} e = (
    answer_one x y (λ i. (e i).number) (λ i. (e i).length),
    left_one {ws = ws} {ws' = ws'} (λ i. (e i).register) (λ i. (e i).positions) (λ i. (e i).report),
  )

  pub door_one : {x y : TynderaxoAnswer} → outcome_of ws (door_outcome x) ≡ outcome_of ws' (door_outcome y) → (x ≡ y) × (ws ≡ ws')
  door_one e = (
    λ i. record { number = (e i).number; length = (e i).length },
    left_one {ws = ws} {ws' = ws'} (λ i. (e i).register) (λ i. (e i).positions) (λ i. (e i).report),
  )

-- ---- the route that the door for C hands over is the four values of the lookup
pub way_one : {e : Routed} {x y : TynderaxoRoute} → routed_by x ≡ e → routed_by y ≡ e → x ≡ y
way_one p q = λ i. record {
  number = ((p ∙ sym q) i).number;
  found = ((p ∙ sym q) i).found;
  row = ((p ∙ sym q) i).row;
  reachable = ((p ∙ sym q) i).reachable;
}
