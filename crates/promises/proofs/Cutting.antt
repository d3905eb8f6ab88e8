-- The cut, proved of the outcome that the judge is proved to compute. Assumes nothing.
use mathlib.Core.Path.{◌≡◌, refl, sym, ap, ap₂, ◌∙◌}
use mathlib.Core.Bool.{true, false}
use mathlib.Core.List.{List, ◌++◌, map-append}
use Prim.Native.Nat.{ℕ, ◌+◌, ◌-◌, ◌*◌, ◌^◌, ◌≤◌, ◌<◌}
use native.Mathlib.Omega.{arith}
use lib.ListN.{length, drop, length-drop}
use lib.Seq.{take_all}
use Rattle.wire.specs.Field.{part}
use Rattle.sheet.specs.Sheet.{count_width, header_width, Bulk, bulk_count, message_count, first_section, bulks_from, bulks_of, messages_from, count_messages, end_from, whole, kinds_known, mixed}
use Rattle.sheet.proofs.Laws.{whole_facts, end_forward}
use Rattle.messages.specs.Messages.{State}
use Rattle.judging.specs.Judgement.{judge_bulks}
use Rattle.refusing.specs.Refusals.{Call, refusal}
use Rattle.judging.specs.Outcome.{Outcome, judgement, judged_of, outcome}
use Rattle.promises.specs.Reading.{InBytes, bulk_lines, message_lines}
use Rattle.promises.specs.Cut.{cut_place, first_part, second_part, first_call, second_call, Enough, PartsMakeTheWhole, CutsAnywhere}
use Rattle.sheet.proofs.Bulks.{bulks_split, messages_split, end_split}
use Rattle.sheet.proofs.Headers.{headers, known_parts, order_parts}
use Rattle.refusing.proofs.Clear.{Clear, clear_of, of_clear}
use Rattle.judging.proofs.Answers.{outcome_judged}
use Rattle.promises.proofs.Fit.{Fit, fit_less, bulks_fit, clear_fit}
use Rattle.promises.proofs.Joined.{joins}
use Rattle.judging.proofs.Widths.{bulk_number, message_number}
use Rattle.promises.proofs.Lines.{bulk_lines_read, message_lines_read}
use Rattle.sheet.proofs.Taken.{HoldsBulks, taken_holds}

module _ (call : Call) (clear : Clear call) (k : ℕ) (h : k ≤ bulk_count call.sheet) where
  abbrev s : List ℕ
  s = call.sheet

  abbrev b : ℕ
  b = bulk_count call.sheet

  abbrev start : ℕ
  start = first_section call.sheet

  abbrev cut : ℕ
  cut = cut_place call.sheet k

  abbrev one : List ℕ
  one = first_part call.sheet k

  abbrev two : List ℕ
  two = second_part call.sheet k

  all : k + (b - k) ≡ b
  all = omega arith

  few : b < 256 ^ count_width
  few = (let f = clear.few_bulks in omega arith)

  cut_ends : end_from s (b - k) (count_width + header_width * k) cut ≡ length s
  cut_ends = sym (end_split s k (b - k) count_width start) ∙ ap (λ (n : ℕ). end_from s n count_width start) all ∙ (whole_facts s clear.whole).ended

  first_holds : HoldsBulks one s k count_width start
  first_holds =
      let headed = (whole_facts s clear.whole).headed in
      let forward = end_forward s k count_width start in
      let later = end_forward s (b - k) (count_width + header_width * k) cut in
      let ends = cut_ends in
      let small = few in
      taken_holds s k count_width start (cut - start) (omega arith) (omega arith) (omega arith) (omega arith)

  second_holds : HoldsBulks two s (b - k) (count_width + header_width * k) cut
  second_holds =
      let headed = (whole_facts s clear.whole).headed in
      let later = end_forward s (b - k) (count_width + header_width * k) cut in
      let ends = cut_ends in
      let small = few in
      let rest : drop cut s ≡ part s cut (length s - cut) = sym (take_all (length s - cut) (drop cut s) (rw (length-drop cut s) (omega arith))) in
      rw rest (taken_holds s (b - k) (count_width + header_width * k) cut (length s - cut) (omega arith) (omega arith) (omega arith) (omega arith))

  bulks_are : bulks_of s ≡ bulks_of one ++ bulks_of two
  bulks_are =
      ap (λ (n : ℕ). bulks_from s n count_width start) (sym all)
      ∙ bulks_split s k (b - k) count_width start
      ∙ ap₂ (λ (x y : List Bulk). x ++ y) (sym first_holds.bulks) (sym second_holds.bulks)

  messages_are : message_count s ≡ message_count one + message_count two
  messages_are =
      ap (λ (n : ℕ). messages_from s n count_width start) (sym all)
      ∙ messages_split s k (b - k) count_width start
      ∙ ap₂ ◌+◌ (sym first_holds.messages) (sym second_holds.messages)

  kinds_are : (kinds_known (headers (bulks_of one)) ≡ true) × (kinds_known (headers (bulks_of two)) ≡ true)
  kinds_are = known_parts (headers (bulks_of one)) (headers (bulks_of two)) (rw (← (map-append (λ (x : Bulk). x.header) (bulks_of one) (bulks_of two)), ← bulks_are) clear.kinds)

  order_is : (mixed false (headers (bulks_of one)) ≡ false) × (mixed false (headers (bulks_of two)) ≡ false)
  order_is = order_parts false (headers (bulks_of one)) (headers (bulks_of two)) (rw (← (map-append (λ (x : Bulk). x.header) (bulks_of one) (bulks_of two)), ← bulks_are) clear.order)

  module _ (bytes : InBytes call) (space space' : List ℕ) (enough : Enough one space) (enough' : Enough two space') where
    abbrev before : State
    before = record { register = call.register; positions = call.positions }

    abbrev c1 : Call
    c1 = first_call call k space

    abbrev o1 : Outcome
    o1 = judged_of c1 (judgement c1)

    abbrev c2 : Call
    c2 = second_call call k o1 space'

    abbrev o2 : Outcome
    o2 = judged_of c2 (judgement c2)

    -- a part of the file is not refused, on a state that has room for it
    part_clear : (t : List ℕ) (st : State) (space : List ℕ) → whole t ≡ true → bulk_count t ≤ b → message_count t ≤ message_count s
        → kinds_known (headers (bulks_of t)) ≡ true → mixed false (headers (bulks_of t)) ≡ false
        → Fit call.terms call.table st (bulk_count t + message_count t) (message_count t) → Enough t space
        → Clear (record { terms = call.terms; sheet = t; table = call.table; register = st.register; positions = st.positions; report = space })
    part_clear t st space ended fewer fewer' known ordered fit enough =
        let fb = clear.few_bulks in
        let fm = clear.few_messages in
        record {
          date = clear.date;
          table = clear.table;
          places = fit.places;
          formed = fit.spare.formed;
          whole = ended;
          few_bulks = omega arith;
          few_messages = omega arith;
          kinds = known;
          order = ordered;
          room = fit.spare.left;
          limit = fit.room;
          space = enough;
        }

    -- the state that the file found has room for both parts
    together : Fit call.terms call.table before (bulk_count one + message_count one + (bulk_count two + message_count two)) (message_count one + message_count two)
    together =
        let m = messages_are in
        let n = first_holds.count in
        let n' = second_holds.count in
        fit_less call.terms call.table before (b + message_count s) (message_count s)
        (bulk_count one + message_count one + (bulk_count two + message_count two)) (message_count one + message_count two)
        (clear_fit call clear bytes.positions) (omega arith) (omega arith)

    first_clear : Clear c1
    first_clear =
        let m = messages_are in
        let n = first_holds.count in
        part_clear one before space first_holds.whole (omega arith) (omega arith) kinds_are.0 order_is.0
        (fit_less call.terms call.table before (bulk_count one + message_count one + (bulk_count two + message_count two)) (message_count one + message_count two) (bulk_count one + message_count one) (message_count one) together (omega arith) (omega arith)) enough

    -- that which the first part leaves has room for the second
    between : Fit call.terms call.table (judgement c1).after (bulk_count two + message_count two) (message_count two)
    between =
        let ln = bulk_number c1 first_clear.whole in
        let lm = message_number c1 first_clear.whole in
        bulks_fit call.terms call.table (bulks_of one) before (bulk_count two + message_count two) (message_count two)
        (fit_less call.terms call.table before (bulk_count one + message_count one + (bulk_count two + message_count two)) (message_count one + message_count two)
        (length (bulks_of one) + count_messages (bulks_of one) + (bulk_count two + message_count two)) (count_messages (bulks_of one) + message_count two) together (omega arith) (omega arith))

    second_clear : Clear c2
    second_clear =
        let m = messages_are in
        let n = second_holds.count in
        part_clear two (judgement c1).after space' second_holds.whole (omega arith) (omega arith) kinds_are.1 order_is.1 between enough'

    parts_make : PartsMakeTheWhole (judged_of call (judgement call)) o1 o2
    parts_make =
        let joined = joins call.terms call.table (bulks_of one) (bulks_of two) before in
        record {
          first_judged = refl;
          second_judged = refl;
          bulk_lines =
              bulk_lines_read call clear
              ∙ ap (λ (bs : List Bulk). (judge_bulks call.terms call.table bs before).lines) bulks_are
              ∙ joined.lines
              ∙ ap₂ (λ (x y : List ℕ). x ++ y) (sym (bulk_lines_read c1 first_clear)) (sym (bulk_lines_read c2 second_clear));
          message_lines =
              message_lines_read call clear
              ∙ ap (λ (bs : List Bulk). (judge_bulks call.terms call.table bs before).sections) bulks_are
              ∙ joined.sections
              ∙ ap₂ (λ (x y : List ℕ). x ++ y) (sym (message_lines_read c1 first_clear)) (sym (message_lines_read c2 second_clear));
          register = sym (ap (λ (bs : List Bulk). (judge_bulks call.terms call.table bs before).after.register) bulks_are ∙ ap (λ (st : State). st.register) joined.after);
          positions = sym (ap (λ (bs : List Bulk). (judge_bulks call.terms call.table bs before).after.positions) bulks_are ∙ ap (λ (st : State). st.positions) joined.after);
        }

    cut_made : PartsMakeTheWhole (outcome call) (outcome c1) (outcome (second_call call k (outcome c1) space'))
    cut_made =
        rw (outcome_judged call (of_clear call clear), outcome_judged c1 (of_clear c1 first_clear), outcome_judged c2 (of_clear c2 second_clear)) parts_make

-- Cut a file that is not refused after any of its bulks, or before the first: neither part is refused, their lines are those of the
-- whole, and register and positions end equal.
pub cut_anywhere : CutsAnywhere outcome
cut_anywhere call bytes e k h space space' enough enough' =
    cut_made call (clear_of call e) k h bytes space space' enough enough'

-- and the two parts hold the file's bulks, all of them and in order
pub parts_are_the_bulks : (call : Call) → refusal call ≡ 0 → (k : ℕ) → k ≤ bulk_count call.sheet
    → bulks_of call.sheet ≡ bulks_of (first_part call.sheet k) ++ bulks_of (second_part call.sheet k)
parts_are_the_bulks call e k h = bulks_are call (clear_of call e) k h
