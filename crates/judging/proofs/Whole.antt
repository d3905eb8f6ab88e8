-- The whole call: a refusal, or the count, the bulk lines and the sections as one report. Assumes nothing.
use mathlib.Core.Path.{◌≡◌, refl, sym, ap, subst, ◌∙◌}
use mathlib.Core.Bool.{Bool, true, false, cond}
use mathlib.Core.List.{List, ◌++◌}
use Prim.Native.Nat.{ℕ, ◌+◌, ◌*◌, ◌≤◌}
use native.Mathlib.Nat.{zero-add}
use native.Mathlib.Omega.{arith}
use lib.Dec.{eqb}
use lib.ListN.{length, length-append}
use lib.Seq.{sets}
use Rattle.wire.specs.Field.{bytes_of}
use Rattle.wire.proofs.Numbers.{bytes_length}
use Rattle.wire.proofs.Stores.{sets_then}
use Rattle.routing.specs.Promise.{Formed}
use Rattle.routing.proofs.Laws.{formed_told}
use Rattle.sheet.specs.Sheet.{bulk_count, message_count}
use Rattle.tally.specs.Room.{most_counted}
use Rattle.report.specs.Line.{count_width, bulk_line_width, first_line, sections_place, report_length}
use Rattle.index.specs.Searches.{slots_read_by}
use Rattle.index.specs.Ready.{index_by, Ready}
use Rattle.refusing.specs.Refusals.{Call, holds, refusals, first_holding, refusal, indexed_refusal}
use Rattle.refusing.specs.Checking.{asked, lent_bytes, Measured, Few, Told}
use Rattle.sheet.specs.declared.Contents.{Contents}
use Rattle.refusing.specs.declared.Refusal.{Refusal}
use Rattle.refusing.specs.declared.Refusal.TheVariants.{Date}
use Rattle.refusing.proofs.Clear.{Clear, asked_clear}
use Rattle.messages.specs.Ready.{state_of}
use Rattle.judging.specs.Outcome.{left, turned_away, judgement, judged_of, outcome}
use Rattle.judging.specs.Indexed.{searches_of, indexed_left, indexed_away, indexed_outcome}
use Rattle.judging.specs.Ready.{BulksReady, BulksTold, outcome_by}
use Rattle.std.specs.Prelude.{Option, Result, Ok, Err}
use Rattle.std.specs.Option.{is_some}
use Rattle.std.specs.Bool.{then_some}
use Rattle.std.specs.Borrow.{Bor}
use Rattle.judging.proofs.Widths.{lines_length}

-- the check of a call that lends an index only where it is judged by one
pub asked_told : (indexed : Bool) (index : Bor (List ℕ)) (lent : Option (Bor (List ℕ))) (call : Call) (checked : Result Contents Refusal) → lent ≡ then_some indexed index
    → Told Date (asked (is_some lent) (lent_bytes lent) call) call.sheet checked → Told Date (asked indexed index.now call) call.sheet checked
asked_told indexed index lent call checked e told =
    by_test indexed checked (subst (λ (o : Option (Bor (List ℕ))). Told Date (asked (is_some o) (lent_bytes o) call) call.sheet checked) e told)
  where
    by_test : (t : Bool) (x : Result Contents Refusal) → Told Date (asked (is_some (then_some t index)) (lent_bytes (then_some t index)) call) call.sheet x → Told Date (asked t index.now call) call.sheet x
    by_test true x told = told
    by_test false (Ok contents) told = told
    by_test false (Err r) told = told

module _ (indexed : Bool) (call : Call) (index : List ℕ) (checked : Result Contents Refusal) where
  -- the check from its first condition on is the whole check
  module _ (contents : Contents) (e : checked ≡ Ok contents) (told : Told Date (asked indexed index call) call.sheet checked) where
    passed : (first_holding (asked indexed index call) refusals ≡ 0) × Measured call.sheet contents
    passed = subst (Told Date (asked indexed index call) call.sheet) e told

    all_clear : Clear call × (index ≡ index_by indexed index call.register)
    all_clear = asked_clear indexed call index passed.0

    clear : Clear call
    clear = all_clear.0

    few : Few call.sheet contents
    few =
        let m = passed.1 in
        record { measured = m; bulks = rw m.bulk_count clear.few_bulks; messages = rw m.message_count clear.few_messages }

    pub bulks_ready : (report' : List ℕ) → length report' ≡ length call.report → BulksReady call.sheet call.table call.positions report' contents
    bulks_ready report' kept =
        let m = passed.1 in
        record { few = few; places = clear.places; space = rw (kept, m.bulk_count, m.message_count) clear.space }

    pub entries_ready : Ready indexed call.register index (contents.bulks + contents.messages)
    entries_ready =
        let m = passed.1 in
        record { spare = record { formed = clear.formed; left = rw (m.bulk_count, m.message_count) clear.room }; kept = all_clear.1 }

    pub table_formed : Formed call.table
    table_formed = (formed_told call.table true (sym clear.table)).formed refl

    pub both_few : (contents.bulks ≤ most_counted) × (contents.messages ≤ most_counted)
    both_few = (let b = few.bulks in let m = few.messages in (omega arith, omega arith))

    module _ (counted register' index' positions' report' : List ℕ) (slots : ℕ) (count : counted ≡ sets call.report 0 (bytes_of count_width contents.bulks))
        (judged : BulksTold call.terms call.sheet call.table indexed contents.bulks (state_of call.register call.positions) index counted register' index' positions' report' slots) where
      whole_report : report' ≡ sets call.report 0 (bytes_of count_width contents.bulks ++ (judgement call).lines ++ (judgement call).sections)
      whole_report =
          let m = passed.1 in
          let long : length (judgement call).lines ≡ bulk_line_width * contents.bulks = rw m.bulk_count (lines_length call m.whole) in
          let front : length (bytes_of count_width contents.bulks ++ (judgement call).lines) ≡ sections_place contents.bulks = length-append (bytes_of count_width contents.bulks) _ ∙ (rw (bytes_length count_width contents.bulks, long)) in
          judged.written
          ∙ ap (λ (r : List ℕ). sets (sets r first_line (judgement call).lines) (sections_place contents.bulks) (judgement call).sections) count
          ∙ ap (λ (r : List ℕ). sets r (sections_place contents.bulks) (judgement call).sections) (sets_then call.report 0 first_line (bytes_of count_width contents.bulks) (judgement call).lines (bytes_length count_width contents.bulks))
          ∙ ap (λ (k : ℕ). sets (sets call.report 0 (bytes_of count_width contents.bulks ++ (judgement call).lines)) k (judgement call).sections) (sym (zero-add (sections_place contents.bulks)))
          ∙ sets_then call.report 0 (sections_place contents.bulks) (bytes_of count_width contents.bulks ++ (judgement call).lines) (judgement call).sections front

      length_is : report_length contents.bulks contents.messages ≡ report_length (bulk_count call.sheet) (message_count call.sheet)
      length_is = (let m = passed.1 in rw (m.bulk_count, m.message_count))

      report_is : report' ≡ (judged_of call (judgement call)).report
      report_is =
          whole_report
          ∙ ap (λ (k : ℕ). sets call.report 0 (bytes_of count_width k ++ (judgement call).lines ++ (judgement call).sections)) passed.1.bulk_count

      outcome_is_lem : (n : ℕ) → n ≡ report_length contents.bulks contents.messages → left (Ok n) register' positions' report' ≡ judged_of call (judgement call)
      outcome_is_lem n told-length =
          λ i. record {
            number = 0;
            length = (told-length ∙ length_is) i;
            register = judged.register i;
            positions = judged.positions i;
            report = report_is i;
          }

      pub judged_told : (n : ℕ) → n ≡ report_length contents.bulks contents.messages
          → indexed_left (Ok (record { length = n; slots = slots })) register' positions' report' index' ≡ outcome_by indexed call index
      judged_told n told-length =
          rw passed.0 (λ i. record { outcome = outcome_is_lem n told-length i; slots = judged.read i; index = judged.kept i })

-- ---- what either judge hands out of it

pub plain_outcome : (call : Call) (index : List ℕ) → (outcome_by false call index).outcome ≡ outcome call
unfolding outcome refusal
plain_outcome call index = by_test (eqb (first_holding (λ r. holds r call) refusals) 0)
  where
    by_test : (t : Bool)
        → (cond t (record { outcome = judged_of call (judgement call); slots = slots_read_by false (searches_of call); index = index }) (indexed_away call index (first_holding (λ r. holds r call) refusals))).outcome
        ≡ cond t (judged_of call (judgement call)) (turned_away call (first_holding (λ r. holds r call) refusals))
    by_test true = refl
    by_test false = refl

pub by_index : (call : Call) (index : List ℕ) → outcome_by true call index ≡ indexed_outcome call index
unfolding indexed_outcome indexed_refusal
by_index call index = refl
