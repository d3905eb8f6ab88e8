-- How long the text of an outcome can be, of bytes: no longer than the sheet and the positions allow. Assumes nothing.
use mathlib.Core.Path.{◌≡◌, refl, sym, ap, subst, ◌∙◌}
use mathlib.Core.Bool.{Bool, true, false, cond}
use mathlib.Core.List.{List}
use Prim.Native.Nat.{ℕ, ◌+◌, ◌*◌, ◌^◌, ◌≤◌, ◌<◌}
use native.Mathlib.Omega.{arith}
use lib.Dec.{eqb}
use lib.ListN.{length, take, length-append}
use lib.Seq.{sets}
use borrow.Author.Tests.{eqb-true}
use Rattle.wire.specs.Field.{Bytes}
use Rattle.wire.proofs.Texts.{take_bytes}
use Rattle.wire.proofs.Stores.{part_stored}
use Rattle.sheet.specs.Sheet.{bulk_count, message_count}
use Rattle.report.specs.Line.{report_length}
use Rattle.refusing.specs.Refusals.{Call, refusal}
use Rattle.judging.specs.Outcome.{Outcome, outcome, left}
use Rattle.refusing.proofs.Clear.{clear_of}
use Rattle.refusing.proofs.Numbers.{refusal_small}
use Rattle.judging.proofs.Answers.{number_is_lem, outcome_judged}
use Rattle.judging.proofs.Widths.{report_length_lem}
use Rattle.std.specs.Prelude.{Result}
use Rattle.refusing.specs.declared.Refusal.{Refusal}
use Rattle.figures.specs.Figures.{refusal_text}
use Rattle.figures.proofs.Lengths.{refusal_short}
use Rattle.sections.specs.Sections.{judged_text}
use Rattle.sections.proofs.Lengths.{all_positions_short, used_short}
use Rattle.printing.specs.Response.{outcome_text}
use Rattle.printing.proofs.Reports.{judged_report, report_short}

-- ---- the number of a refusal

outcome_number : (call : Call) → (outcome call).number < 100
outcome_number call = rw (number_is_lem call) (let small = refusal_small call in omega arith)

-- ---- the text of an outcome, of bytes

abbrev most : Call → List ℕ → ℕ
most call positions = 2 * length call.sheet + 6 * length positions + 13

module _ (call : Call) (sheet : Bytes call.sheet) (register : Bytes (outcome call).register) (positions : Bytes (outcome call).positions)
    (report : Bytes (outcome call).report) (few : length (outcome call).positions ≤ 10 ^ 20) where
  judged_short : (outcome call).number ≡ 0
      → length (judged_text (outcome call).register (outcome call).positions (take (outcome call).length (outcome call).report)) ≤ most call (outcome call).positions
  unfolding judged_text
  judged_short e =
      let none : refusal call ≡ 0 = sym (number_is_lem call) ∙ e in
      let is = outcome_judged call none in
      let clear = clear_of call none in
      let long : (outcome call).length ≡ report_length (bulk_count call.sheet) (message_count call.sheet) = ap (λ (o : Outcome). o.length) is in
      let written : (outcome call).report ≡ sets call.report 0 (judged_report call) = ap (λ (o : Outcome). o.report) is in
      let read : take (outcome call).length (outcome call).report ≡ judged_report call =
      rw (long, written)
      (part_stored call.report 0 (report_length (bulk_count call.sheet) (message_count call.sheet)) (judged_report call) (report_length_lem call clear.whole) (omega (arith, clear.space))) in
      let lines : Bytes (judged_report call) = rw read at (take_bytes (outcome call).length (outcome call).report report) in
      let first = report_short call sheet clear.whole lines in
      let second = all_positions_short (outcome call).positions positions few in
      let third = used_short (outcome call).register register in
      rw read (simp length-append (omega arith))

  pub outcome_short : length (outcome_text (outcome call)) ≤ most call (outcome call).positions
  unfolding outcome_text
  outcome_short = by_test (eqb (outcome call).number 0) refl
    where
      by_test : (t : Bool) → eqb (outcome call).number 0 ≡ t
          → length (cond t (judged_text (outcome call).register (outcome call).positions (take (outcome call).length (outcome call).report)) (refusal_text (outcome call).number))
          ≤ most call (outcome call).positions
      by_test true e = judged_short (eqb-true (outcome call).number 0 e)
      by_test false e = let short = refusal_short (outcome call).number (outcome_number call) in omega arith

-- as the judge leaves it: it kept the number of positions
pub answer_short : (call : Call) (answered : Result ℕ Refusal) (register positions report before : List ℕ) → left answered register positions report ≡ outcome call
    → Bytes call.sheet → Bytes register → Bytes positions → Bytes report → length positions ≡ length before → length before ≤ 10 ^ 20
    → length (outcome_text (outcome call)) ≤ 2 * length call.sheet + 6 * length before + 13
answer_short call answered register positions report before is sheet hr hp ho same few =
    let short : length (outcome_text (outcome call)) ≤ most call positions =
    subst (λ (o : Outcome). Bytes o.register → Bytes o.positions → Bytes o.report → length o.positions ≤ 10 ^ 20
    → length (outcome_text (outcome call)) ≤ most call o.positions) (sym is)
    (λ a b c d. outcome_short call sheet a b c d) hr hp ho (omega arith) in
    omega arith
