-- What a judged call leaves in register, positions and report, proved of the outcome that the judge is proved to compute. Assumes nothing.
use mathlib.Core.Path.{◌≡◌, sym, ◌∙◌}
use native.Mathlib.Omega.{arith}
use lib.ListN.{length, drop, length-drop}
use lib.Seq.{sets, take_all, length-sets}
use Rattle.wire.proofs.Stores.{part_after}
use Rattle.sheet.specs.Sheet.{bulk_count, message_count}
use Rattle.report.specs.Line.{report_length}
use Rattle.refusing.specs.Refusals.{Call, refusal}
use Rattle.refusing.proofs.Clear.{clear_of}
use Rattle.messages.specs.Messages.{State}
use Rattle.judging.specs.Outcome.{judgement, report_of, outcome}
use Rattle.judging.proofs.Answers.{outcome_judged}
use Rattle.promises.specs.Demands.{LeavesTheRest}
use Rattle.promises.proofs.Entered.{file_added}
use Rattle.judging.proofs.Widths.{report_length_lem}
use Rattle.promises.proofs.Running.{file_tracked}

-- ---- the report

module _ (call : Call) (e : refusal call ≡ 0) where
  later_bytes_lem : drop (outcome call).length (outcome call).report ≡ drop (outcome call).length call.report
  later_bytes_lem =
      let text = report_of (bulk_count call.sheet) (judgement call) in
      let n = report_length (bulk_count call.sheet) (message_count call.sheet) in
      let all = length call.report in
      let long : length text ≡ n = report_length_lem call (clear_of call e).whole in
      rw (outcome_judged call e)
      (sym (take_all all (drop n (sets call.report 0 text)) (simp (length-drop, length-sets) (omega arith)))
      ∙ part_after call.report 0 text n all (omega arith)
      ∙ take_all all (drop n call.report) (simp length-drop (omega arith)))

  as_long : length (outcome call).report ≡ length call.report
  as_long = rw (outcome_judged call e) (length-sets call.report 0 (report_of (bulk_count call.sheet) (judgement call)))

-- ---- all three

pub leaves_the_rest : LeavesTheRest outcome
leaves_the_rest call bytes e =
    let added = file_added call in
    let before : State = record { register = call.register; positions = call.positions } in
    let kept = file_tracked call.terms call.table before (record { sheet = call.sheet; space = call.report }) bytes.positions in
    record {
      entries = added.entries;
      number = added.number;
      later_places = λ k h. added.later k (let n = added.number in omega arith);
      positions = kept.tracked.positions;
      later_bytes = later_bytes_lem call e;
      register_length = added.long;
      positions_length = kept.long;
      report_length = as_long call e;
    }
