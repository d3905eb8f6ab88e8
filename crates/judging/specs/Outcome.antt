-- The outcome of a call as one record: the answer, and every byte that it leaves. Assumes nothing.
use Rattle.std.specs.Prelude.{ℕ, cond, List, ◌++◌, eqb, Result, Ok, Err}
use Rattle.std.proofs.lemmas.List.Edits.{sets}
use Rattle.wire.specs.Field.{bytes_of}
use Rattle.sheet.specs.Sheet.{bulk_count, message_count, bulks_of}
use Rattle.report.specs.Line.{count_width, report_length}
use Rattle.judging.specs.Judgement.{JudgedBulks, judge_bulks}
use Rattle.refusing.specs.Refusals.{Call, refusal_number, refusal}
use Rattle.refusing.specs.declared.Refusal.{Refusal}

pub record Outcome : Type 0 where
  pub number : ℕ
  pub length : ℕ
  pub register : List ℕ
  pub positions : List ℕ
  pub report : List ℕ

-- a refusal changes no byte
abbrev pub turned_away : Call → ℕ → Outcome
turned_away call n =
    record { number = n; length = 0; register = call.register; positions = call.positions; report = call.report }

-- the judgement of all the call's bulks
abbrev pub judgement : Call → JudgedBulks
judgement call = judge_bulks call.terms call.table (bulks_of call.sheet) (record { register = call.register; positions = call.positions })

-- the bulk lines after their count, then the sections
abbrev pub report_of : ℕ → JudgedBulks → List ℕ
report_of bulks judged = bytes_of count_width bulks ++ judged.lines ++ judged.sections

abbrev pub judged_of : Call → JudgedBulks → Outcome
judged_of call judged =
    record {
      number = 0;
      length = report_length (bulk_count call.sheet) (message_count call.sheet);
      register = judged.after.register;
      positions = judged.after.positions;
      report = sets call.report 0 (report_of (bulk_count call.sheet) judged);
    }

unfoldable pub outcome : Call → Outcome
outcome call = cond (eqb (refusal call) 0) (judged_of call (judgement call)) (turned_away call (refusal call))

-- ---- the number and the length for each case of the answer

abbrev pub answer_number : Result ℕ Refusal → ℕ
answer_number (Err r) = refusal_number r
answer_number (Ok n) = 0

abbrev pub answer_length : Result ℕ Refusal → ℕ
answer_length (Err r) = 0
answer_length (Ok n) = n

-- an answer and the bytes that were left, as an outcome
abbrev pub left : Result ℕ Refusal → List ℕ → List ℕ → List ℕ → Outcome
left answer register positions report =
    record { number = answer_number answer; length = answer_length answer; register = register; positions = positions; report = report }
