-- What a caller reads in the report of a file that was judged: its lines are those of the judgement. Assumes nothing.
use mathlib.Core.Path.{◌≡◌, sym, ap, ◌∙◌}
use mathlib.Core.List.{List, ◌++◌}
use Prim.Native.Nat.{ℕ, ◌+◌, ◌-◌, ◌*◌, ◌≤◌}
use native.Mathlib.Nat.{add-zero, zero-add, mod-eq_of_lt}
use native.Mathlib.Omega.{arith}
use lib.ListN.{length}
use lib.Seq.{take_all}
use Rattle.wire.specs.Field.{part, number_of, bytes_of}
use Rattle.wire.proofs.Numbers.{bytes_length, written_read}
use Rattle.wire.proofs.Stores.{part_stored}
use Rattle.sheet.specs.Sheet.{count_width, bulk_count, message_count}
use Rattle.report.specs.Line.{bulk_line_width, message_line_width, first_line, sections_place, report_length}
use Rattle.refusing.specs.Refusals.{Call}
use Rattle.judging.specs.Outcome.{Outcome, judgement, report_of, judged_of}
use Rattle.promises.specs.Reading.{line_count, bulk_lines, message_lines}
use Rattle.refusing.proofs.Clear.{Clear}
use Rattle.judging.proofs.Widths.{lines_length, sections_length, front_length, report_length_lem}
use Rattle.wire.proofs.Texts.{part_part, part_front, part_back}

module _ (call : Call) (clear : Clear call) where
  abbrev b : ℕ
  b = bulk_count call.sheet

  abbrev m : ℕ
  m = message_count call.sheet

  abbrev left : Outcome
  left = judged_of call (judgement call)

  abbrev front : List ℕ
  front = bytes_of count_width b ++ (judgement call).lines

  abbrev report_long : length (report_of b (judgement call)) ≡ report_length b m
  report_long = report_length_lem call clear.whole

  abbrev front_long : length front ≡ sections_place b
  front_long = front_length call clear.whole

  -- what stands in the report is read there, as it would be in the text that was written
  pub read_there : (o n : ℕ) → o + n ≤ report_length b m → part left.report o n ≡ part (report_of b (judgement call)) o n
  read_there o n h =
      let fits : 0 + report_length b m ≤ length call.report = (let s = clear.space in omega arith) in
      sym (
      ap (λ (xs : List ℕ). part xs o n) (sym (part_stored call.report 0 (report_length b m) (report_of b (judgement call)) report_long fits))
      ∙ part_part left.report 0 (report_length b m) o n h
      ∙ ap (λ (k : ℕ). part left.report k n) (zero-add o))

  pub count_read : line_count left ≡ b
  count_read =
      let wide = bytes_length count_width b in
      let few = clear.few_bulks in
      ap number_of (
      read_there 0 count_width (omega arith)
      ∙ part_front front (judgement call).sections 0 count_width (rw front_long (omega arith))
      ∙ part_front (bytes_of count_width b) (judgement call).lines 0 count_width (omega arith)
      ∙ take_all count_width (bytes_of count_width b) (omega arith))
      ∙ written_read count_width b
      ∙ mod-eq_of_lt (omega arith)

  pub lines_read : (o n : ℕ) → o + n ≤ length (judgement call).lines → part left.report (first_line + o) n ≡ part (judgement call).lines o n
  lines_read o n h =
      let long = lines_length call clear.whole in
      read_there (first_line + o) n (omega arith)
      ∙ part_front front (judgement call).sections (first_line + o) n (rw front_long (omega arith))
      ∙ part_back (bytes_of count_width b) (judgement call).lines first_line o n (bytes_length count_width b)

  pub bulk_lines_read : bulk_lines left ≡ (judgement call).lines
  bulk_lines_read =
      let long = lines_length call clear.whole in
      ap (λ (k : ℕ). part left.report first_line (bulk_line_width * k)) count_read
      ∙ lines_read 0 (bulk_line_width * b) (omega arith)
      ∙ take_all (bulk_line_width * b) (judgement call).lines (omega arith)

  pub sections_read : (o n : ℕ) → o + n ≤ length (judgement call).sections → part left.report (sections_place b + o) n ≡ part (judgement call).sections o n
  sections_read o n h =
      let long = sections_length call clear.whole in
      read_there (sections_place b + o) n (omega arith)
      ∙ part_back front (judgement call).sections (sections_place b) o n front_long

  pub message_lines_read : message_lines left ≡ (judgement call).sections
  message_lines_read =
      let long = sections_length call clear.whole in
      let rest : report_length b m - sections_place b ≡ count_width * b + message_line_width * m = omega arith in
      ap (λ (k : ℕ). part left.report (sections_place k) (report_length b m - sections_place k)) count_read
      ∙ ap (λ (n : ℕ). part left.report (sections_place b) n) rest
      ∙ ap (λ (k : ℕ). part left.report k (count_width * b + message_line_width * m)) (sym (add-zero (sections_place b)))
      ∙ sections_read 0 (count_width * b + message_line_width * m) (omega arith)
      ∙ take_all (count_width * b + message_line_width * m) (judgement call).sections (omega arith)
