-- How long the lines and sections of a judgement are, and the report that they make. Assumes nothing.
use mathlib.Core.Path.{◌≡◌, refl, ap₂, ◌∙◌}
use mathlib.Core.Bool.{true}
use mathlib.Core.List.{List, [], ◌∷◌, ◌++◌}
use Prim.Native.Nat.{ℕ, ◌+◌, ◌*◌}
use native.Mathlib.Omega.{arith}
use lib.ListN.{length, length-append}
use Rattle.wire.specs.Field.{bytes_of}
use Rattle.wire.proofs.Numbers.{bytes_length}
use Rattle.sheet.specs.Sheet.{kind_of, Bulk, bulk_identifier_of, count_messages, bulk_count, message_count, first_section, bulks_of, whole}
use Rattle.sheet.proofs.Bulks.{BulkWide, BulksWide, bulks_wide}
use Rattle.sheet.proofs.Fields.{bulk_identifier_long}
use Rattle.sheet.proofs.Laws.{whole_facts, bulks_length, bulks_messages}
use Rattle.rules.specs.declared.Terms.{Terms}
use Rattle.report.specs.Line.{count_width, message_line_width, bulk_line_width, sections_place, report_length}
use Rattle.report.proofs.Laws.{bulk_line_length}
use Rattle.refusing.specs.Refusals.{Call}
use Rattle.messages.specs.Messages.{State}
use Rattle.messages.proofs.Widths.{lines_wide}
use Rattle.judging.specs.Judgement.{falls, bulk_line_of, section_of, after_bulk, judge_bulks}
use Rattle.judging.specs.Outcome.{judgement, report_of}

module _ (terms : Terms) (table : List ℕ) where
  pub section_wide : (b : Bulk) (before : State) → BulkWide b → length (section_of terms table b before) ≡ count_width + message_line_width * length b.messages
  unfolding section_of
  section_wide b before wide =
      length-append (bytes_of count_width (length b.messages)) _
      ∙ ap₂ ◌+◌ (bytes_length count_width (length b.messages)) (lines_wide terms table b.header (falls terms table b before) (kind_of b.header) b.messages before wide.messages)

  pub bulk_line_wide : (b : Bulk) (before : State) → BulkWide b → length (bulk_line_of terms table b before) ≡ bulk_line_width
  unfolding bulk_line_of
  bulk_line_wide b before wide = bulk_line_length (bulk_identifier_of b.header) _ _ (bulk_identifier_long b.header wide.header) _

  pub bulk_lines_wide : (bs : List Bulk) (before : State) → BulksWide bs → length (judge_bulks terms table bs before).lines ≡ bulk_line_width * length bs
  unfolding judge_bulks BulksWide
  bulk_lines_wide [] before wide = refl
  bulk_lines_wide (b ∷ bs) before wide =
      let first = bulk_line_wide b before wide.0 in
      let rest = bulk_lines_wide bs (after_bulk terms table b before) wide.1 in
      length-append (bulk_line_of terms table b before) _ ∙ (rw (first, rest) (omega arith))

  pub sections_wide : (bs : List Bulk) (before : State) → BulksWide bs → length (judge_bulks terms table bs before).sections ≡ count_width * length bs + message_line_width * count_messages bs
  unfolding judge_bulks BulksWide count_messages
  sections_wide [] before wide = omega arith
  sections_wide (b ∷ bs) before wide =
      let first = section_wide b before wide.0 in
      let rest = sections_wide bs (after_bulk terms table b before) wide.1 in
      length-append (section_of terms table b before) _ ∙ (rw (first, rest) (omega arith))

-- ---- of a whole sheet

module _ (call : Call) (e : whole call.sheet ≡ true) where
  abbrev b : ℕ
  b = bulk_count call.sheet

  abbrev m : ℕ
  m = message_count call.sheet

  pub all_wide : BulksWide (bulks_of call.sheet)
  all_wide =
      let facts = whole_facts call.sheet e in
      bulks_wide call.sheet b count_width (first_section call.sheet) facts.headed (let end = facts.ended in omega arith)

  pub bulk_number : length (bulks_of call.sheet) ≡ b
  bulk_number = bulks_length call.sheet b count_width (first_section call.sheet)

  pub message_number : count_messages (bulks_of call.sheet) ≡ m
  message_number = bulks_messages call.sheet b count_width (first_section call.sheet)

  pub lines_length : length (judgement call).lines ≡ bulk_line_width * b
  lines_length =
      bulk_lines_wide call.terms call.table (bulks_of call.sheet) (record { register = call.register; positions = call.positions }) all_wide
      ∙ (rw bulk_number)

  pub sections_length : length (judgement call).sections ≡ count_width * b + message_line_width * m
  sections_length =
      sections_wide call.terms call.table (bulks_of call.sheet) (record { register = call.register; positions = call.positions }) all_wide
      ∙ (rw (bulk_number, message_number))

  -- what stands before the sections
  abbrev pub front : List ℕ
  front = bytes_of count_width b ++ (judgement call).lines

  pub front_length : length front ≡ sections_place b
  front_length = length-append (bytes_of count_width b) (judgement call).lines ∙ (rw (bytes_length count_width b, lines_length))

  pub report_length_lem : length (report_of b (judgement call)) ≡ report_length b m
  report_length_lem = length-append front (judgement call).sections ∙ (rw (front_length, sections_length) (omega arith))
