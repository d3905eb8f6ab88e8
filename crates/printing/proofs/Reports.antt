-- What is read back of the report that the judge leaves: its counts are those of the sheet. So a response can be no longer than the
-- input allows. Assumes nothing.
use mathlib.Core.Path.{◌≡◌, refl, sym, ap, ◌∙◌}
use mathlib.Core.Bool.{true}
use mathlib.Core.List.{List, [], ◌++◌, append-nil, append_assoc}
use Prim.Native.Nat.{ℕ, zero, suc, ◌+◌, ◌*◌, ◌^◌, ◌≤◌, ◌<◌}
use native.Mathlib.Nat.{mod-eq_of_lt}
use native.Mathlib.Omega.{arith}
use lib.ListN.{length, drop}
use lib.Seq.{take_at, drop_at}
use Rattle.wire.specs.Field.{Bytes, number_of, bytes_of}
use Rattle.wire.proofs.Numbers.{number_small_lem, bytes_length, written_read}
use Rattle.wire.proofs.Texts.{drop_bytes}
use Rattle.sheet.specs.Sheet.{count_width, header_width, width_at, records_at, count_at, after_messages, bulk_at, bulks_from, bulk_count, message_count, first_section, end_from, messages_from, whole}
use Rattle.sheet.proofs.Bulks.{bulk_wide, sheet_length}
use Rattle.sheet.proofs.Laws.{bulk_inside, end_next, records_length, whole_facts}
use Rattle.report.specs.Line.{message_line_width, sections_place}
use Rattle.rules.specs.declared.Terms.{Terms}
use Rattle.messages.specs.Messages.{State}
use Rattle.judging.specs.Judgement.{judge_bulks, section_of, after_bulk, messages_judged}
use Rattle.refusing.specs.Refusals.{Call}
use Rattle.judging.specs.Outcome.{judgement, report_of}
use Rattle.judging.proofs.Widths.{section_wide, front_length}
use Rattle.judging.proofs.Walks.{bulk_sections}
use Rattle.sections.specs.Layout.{count_in, after_count, later_sections}
use Rattle.sections.specs.Sections.{bulks_text, report_text}
use Rattle.sections.proofs.Lengths.{messages_read, bulks_short}

-- ---- a count, read back

count_read : (n : ℕ) (xs : List ℕ) → n < 2 ^ 32 → count_in (bytes_of count_width n ++ xs) ≡ n
count_read n xs h =
    ap number_of (take_at (bytes_of count_width n) xs count_width (bytes_length count_width n)) ∙ written_read count_width n ∙ mod-eq_of_lt h

-- ---- the sections

section_read : (terms : Terms) (table sheet : List ℕ) (head at : ℕ) (before : State) (xs : List ℕ) → Bytes sheet
    → count_in (section_of terms table (bulk_at sheet head at) before ++ xs) ≡ count_at sheet at
unfolding section_of
section_read terms table sheet head at before xs bytes =
    let n = count_at sheet at in
    let counted : length (records_at sheet (width_at sheet head) n (at + count_width)) ≡ n = records_length (width_at sheet head) sheet n (at + count_width) in
    let lines = (messages_judged terms table (bulk_at sheet head at) before).lines in
    ap count_in (append_assoc (bytes_of count_width (length (records_at sheet (width_at sheet head) n (at + count_width)))) lines xs)
    ∙ ap (λ (k : ℕ). count_in (bytes_of count_width k ++ (lines ++ xs))) counted
    ∙ count_read n (lines ++ xs) (number_small_lem sheet at count_width bytes)

module _ (terms : Terms) (table sheet : List ℕ) (bytes : Bytes sheet) where
  pub sections_read : (n head at : ℕ) (before : State) (xs : List ℕ) → head + header_width * n ≤ length sheet → end_from sheet n head at ≤ length sheet
      → messages_read n ((judge_bulks terms table (bulks_from sheet n head at) before).sections ++ xs) ≡ messages_from sheet n head at
  unfolding messages_read messages_from bulks_from
  sections_read zero head at before xs headed h = refl
  sections_read (suc n) head at before xs headed h =
      let bulk = bulk_at sheet head at in
      let first = section_of terms table bulk before in
      let rest = (judge_bulks terms table (bulks_from sheet n (head + header_width) (after_messages sheet head at)) (after_bulk terms table bulk before)).sections in
      let inside = bulk_inside sheet n head at (omega arith) h in
      let wide : length first ≡ count_width + message_line_width * count_at sheet at = section_wide terms table bulk before (bulk_wide sheet head at (omega arith) inside.messages) ∙ (rw (records_length (width_at sheet head) sheet (count_at sheet at) (at + count_width))) in
      let count : count_in (first ++ (rest ++ xs)) ≡ count_at sheet at = section_read terms table sheet head at before (rest ++ xs) bytes in
      let left : later_sections (first ++ (rest ++ xs)) ≡ rest ++ xs =
      ap (λ (k : ℕ). drop (count_width + message_line_width * k) (first ++ (rest ++ xs))) count ∙ drop_at first (rest ++ xs) (count_width + message_line_width * count_at sheet at) wide in
      let later : messages_read n (rest ++ xs) ≡ messages_from sheet n (head + header_width) (after_messages sheet head at) =
      sections_read n (head + header_width) (after_messages sheet head at) (after_bulk terms table bulk before) xs (omega arith) (rw (end_next sheet n head at) at h) in
      ap (λ (s : List ℕ). messages_read (suc n) (s ++ xs)) (bulk_sections terms table bulk _ before)
      ∙ ap (λ (s : List ℕ). messages_read (suc n) s) (append_assoc first rest xs)
      ∙ ap (λ (k : ℕ). k + messages_read n (later_sections (first ++ (rest ++ xs)))) count
      ∙ ap (λ (s : List ℕ). count_at sheet at + messages_read n s) left
      ∙ ap (λ (k : ℕ). count_at sheet at + k) later

-- ---- the report of a whole sheet

abbrev pub judged_report : Call → List ℕ
judged_report call = report_of (bulk_count call.sheet) (judgement call)

module _ (call : Call) (bytes : Bytes call.sheet) (e : whole call.sheet ≡ true) where
  ended : end_from call.sheet (bulk_count call.sheet) count_width (first_section call.sheet) ≤ length call.sheet
  ended = let end = (whole_facts call.sheet e).ended in omega arith

  report_text_lem : report_text (judged_report call) ≡ bulks_text (bulk_count call.sheet) (after_count (judged_report call)) (judgement call).sections
  unfolding report_text
  report_text_lem =
      let count : count_in (judged_report call) ≡ bulk_count call.sheet =
      ap count_in (append_assoc (bytes_of count_width (bulk_count call.sheet)) (judgement call).lines (judgement call).sections)
      ∙ count_read (bulk_count call.sheet) ((judgement call).lines ++ (judgement call).sections) (number_small_lem call.sheet 0 count_width bytes) in
      let left : drop (sections_place (bulk_count call.sheet)) (judged_report call) ≡ (judgement call).sections =
      drop_at (bytes_of count_width (bulk_count call.sheet) ++ (judgement call).lines) (judgement call).sections (sections_place (bulk_count call.sheet)) (front_length call e) in
      rw (count, left)

  -- a report prints to no more than twice the sheet
  pub report_short : Bytes (judged_report call) → length (report_text (judged_report call)) ≤ 2 * length call.sheet
  report_short written =
      let b = bulk_count call.sheet in
      let cut : drop (sections_place b) (judged_report call) ≡ (judgement call).sections =
      drop_at (bytes_of count_width b ++ (judgement call).lines) (judgement call).sections (sections_place b) (front_length call e) in
      let sections : Bytes (judgement call).sections = rw cut at (drop_bytes (sections_place b) (judged_report call) written) in
      let short = bulks_short b (after_count (judged_report call)) (judgement call).sections (drop_bytes count_width (judged_report call) written) sections in
      let read : messages_read b (judgement call).sections ≡ message_count call.sheet =
      ap (messages_read b) (sym (append-nil (judgement call).sections))
      ∙ sections_read call.terms call.table call.sheet bytes b count_width (first_section call.sheet) (record { register = call.register; positions = call.positions }) [] (whole_facts call.sheet e).headed ended in
      let size = sheet_length call.sheet b count_width (first_section call.sheet) in
      let end = (whole_facts call.sheet e).ended in
      rw report_text_lem (omega arith)
