-- The laws of the loops that print: what one turn more adds to the text. Assumes nothing.
use mathlib.Core.Path.{◌≡◌, refl, sym, ap, ◌∙◌}
use mathlib.Core.List.{List, [], ◌++◌, append-nil, append_assoc}
use Prim.Native.Nat.{ℕ, zero, suc, ◌+◌, ◌*◌, ◌≤◌}
use native.Mathlib.Nat.{add-zero, zero-add, mul-zero}
use native.Mathlib.Omega.{arith}
use lib.ListN.{take, drop}
use lib.Seq.{drop-drop}
use Rattle.wire.specs.Field.{part}
use Rattle.report.specs.Line.{count_width, bulk_line_width, message_line_width, bulk_line_at, message_line_at, sections_place}
use Rattle.positions.specs.Positions.{rows, position_at}
use Rattle.register.specs.Register.{used}
use Rattle.lines.specs.Lines.{message_text, bulk_text}
use Rattle.figures.specs.Figures.{position_text, used_text}
use Rattle.sections.specs.Layout.{count_in, after_count, later_sections}
use Rattle.sections.specs.Sections.{messages_text, section_text, bulks_text, report_text, positions_from, positions_text, judged_text}

-- ---- the messages of a section

pub messages_more : (i : ℕ) (lines : List ℕ)
    → messages_text i lines ++ message_text (part lines (message_line_width * i) message_line_width) ≡ messages_text (i + 1) lines
unfolding messages_text
messages_more zero lines =
    ap (λ (k : ℕ). message_text (part lines k message_line_width)) (mul-zero message_line_width) ∙ sym (append-nil (message_text (take message_line_width lines)))
messages_more (suc i) lines =
    let place : message_line_width * suc i ≡ message_line_width + message_line_width * i = omega arith in
    let next : suc i + 1 ≡ suc (i + 1) = omega arith in
    rw (place, ← (drop-drop (message_line_width * i) message_line_width lines), next)
    (append_assoc (message_text (take message_line_width lines)) (messages_text i (drop message_line_width lines)) _
    ∙ ap (λ (r : List ℕ). message_text (take message_line_width lines) ++ r) (messages_more i (drop message_line_width lines)))

module _ (s : List ℕ) (i : ℕ) where
  pub section_turn_lem : (line : List ℕ) → line ≡ message_line_at s i
      → messages_text i (after_count s) ++ message_text line ≡ messages_text (i + 1) (after_count s)
  section_turn_lem line cut = rw (cut, ← (drop-drop (message_line_width * i) count_width s)) (messages_more i (after_count s))

  pub section_ends : (n : ℕ) → n ≡ count_in s → i ≤ n → n ≤ i → messages_text i (after_count s) ≡ section_text s
  section_ends n is low high = let end : i ≡ count_in s = omega arith in ap (λ (k : ℕ). messages_text k (after_count s)) end

-- ---- the bulks of a report

-- the sections after the first i
unfoldable pub sections_after : ℕ → List ℕ → List ℕ
sections_after zero sections = sections
sections_after (suc i) sections = sections_after i (later_sections sections)

pub sections_more : (i : ℕ) (sections : List ℕ) → sections_after (i + 1) sections ≡ later_sections (sections_after i sections)
unfolding sections_after
sections_more zero sections = refl
sections_more (suc i) sections = let next : suc i + 1 ≡ suc (i + 1) = omega arith in rw next (sections_more i (later_sections sections))

regroup : (first x y z : List ℕ) → first ++ x ++ y ++ z ≡ first ++ (x ++ y ++ z)
regroup first x y z = simp append_assoc

pub bulks_more : (i : ℕ) (lines sections : List ℕ)
    → bulks_text i lines sections ++ bulk_text (part lines (bulk_line_width * i) bulk_line_width) ++ section_text (sections_after i sections)
    ≡ bulks_text (i + 1) lines sections
unfolding bulks_text sections_after
bulks_more zero lines sections = sym (append-nil (bulk_text (take bulk_line_width lines) ++ section_text sections))
bulks_more (suc i) lines sections =
    let place : bulk_line_width * suc i ≡ bulk_line_width + bulk_line_width * i = omega arith in
    let next : suc i + 1 ≡ suc (i + 1) = omega arith in
    rw (place, ← (drop-drop (bulk_line_width * i) bulk_line_width lines), next)
    (regroup (bulk_text (take bulk_line_width lines) ++ section_text sections) (bulks_text i (drop bulk_line_width lines) (later_sections sections)) _ _
    ∙ ap (λ (r : List ℕ). bulk_text (take bulk_line_width lines) ++ section_text sections ++ r) (bulks_more i (drop bulk_line_width lines) (later_sections sections)))

module _ (report : List ℕ) (b i place : ℕ) (here : drop place report ≡ sections_after i (drop (sections_place b) report)) where
  pub report_turn : (line section : List ℕ) → line ≡ bulk_line_at report i → section ≡ drop place report
      → bulks_text i (after_count report) (drop (sections_place b) report) ++ bulk_text line ++ section_text section
      ≡ bulks_text (i + 1) (after_count report) (drop (sections_place b) report)
  report_turn line section cut rest =
      let all : section ≡ sections_after i (drop (sections_place b) report) = rest ∙ here in
      rw (cut, ← (drop-drop (bulk_line_width * i) count_width report), all) (bulks_more i (after_count report) (drop (sections_place b) report))

  pub report_place : (next : ℕ) → drop next report ≡ later_sections (drop place report)
      → drop next report ≡ sections_after (i + 1) (drop (sections_place b) report)
  report_place next e = e ∙ ap (λ (s : List ℕ). later_sections s) here ∙ sym (sections_more i (drop (sections_place b) report))

pub report_starts : (report : List ℕ) (b place : ℕ) → place ≡ sections_place b → drop place report ≡ sections_after 0 (drop (sections_place b) report)
unfolding sections_after
report_starts report b place e = rw e

pub bulks_none : (lines sections : List ℕ) → [] ≡ bulks_text 0 lines sections
unfolding bulks_text
bulks_none lines sections = refl

pub report_ends : (report : List ℕ) (b i : ℕ) → b ≡ count_in report → i ≤ b → b ≤ i
    → bulks_text i (after_count report) (drop (sections_place b) report) ≡ report_text report
unfolding report_text
report_ends report b i is low high = let end : i ≡ b = omega arith in rw (end, is)

-- ---- the rows' positions

pub positions_more : (positions : List ℕ) (i k : ℕ)
    → positions_from positions i k ++ position_text (k + i) (position_at positions (k + i)) ≡ positions_from positions (i + 1) k
unfolding positions_from
positions_more positions zero k = rw (add-zero k) (sym (append-nil (position_text k (position_at positions k))))
positions_more positions (suc i) k =
    let place : k + suc i ≡ suc k + i = omega arith in
    let next : suc i + 1 ≡ suc (i + 1) = omega arith in
    rw (place, next)
    (append_assoc (position_text k (position_at positions k)) (positions_from positions i (suc k)) _
    ∙ ap (λ (r : List ℕ). position_text k (position_at positions k) ++ r) (positions_more positions i (suc k)))

pub positions_turn : (positions : List ℕ) (i bits : ℕ) → bits ≡ position_at positions i
    → positions_from positions i 0 ++ position_text i bits ≡ positions_from positions (i + 1) 0
positions_turn positions i bits is =
    rw is (ap (λ (k : ℕ). positions_from positions i 0 ++ position_text k (position_at positions k)) (sym (zero-add i)) ∙ positions_more positions i 0)

pub positions_end : (positions : List ℕ) (i n : ℕ) → n ≡ rows positions → i ≤ n → n ≤ i → positions_from positions i 0 ≡ positions_text positions
unfolding positions_text
positions_end positions i n is low high = let end : i ≡ rows positions = omega arith in ap (λ (k : ℕ). positions_from positions k 0) end

-- ---- before the first turn

pub messages_none : (lines : List ℕ) → [] ≡ messages_text 0 lines
unfolding messages_text
messages_none lines = refl

pub positions_none : (positions : List ℕ) → [] ≡ positions_from positions 0 0
unfolding positions_from
positions_none positions = refl

-- ---- all of it

pub judged_pieces : (register positions report : List ℕ) (n : ℕ) → n ≡ used register
    → report_text report ++ positions_text positions ++ used_text n ≡ judged_text register positions report
unfolding judged_text
judged_pieces register positions report n is = rw is
