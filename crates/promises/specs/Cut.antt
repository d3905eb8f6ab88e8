-- A file cut after any of its bulks: the two parts as sheets, and what holds of them. Assumes nothing.
use Rattle.std.specs.Prelude.{ℕ, ◌+◌, ◌-◌, ◌*◌, ◌≤◌, ◌≡◌, List, ◌++◌, length, drop}
use Rattle.wire.specs.Field.{part, bytes_of}
use Rattle.sheet.specs.Sheet.{count_width, header_width, bulk_count, message_count, first_section, end_from}
use Rattle.report.specs.Line.{report_length}
use Rattle.refusing.specs.Refusals.{Call, refusal}
use Rattle.judging.specs.Outcome.{Outcome}
use Rattle.promises.specs.Reading.{Judge, InBytes, bulk_lines, message_lines}

-- ---- the parts

-- where the sections of the first k bulks end
abbrev pub cut_place : List ℕ → ℕ → ℕ
cut_place sheet k = end_from sheet k count_width (first_section sheet)

-- the first k bulks: their number, their headers, their sections
abbrev pub first_part : List ℕ → ℕ → List ℕ
first_part sheet k =
    bytes_of count_width k
    ++ part sheet count_width (header_width * k)
    ++ part sheet (first_section sheet) (cut_place sheet k - first_section sheet)

-- the others
abbrev pub second_part : List ℕ → ℕ → List ℕ
second_part sheet k =
    bytes_of count_width (bulk_count sheet - k)
    ++ part sheet (count_width + header_width * k) (header_width * (bulk_count sheet - k))
    ++ drop (cut_place sheet k) sheet

-- ---- judged one after the other, on the same terms and table

abbrev pub first_call : Call → ℕ → List ℕ → Call
first_call call k space =
    record {
      terms = call.terms;
      sheet = first_part call.sheet k;
      table = call.table;
      register = call.register;
      positions = call.positions;
      report = space;
    }

-- the second is handed the register and the positions that the first left
abbrev pub second_call : Call → ℕ → Outcome → List ℕ → Call
second_call call k left space =
    record {
      terms = call.terms;
      sheet = second_part call.sheet k;
      table = call.table;
      register = left.register;
      positions = left.positions;
      report = space;
    }

-- a report on the sheet fits into the space
abbrev pub Enough : List ℕ → List ℕ → Type 0
Enough sheet space = report_length (bulk_count sheet) (message_count sheet) ≤ length space

-- ---- what holds

pub record PartsMakeTheWhole (whole first second : Outcome) : Type 0 where
  pub first_judged : first.number ≡ 0
  pub second_judged : second.number ≡ 0
  pub bulk_lines : bulk_lines whole ≡ bulk_lines first ++ bulk_lines second
  pub message_lines : message_lines whole ≡ message_lines first ++ message_lines second
  pub register : second.register ≡ whole.register
  pub positions : second.positions ≡ whole.positions

-- demand 3, the cut: of a judge, for every call that no condition turns away, every place, and space enough for each part
abbrev pub CutsAnywhere : Judge → Type 0
CutsAnywhere judge =
    (call : Call) → InBytes call → refusal call ≡ 0
    → (k : ℕ) → k ≤ bulk_count call.sheet
    → (space space' : List ℕ) → Enough (first_part call.sheet k) space → Enough (second_part call.sheet k) space'
    → let first = judge (first_call call k space) in PartsMakeTheWhole (judge call) first (judge (second_call call k first space'))
