-- The two kinds of line, how their fields are read, and where they stand in the report. Assumes nothing.
use Rattle.std.specs.Prelude.{ℕ, ◌+◌, ◌*◌, List, ◌++◌}
use Rattle.wire.specs.Field.{part, number_at, bytes_of}
pub use Rattle.wire.specs.Field.{count_width}
use Rattle.tally.specs.Tally.{Totals}

-- ---- the fields of a line. Both kinds begin with identifier, outcome and faults

abbrev pub identifier_width : ℕ
identifier_width = 35

abbrev pub outcome_place : ℕ
outcome_place = identifier_width

abbrev pub outcome_width : ℕ
outcome_width = 1

abbrev pub faults_place : ℕ
faults_place = outcome_place + outcome_width

abbrev pub faults_width : ℕ
faults_width = 2

abbrev pub line_head_width : ℕ
line_head_width = faults_place + faults_width

-- a bulk line goes on with accepted number, accepted cents, rejected number, rejected cents
abbrev pub number_width : ℕ
number_width = 4

abbrev pub accepted_number_place : ℕ
accepted_number_place = line_head_width

abbrev pub accepted_cents_place : ℕ
accepted_cents_place = accepted_number_place + number_width

abbrev pub accepted_cents_width : ℕ
accepted_cents_width = 8

abbrev pub rejected_number_place : ℕ
rejected_number_place = accepted_cents_place + accepted_cents_width

abbrev pub rejected_cents_place : ℕ
rejected_cents_place = rejected_number_place + number_width

abbrev pub rejected_cents_width : ℕ
rejected_cents_width = 10

abbrev pub bulk_line_width : ℕ
bulk_line_width = rejected_cents_place + rejected_cents_width

-- a message line has nothing more
unfoldable pub message_line_width : ℕ
message_line_width = line_head_width

-- ---- the lines

abbrev pub line_head : List ℕ → ℕ → ℕ → List ℕ
line_head identifier outcome faults = identifier ++ bytes_of outcome_width outcome ++ bytes_of faults_width faults

unfoldable pub bulk_line : List ℕ → ℕ → ℕ → Totals → List ℕ
bulk_line identifier outcome faults t =
    line_head identifier outcome faults
    ++ bytes_of number_width t.accepted_number
    ++ bytes_of accepted_cents_width t.accepted_cents
    ++ bytes_of number_width t.rejected_number
    ++ bytes_of rejected_cents_width t.rejected_cents

unfoldable pub message_line : List ℕ → ℕ → ℕ → List ℕ
message_line identifier outcome faults = line_head identifier outcome faults

-- ---- a line's fields, read from its bytes

abbrev pub identifier_in : List ℕ → List ℕ
identifier_in line = part line 0 identifier_width

abbrev pub outcome_in : List ℕ → ℕ
outcome_in line = number_at line outcome_place outcome_width

abbrev pub faults_in : List ℕ → ℕ
faults_in line = number_at line faults_place faults_width

abbrev pub totals_in : List ℕ → Totals
totals_in line =
    record {
      accepted_number = number_at line accepted_number_place number_width;
      accepted_cents = number_at line accepted_cents_place accepted_cents_width;
      rejected_number = number_at line rejected_number_place number_width;
      rejected_cents = number_at line rejected_cents_place rejected_cents_width;
    }

-- ---- the report: the number of bulks and a line for each, then for each a section: the number of messages and a line for each

abbrev pub first_line : ℕ
first_line = count_width

abbrev pub sections_place : ℕ → ℕ
sections_place bulks = first_line + bulk_line_width * bulks

-- where the lines of a section begin, and where it ends
abbrev pub lines_at : ℕ → ℕ
lines_at section = section + count_width

abbrev pub after_lines : ℕ → ℕ → ℕ
after_lines section n = lines_at section + message_line_width * n

-- the bytes of line i of a report, and of line j of a section
abbrev pub bulk_line_at : List ℕ → ℕ → List ℕ
bulk_line_at report i = part report (first_line + bulk_line_width * i) bulk_line_width

abbrev pub message_line_at : List ℕ → ℕ → List ℕ
message_line_at section j = part section (lines_at 0 + message_line_width * j) message_line_width

-- what so many bulks and messages take
abbrev pub report_length : ℕ → ℕ → ℕ
report_length bulks messages = first_line + (bulk_line_width + count_width) * bulks + message_line_width * messages
