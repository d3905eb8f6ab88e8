-- Where the lines of a report lie, for one that may end early. Assumes nothing.
use Rattle.std.specs.Prelude.{ℕ, ◌+◌, ◌*◌, List, drop}
use Rattle.wire.specs.Field.{number_at}
use Rattle.report.specs.Line.{count_width, message_line_width}

-- a report begins with the number of its bulks, a section with that of its messages; lines follow the count
abbrev pub count_in : List ℕ → ℕ
count_in s = number_at s 0 count_width

abbrev pub after_count : List ℕ → List ℕ
after_count s = drop count_width s

-- the sections after the first
abbrev pub later_sections : List ℕ → List ℕ
later_sections sections = drop (count_width + message_line_width * count_in sections) sections
