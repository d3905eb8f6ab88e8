-- All lines of a report, of the positions and of the register. Assumes nothing.
use Rattle.std.specs.Prelude.{ℕ, zero, suc, List, [], ◌++◌, take, drop}
use Rattle.report.specs.Line.{bulk_line_width, message_line_width, sections_place}
use Rattle.positions.specs.Positions.{rows, position_at}
use Rattle.register.specs.Register.{used}
use Rattle.lines.specs.Lines.{bulk_text, message_text}
use Rattle.figures.specs.Figures.{position_text, used_text}
use Rattle.sections.specs.Layout.{count_in, after_count, later_sections}

-- n message lines
unfoldable pub messages_text : ℕ → List ℕ → List ℕ
messages_text zero lines = []
messages_text (suc n) lines = message_text (take message_line_width lines) ++ messages_text n (drop message_line_width lines)

-- the first section: its count, then so many message lines
abbrev pub section_text : List ℕ → List ℕ
section_text sections = messages_text (count_in sections) (after_count sections)

-- n bulk lines, each with the messages of its section
unfoldable pub bulks_text : ℕ → List ℕ → List ℕ → List ℕ
bulks_text zero lines sections = []
bulks_text (suc n) lines sections =
    bulk_text (take bulk_line_width lines)
    ++ section_text sections
    ++ bulks_text n (drop bulk_line_width lines) (later_sections sections)

unfoldable pub report_text : List ℕ → List ℕ
report_text report = bulks_text (count_in report) (after_count report) (drop (sections_place (count_in report)) report)

-- the positions of n rows from row i on
unfoldable pub positions_from : List ℕ → ℕ → ℕ → List ℕ
positions_from positions zero i = []
positions_from positions (suc n) i = position_text i (position_at positions i) ++ positions_from positions n (suc i)

unfoldable pub positions_text : List ℕ → List ℕ
positions_text positions = positions_from positions (rows positions) 0

-- what is printed of a file that was judged
unfoldable pub judged_text : List ℕ → List ℕ → List ℕ → List ℕ
judged_text register positions report = report_text report ++ positions_text positions ++ used_text (used register)
