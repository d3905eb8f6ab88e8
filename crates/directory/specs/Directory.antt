-- The directory of a table on a date: slots that name the first row of each BIC among the rows that count. A judgement makes it once and
-- finds every row by it; it stands in no byte that was lent. Assumes nothing.
use Rattle.std.specs.Prelude.{ℕ, ◌*◌, List, replicate}
use Rattle.slots.specs.Stored.{slot_width, picked_in}
use Rattle.slots.specs.declared.Layout.{Layout}
use Rattle.routing.specs.Table.{bic_width, row_width, count_width, rows}
use Rattle.routing.specs.Lookup.{counts}

-- where the BICs of a table's rows stand
abbrev pub row_layout : Layout
row_layout = record { first = count_width; stride = row_width; width = bic_width }

-- a prime, not far from twice the rows that a table may have
abbrev pub slot_number : ℕ
slot_number = 14983

abbrev pub directory_length : ℕ
directory_length = slot_width * slot_number

unfoldable pub blank : List ℕ
blank = replicate directory_length 0

-- those of the first k rows that count on the date, added in their order
unfoldable pub directory_to : ℕ → List ℕ → ℕ → List ℕ
directory_to date table k = picked_in (counts date table) row_layout table directory_length k

abbrev pub directory_of : ℕ → List ℕ → List ℕ
directory_of date table = directory_to date table (rows table)
