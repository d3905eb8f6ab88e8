-- The program's input: the date, then three parts, each behind its length. Assumes nothing.
use Rattle.std.specs.Prelude.{ℕ, ◌+◌, ◌*◌, Bool, ◌&&◌, List, length, drop, leb, eqb}
use Rattle.wire.specs.Field.{part, number_at}

abbrev pub date_width : ℕ
date_width = 4

abbrev pub length_width : ℕ
length_width = 4

abbrev pub most_part : ℕ
most_part = 16384

-- a date and three parts: no longer input is taken
abbrev pub most_input : ℕ
most_input = date_width + 3 * (length_width + most_part)

-- ---- the rest of an input, from a part's length on

abbrev pub length_in : List ℕ → ℕ
length_in rest = number_at rest 0 length_width

-- a part and its length stand at the start, and the part isn't too long
abbrev pub fits : List ℕ → Bool
fits rest = leb (length_in rest) most_part && leb (length_width + length_in rest) (length rest)

abbrev pub part_in : List ℕ → List ℕ
part_in rest = part rest length_width (length_in rest)

abbrev pub after_part : List ℕ → List ℕ
after_part rest = drop (length_width + length_in rest) rest

-- ---- the input, from each part on

abbrev pub table_on : List ℕ → List ℕ
table_on input = drop date_width input

abbrev pub register_on : List ℕ → List ℕ
register_on input = after_part (table_on input)

abbrev pub sheet_on : List ℕ → List ℕ
sheet_on input = after_part (register_on input)

-- nothing follows the sheet
unfoldable pub in_shape : List ℕ → Bool
in_shape input =
    fits (table_on input)
    && fits (register_on input)
    && fits (sheet_on input)
    && eqb (length (after_part (sheet_on input))) 0

-- ---- what it holds

abbrev pub date_in : List ℕ → ℕ
date_in input = number_at input 0 date_width

abbrev pub table_in : List ℕ → List ℕ
table_in input = part_in (table_on input)

abbrev pub register_in : List ℕ → List ℕ
register_in input = part_in (register_on input)

abbrev pub sheet_in : List ℕ → List ℕ
sheet_in input = part_in (sheet_on input)
