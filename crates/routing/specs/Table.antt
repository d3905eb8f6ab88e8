-- The routing table's layout, and when a table is well formed. Total: a row past the end reads as what is left of it. Assumes nothing.
use Rattle.std.specs.Prelude.{ℕ, ◌+◌, ◌-◌, ◌*◌, ◌/◌, Bool, ◌&&◌, ◌||◌, List, length, leb, eqb}
use Rattle.wire.specs.Field.{part, number_at}
pub use Rattle.wire.specs.Field.{count_width}
use Rattle.wire.specs.Places.{every_from}

-- ---- a row: BIC, first date, last date, kind. The BIC is that of an institution, then of its branch

abbrev pub institution_width : ℕ
institution_width = 8

abbrev pub branch_width : ℕ
branch_width = 3

abbrev pub bic_width : ℕ
bic_width = institution_width + branch_width

abbrev pub first_date_place : ℕ
first_date_place = bic_width

abbrev pub date_width : ℕ
date_width = 4

abbrev pub last_date_place : ℕ
last_date_place = first_date_place + date_width

abbrev pub kind_place : ℕ
kind_place = last_date_place + date_width

abbrev pub row_width : ℕ
row_width = kind_place + 1

-- ---- the kinds

abbrev pub not_reachable : ℕ
not_reachable = 0

abbrev pub participant : ℕ
participant = 5

-- of an addressable BIC
abbrev pub holder : ℕ
holder = 6

abbrev pub through_step2 : ℕ
through_step2 = 20

abbrev pub known_kind : ℕ → Bool
known_kind kind = eqb kind not_reachable || eqb kind participant || eqb kind holder || eqb kind through_step2

-- ---- the table: the number of rows, and the rows

abbrev pub most_rows : ℕ
most_rows = 8192

abbrev pub row_at : ℕ → ℕ
row_at i = count_width + row_width * i

abbrev pub bic_at : List ℕ → ℕ → List ℕ
bic_at table i = part table (row_at i) bic_width

abbrev pub first_date : List ℕ → ℕ → ℕ
first_date table i = number_at table (row_at i + first_date_place) date_width

abbrev pub last_date : List ℕ → ℕ → ℕ
last_date table i = number_at table (row_at i + last_date_place) date_width

abbrev pub kind_at : List ℕ → ℕ → ℕ
kind_at table i = number_at table (row_at i + kind_place) 1

-- the number of rows that the table states, and the whole rows that it holds
abbrev pub stated_rows : List ℕ → ℕ
stated_rows table = number_at table 0 count_width

abbrev pub rows : List ℕ → ℕ
rows table = (length table - count_width) / row_width

-- of every row, also of one that does not count
unfoldable pub kinds_known : List ℕ → Bool
kinds_known table = every_from (λ i. known_kind (kind_at table i)) (rows table) 0

-- refusal 2 is given exactly where this does not hold
unfoldable pub well_formed : List ℕ → Bool
well_formed table =
    leb count_width (length table)
    && eqb (length table) (count_width + row_width * stated_rows table)
    && leb (stated_rows table) most_rows
    && kinds_known table
