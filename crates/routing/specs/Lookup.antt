-- The row of a BIC on a date, whether it is reachable, and what a question is answered with. Assumes nothing.
use Rattle.std.specs.Prelude.{ℕ, Bool, false, cond, not, ◌&&◌, List, ◌++◌, length, take, leb, eqb, Option as RustOption, Some, None, Result, Ok, Err}
use Rattle.std.proofs.Math.Option.{Option, none, some}
use Rattle.wire.specs.Field.{bit, text, part, same}
use Rattle.wire.specs.Places.{first_from}
use Rattle.calendar.specs.Date.{is_date}
use Rattle.routing.specs.Table.{institution_width, branch_width, bic_width, not_reachable, participant, rows, bic_at, first_date, last_date, kind_at, well_formed}
use Rattle.routing.specs.declared.Refusal.{Refusal}
use Rattle.routing.specs.declared.Refusal.TheVariants.{Date, Table, Bic}
use Rattle.routing.specs.declared.Row.{Row}

-- ---- the row

-- row i counts on the date
abbrev pub counts : ℕ → List ℕ → ℕ → Bool
counts date table i = leb (first_date table i) date && leb date (last_date table i)

-- row i bears the BIC, all of it, and counts
abbrev pub bears : ℕ → List ℕ → List ℕ → ℕ → Bool
bears date table bic i = same (bic_at table i) bic && counts date table i

-- the first such row in table order
unfoldable pub row_of : ℕ → List ℕ → List ℕ → Option ℕ
row_of date table bic = first_from (bears date table bic) (rows table) 0

-- XXX stands for the head office
abbrev pub xxx : List ℕ
xxx = text "XXX"

abbrev pub head_office : List ℕ → List ℕ
head_office bic = take institution_width bic ++ xxx

abbrev pub head_office_row : ℕ → List ℕ → List ℕ → Option ℕ
head_office_row date table bic = row_of date table (head_office bic)

abbrev pub is_head_office : List ℕ → Bool
is_head_office bic = same (part bic institution_width branch_width) xxx

abbrev pub or_else : Option ℕ → Option ℕ → Option ℕ
or_else (some i) other = some i
or_else none other = other

-- a row of the BIC itself, whatever its kind; where there is none, that of its head office, unless the BIC is one itself
unfoldable pub route : ℕ → List ℕ → List ℕ → Option ℕ
route date table bic = or_else (row_of date table bic) (cond (is_head_office bic) none (head_office_row date table bic))

-- a row that was found is reachable unless its kind says that it is not
abbrev pub reachable : List ℕ → Option ℕ → Bool
reachable table none = false
reachable table (some i) = not (eqb (kind_at table i) not_reachable)

-- and it participates if its kind says so
abbrev pub participates : List ℕ → Option ℕ → Bool
participates table none = false
participates table (some i) = eqb (kind_at table i) participant

-- ---- the answer

-- refusal number, 1 if a row was found, its place, 1 if it is reachable
pub record Routed : Type 0 where
  pub number : ℕ
  pub found : ℕ
  pub row : ℕ
  pub reachable : ℕ

abbrev pub refused : ℕ → Routed
refused n = record { number = n; found = 0; row = 0; reachable = 0 }

abbrev pub missing : Routed
missing = record { number = 0; found = 0; row = 0; reachable = 0 }

abbrev pub row_is : ℕ → Bool → Routed
row_is i b = record { number = 0; found = 1; row = i; reachable = bit b }

abbrev pub routed : List ℕ → Option ℕ → Routed
routed table none = missing
routed table (some i) = row_is i (reachable table (some i))

abbrev pub lookup_number : Refusal → ℕ
lookup_number Date = 1
lookup_number Table = 2
lookup_number Bic = 18

-- the refusals in their order, then the row
unfoldable pub lookup : ℕ → List ℕ → List ℕ → Routed
lookup date table bic =
    cond (not (is_date date)) (refused (lookup_number Date))
    (cond (not (well_formed table)) (refused (lookup_number Table))
    (cond (not (eqb (length bic) bic_width)) (refused (lookup_number Bic))
    (routed table (route date table bic))))

-- ---- what the functions tell

abbrev pub option_of : RustOption ℕ → Option ℕ
option_of (Some i) = some i
option_of None = none

abbrev pub values_of : Result (RustOption Row) Refusal → Routed
values_of (Err r) = refused (lookup_number r)
values_of (Ok None) = missing
values_of (Ok (Some row)) = row_is row.place row.reachable
