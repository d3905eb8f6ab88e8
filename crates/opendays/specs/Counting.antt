-- How the code counts open days: the days from Monday to Friday by whole weeks, less the holidays among them, year by year. That this is
-- the length of the list in Questions is proved in proofs/Stretch.antt. Assumes nothing.
use Rattle.std.specs.Prelude.{ℕ, zero, suc, ◌+◌, ◌*◌, ◌-◌, ◌/◌, ◌%◌, ◌<◌, ◌≡◌, true, not, ◌&&◌, List, [], ◌∷◌, leb, ltb}
use Rattle.wire.specs.Field.{bit}
use Rattle.calendar.specs.Date.{is_date}
use Rattle.opendays.specs.OpenDay.{weekend, holidays}

-- a stretch from one date to a later one
pub record Forward (from to : ℕ) : Type 0 where
  pub first : is_date from ≡ true
  pub second : is_date to ≡ true
  pub later : from < to

-- those from Monday to Friday among the first n days, which begin with a Saturday and a Sunday
abbrev pub workdays_before : ℕ → ℕ
workdays_before n = n / 7 * 5 + (n % 7 - 2)

-- 1 for a holiday that takes a day from the stretch: it lies there, and on no weekend
abbrev pub closed_at : ℕ → ℕ → ℕ → ℕ
closed_at from to h = bit (leb from h && ltb h to && not (weekend h))

abbrev pub total : (ℕ → ℕ) → List ℕ → ℕ
total f [] = 0
total f (h ∷ hs) = f h + total f hs

abbrev pub closed_in : ℕ → ℕ → ℕ → ℕ
closed_in from to y = total (closed_at from to) (holidays y)

-- over the n years from y on
unfoldable pub over : (ℕ → ℕ) → ℕ → ℕ → ℕ
over f y zero = 0
over f y (suc n) = over f y n + f (y + n)

abbrev pub closed_over : ℕ → ℕ → ℕ → ℕ → ℕ
closed_over from to y n = over (closed_in from to) y n
