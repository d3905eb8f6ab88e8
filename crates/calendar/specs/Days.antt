-- Days one after the other: the day after a date, and the day of the week. Definitions only, total on every number.
use Rattle.std.specs.Prelude.{ℕ, ◌+◌, ◌*◌, ◌%◌, ◌≤◌, cond, ltb}
use Rattle.calendar.specs.Date.{year, month, day, days_in, first_year, last_year}

abbrev pub date_of : ℕ → ℕ → ℕ → ℕ
date_of y m d = y * 10000 + m * 100 + d

-- a year of the calendar
pub record YearOf (y : ℕ) : Type 0 where
  pub not_before : first_year ≤ y
  pub not_after : y ≤ last_year

abbrev pub last_date : ℕ
last_date = date_of last_year 12 31

-- the days of all its years
abbrev pub all_days : ℕ
all_days = 109573

-- in the same month, else the first of the next, else the first of the next year
unfoldable pub day_after : ℕ → ℕ
day_after d =
    cond (ltb (day d) (days_in (year d) (month d))) (d + 1)
    (cond (ltb (month d) 12) (date_of (year d) (month d + 1) 1)
    (date_of (year d + 1) 1 1))

-- ---- the week, from Sunday on

abbrev pub sunday : ℕ
sunday = 0

abbrev pub saturday : ℕ
saturday = 6

-- of the day with this number: the day with the number 0, 1 January 2000, was a Saturday
unfoldable pub weekday : ℕ → ℕ
weekday n = (n + saturday) % 7
