-- The definitions tried on single numbers, by computation: which of them are dates, how many days after 1 January 2000 some dates lie, on
-- which weekday, and which day follows. Of other numbers nothing is said here. Assumes nothing.
use mathlib.Core.Path.{◌≡◌, refl}
use mathlib.Core.Bool.{Bool, true, false}
use mathlib.Core.List.{List, [], ◌∷◌, map}
use Prim.Native.Nat.{ℕ}
use Rattle.calendar.specs.Date.{is_date, days_of_years, day_number}
use Rattle.calendar.specs.Days.{all_days, day_after, weekday}
use Rattle.calendar.proofs.Computing.{dates_compute, days_compute}

pub dates : List (ℕ × Bool)
dates =
    (20240229, true)
    ∷ (20230229, false)
    ∷ (21000229, false)
    ∷ (20000229, true)
    ∷ (22991231, true)
    ∷ (23000101, false)
    ∷ (20000101, true)
    ∷ (19991231, false)
    ∷ (20260431, false)
    ∷ (20261301, false)
    ∷ (20260600, false)
    ∷ (20260015, false)
    ∷ (4294967295, false)
    ∷ (0, false)
    ∷ []

pub dates_right : map (λ c. is_date c.0) dates ≡ map (λ c. c.1) dates
unfolding dates_compute dates
dates_right = refl

-- across a leap day, the ends of a leap year and of a century that has none, and to the last date
pub numbers : List (ℕ × ℕ)
numbers =
    (20000101, 0)
    ∷ (20000229, 59)
    ∷ (20000301, 60)
    ∷ (20001231, 365)
    ∷ (20010101, 366)
    ∷ (20240229, 8825)
    ∷ (21000228, 36583)
    ∷ (21000301, 36584)
    ∷ (22991231, 109572)
    ∷ []

pub numbers_right : map (λ c. day_number c.0) numbers ≡ map (λ c. c.1) numbers
unfolding days_compute numbers
numbers_right = refl

pub all_days_right : days_of_years 300 ≡ all_days
unfolding days_compute
all_days_right = refl

-- a Thursday, a Friday, a Sunday, a Monday, and the last date
pub weekdays : List (ℕ × ℕ)
weekdays =
    (20240229, 4)
    ∷ (20240329, 5)
    ∷ (20260614, 0)
    ∷ (20260615, 1)
    ∷ (22991231, 0)
    ∷ []

pub weekdays_right : map (λ c. weekday (day_number c.0)) weekdays ≡ map (λ c. c.1) weekdays
unfolding days_compute weekdays
weekdays_right = refl

-- within a month, over its end with a leap day and without, and over a year's
pub after : List (ℕ × ℕ)
after =
    (20240227, 20240228)
    ∷ (20240228, 20240229)
    ∷ (20240229, 20240301)
    ∷ (21000228, 21000301)
    ∷ (20241231, 20250101)
    ∷ []

pub after_right : map (λ c. day_after c.0) after ≡ map (λ c. c.1) after
unfolding days_compute after
after_right = refl
