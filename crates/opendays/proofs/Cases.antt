-- The definitions tried on single dates, by computation: which are open, what comes next, and how many there are in a stretch. Of other
-- dates nothing is said here. Assumes nothing.
use mathlib.Core.Path.{◌≡◌, refl}
use mathlib.Core.Bool.{Bool, true, false}
use mathlib.Core.List.{List, [], ◌∷◌, map}
use Prim.Native.Nat.{ℕ}
use Rattle.opendays.specs.OpenDay.{open_day}
use Rattle.opendays.specs.Questions.{open_day_answer, next_open_day_answer, open_days_answer, number_of, value_of}
use Rattle.opendays.proofs.Computing.{open_days_compute}

-- Easter 2024 with the days around it, the other holidays of that year, Good Friday 2026, the latest Easter and the earliest, and the ends
-- of the calendar
pub days : List (ℕ × Bool)
days =
    (20240328, true)
    ∷ (20240329, false)
    ∷ (20240330, false)
    ∷ (20240331, false)
    ∷ (20240401, false)
    ∷ (20240402, true)
    ∷ (20240101, false)
    ∷ (20240430, true)
    ∷ (20240501, false)
    ∷ (20240502, true)
    ∷ (20241224, true)
    ∷ (20241225, false)
    ∷ (20241226, false)
    ∷ (20241227, true)
    ∷ (20260403, false)
    ∷ (20260406, false)
    ∷ (20380422, true)
    ∷ (20380423, false)
    ∷ (20380425, false)
    ∷ (20380426, false)
    ∷ (20380427, true)
    ∷ (22850319, true)
    ∷ (22850320, false)
    ∷ (22850322, false)
    ∷ (22850323, false)
    ∷ (22850324, true)
    ∷ (20000101, false)
    ∷ (20000103, true)
    ∷ (22991229, true)
    ∷ (22991230, false)
    ∷ (22991231, false)
    ∷ (20230229, false)
    ∷ (0, false)
    ∷ []

pub days_right : map (λ c. open_day c.0) days ≡ map (λ c. c.1) days
unfolding open_days_compute days
days_right = refl

-- a number, and the value beside it
pub asked : List (ℕ × ℕ × ℕ)
asked =
    (20240328, 0, 1)
    ∷ (20240329, 0, 0)
    ∷ (20230229, 31, 0)
    ∷ (23000101, 31, 0)
    ∷ []

pub asked_right : map {B = ℕ × ℕ} (λ c. (number_of (open_day_answer c.0), value_of (open_day_answer c.0))) asked ≡ map {B = ℕ × ℕ} (λ c. (c.1, c.2)) asked
unfolding open_days_compute asked
asked_right = refl

-- at the end of the calendar, behind which there is none. Further from it the definition's search goes over millions of numbers, too many
-- to compute here: the program `edges` asks for those
pub following : List (ℕ × ℕ × ℕ)
following =
    (22991228, 0, 22991229)
    ∷ (22991229, 32, 0)
    ∷ (22991231, 32, 0)
    ∷ (20230229, 31, 0)
    ∷ []

pub following_right : map {B = ℕ × ℕ} (λ c. (number_of (next_open_day_answer c.0), value_of (next_open_day_answer c.0))) following ≡ map {B = ℕ × ℕ} (λ c. (c.1, c.2)) following
unfolding open_days_compute following
following_right = refl

-- the second date is not counted; either may be no date
pub counts : List (ℕ × ℕ × ℕ × ℕ)
counts =
    (20240328, 20240402, 0, 1)
    ∷ (20240328, 20240403, 0, 2)
    ∷ (20240402, 20240328, 0, 0)
    ∷ (20240402, 20240402, 0, 0)
    ∷ (20241223, 20241231, 0, 4)
    ∷ (20230229, 20240402, 31, 0)
    ∷ (20240402, 20230229, 31, 0)
    ∷ []

pub counts_right : map {B = ℕ × ℕ} (λ c. (number_of (open_days_answer c.0 c.1), value_of (open_days_answer c.0 c.1))) counts ≡ map {B = ℕ × ℕ} (λ c. (c.2, c.3)) counts
unfolding open_days_compute counts
counts_right = refl
