-- Easter Sunday of a year by the Gregorian rule: the Sunday after the full moon of spring, where that moon is reckoned and not looked at.
-- The steps and their numbers are those of the reform of 1582. Definitions only; in the years 2000 to 2299 no subtraction here would go
-- below 0.
use Rattle.std.specs.Prelude.{ℕ, ◌+◌, ◌*◌, ◌-◌, ◌/◌, ◌%◌, cond, ◌&&◌, ◌||◌, leb, ltb, eqb}
use Rattle.calendar.specs.Date.{day_number}
use Rattle.calendar.specs.Days.{date_of, weekday}

-- ---- where the year stands

-- new moons come back to their dates every 19 years: which of the 19 it is, from 1 on
abbrev pub golden_number : ℕ → ℕ
golden_number y = y % 19 + 1

-- 21 for 2000 to 2099
abbrev pub century : ℕ → ℕ
century y = y / 100 + 1

-- ---- the moon

-- the leap days that were left out since 1582, three in four centuries
abbrev pub leap_days_dropped : ℕ → ℕ
leap_days_dropped y = 3 * century y / 4 - 12

-- the days by which the moon ran ahead of its 19 years, eight in 25 centuries
abbrev pub moon_ahead : ℕ → ℕ
moon_ahead y = (8 * century y + 5) / 25 - 5

-- the age of the moon in days when the year begins
abbrev pub epact : ℕ → ℕ
epact y = (11 * golden_number y + 20 + moon_ahead y - leap_days_dropped y) % 30

-- two of them are taken as a day more, so that no full moon comes later than 18 April, nor at one date twice in the 19 years
abbrev pub moved_epact : ℕ → ℕ
moved_epact y = cond (eqb (epact y) 24 || eqb (epact y) 25 && ltb 11 (golden_number y)) (epact y + 1) (epact y)

-- ---- the days of spring, counted from 1 March on: 32 is 1 April

abbrev pub march_date : ℕ → ℕ → ℕ
march_date y n = cond (leb n 31) (date_of y 3 n) (date_of y 4 (n - 31))

-- the full moon of the epact, or where that is before 21 March the next one, 30 days later
abbrev pub full_moon : ℕ → ℕ
full_moon y = cond (ltb (44 - moved_epact y) 21) (74 - moved_epact y) (44 - moved_epact y)

-- the Sunday after it; where it is a Sunday itself, the next
unfoldable pub easter_day : ℕ → ℕ
easter_day y = full_moon y + (7 - weekday (day_number (march_date y (full_moon y))))

-- ---- the dates

abbrev pub easter_sunday : ℕ → ℕ
easter_sunday y = march_date y (easter_day y)

-- two days before
abbrev pub good_friday : ℕ → ℕ
good_friday y = march_date y (easter_day y - 2)

-- the day after
abbrev pub easter_monday : ℕ → ℕ
easter_monday y = march_date y (easter_day y + 1)
