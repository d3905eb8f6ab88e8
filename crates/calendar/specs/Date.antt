-- Dates of the Gregorian calendar, each written as the number YYYYMMDD, and their order.
-- Definitions only, total on every number; what follows from them stands in proofs/.
use Rattle.std.specs.Prelude.{ℕ, zero, suc, ◌+◌, ◌-◌, ◌/◌, ◌%◌, Bool, cond, not, ◌&&◌, ◌||◌, List, [], ◌∷◌, leb, ltb, eqb, get_or}

abbrev pub year : ℕ → ℕ
year d = d / 10000

abbrev pub month : ℕ → ℕ
month d = d / 100 % 100

abbrev pub day : ℕ → ℕ
day d = d % 100

abbrev pub divisible : ℕ → ℕ → Bool
divisible y n = eqb (y % n) 0

-- divisible by 4, and not by 100 unless by 400
unfoldable pub leap : ℕ → Bool
leap y = divisible y 4 && (not (divisible y 100) || divisible y 400)

-- January to December
abbrev pub month_lengths : ℕ → List ℕ
month_lengths y = 31 ∷ cond (leap y) 29 28 ∷ 31 ∷ 30 ∷ 31 ∷ 30 ∷ 31 ∷ 31 ∷ 30 ∷ 31 ∷ 30 ∷ 31 ∷ []

-- a month that is none, 0 or past December, has no days
unfoldable pub days_in : ℕ → ℕ → ℕ
days_in y m = get_or (0 ∷ month_lengths y) m 0

abbrev pub first_year : ℕ
first_year = 2000

abbrev pub last_year : ℕ
last_year = 2299

-- the month needs no test of its own: one that is none has no days
unfoldable pub is_date : ℕ → Bool
is_date d =
    leb first_year (year d)
    && leb (year d) last_year
    && leb 1 (day d)
    && leb (day d) (days_in (year d) (month d))

-- by year, then by month, then by day
unfoldable pub before : ℕ → ℕ → Bool
before a b =
    ltb (year a) (year b)
    || eqb (year a) (year b)
    && (ltb (month a) (month b) || eqb (month a) (month b) && ltb (day a) (day b))

abbrev pub days_in_year : ℕ → ℕ
days_in_year y = cond (leap y) 366 365

-- the days of the first n years, from first_year on
unfoldable pub days_of_years : ℕ → ℕ
days_of_years zero = 0
days_of_years (suc n) = days_of_years n + days_in_year (first_year + n)

-- the days of the year y that lie in months before m
unfoldable pub days_of_months : ℕ → ℕ → ℕ
days_of_months y zero = 0
days_of_months y (suc m) = days_of_months y m + days_in y m

-- how many days a date lies after 1 January of first_year
unfoldable pub day_number : ℕ → ℕ
day_number d = days_of_years (year d - first_year) + days_of_months (year d) (month d) + (day d - 1)
