-- What follows from the rule. Proved of each year: the full moon lies from 21 March to 18 April and Easter Sunday from 22 March to
-- 25 April; it is a Sunday, Good Friday the Friday two days before it and Easter Monday the day after. Of the years of the calendar: each
-- such day of March or April is a date. Assumes nothing.
use mathlib.Core.Path.{◌≡◌, refl, ap, ◌∙◌}
use mathlib.Core.Bool.{Bool, true, false, cond, ◌&&◌, ◌||◌}
use Prim.Native.Nat.{ℕ, ◌+◌, ◌-◌, ◌≤◌, ◌<◌}
use native.Mathlib.Nat.{mod-lt}
use native.Mathlib.Decide.{dec_lt}
use native.Mathlib.Omega.{arith}
use borrow.Author.Tests.{eqb-true, eqb-false, le-leb, lt-leb, lt-ltb, le-ltb}
use lib.Dec.{ltb, eqb}
use Rattle.calendar.specs.Date.{month, day, days_in, first_year, last_year, is_date, days_of_years, days_of_months, day_number}
use Rattle.calendar.specs.Days.{date_of, weekday, sunday}
use Rattle.calendar.proofs.Days.{date_of_lem, number_of}
use Rattle.easter.specs.Easter.{epact, moved_epact, march_date, full_moon, easter_day, easter_sunday, good_friday, easter_monday}

-- ---- when it is

-- 24 is moved, and nothing is moved to it
moved : (y : ℕ) → (moved_epact y ≤ 29) × (moved_epact y ≡ 24 → ⊥)
moved y = go (epact y) _ (mod-lt _ (omega arith))
  where
    go : (e : ℕ) (late : Bool) → e < 30 → (cond (eqb e 24 || eqb e 25 && late) (e + 1) e ≤ 29) × (cond (eqb e 24 || eqb e 25 && late) (e + 1) e ≡ 24 → ⊥)
    go e late h = by (eqb e 24) (eqb e 25) refl refl
      where
        by : (a b : Bool) → eqb e 24 ≡ a → eqb e 25 ≡ b → (cond (a || b && late) (e + 1) e ≤ 29) × (cond (a || b && late) (e + 1) e ≡ 24 → ⊥)
        by true b p q = let is = eqb-true e 24 p in (omega arith, λ x. omega arith)
        by false false p q = (omega arith, eqb-false e 24 p)
        by false true p q = taken late (eqb-true e 25 q)
          where
            taken : (late : Bool) → e ≡ 25 → (cond late (e + 1) e ≤ 29) × (cond late (e + 1) e ≡ 24 → ⊥)
            taken true is = (omega arith, λ x. omega arith)
            taken false is = (omega arith, λ x. omega arith)

pub moon_within : (y : ℕ) → (21 ≤ full_moon y) × (full_moon y ≤ 49)
moon_within y = go (moved_epact y) (moved y).0 (moved y).1
  where
    go : (e : ℕ) → e ≤ 29 → (e ≡ 24 → ⊥) → (21 ≤ cond (ltb (44 - e) 21) (74 - e) (44 - e)) × (cond (ltb (44 - e) 21) (74 - e) (44 - e) ≤ 49)
    go e h n =
        elim (dec_lt (44 - e) 21) [
          | yes l ↦ rw (lt-ltb _ _ l) (elim (dec_lt 24 e) [ yes m ↦ (omega arith, omega arith) | no m ↦ absurd (n (omega arith)) ])
          | no m ↦ rw (le-ltb (44 - e) 21 (omega arith)) (omega arith, omega arith)
        ]

pub easter_within : (y : ℕ) → (22 ≤ easter_day y) × (easter_day y ≤ 56)
unfolding easter_day weekday
easter_within y = (omega (arith, moon_within y), omega (arith, moon_within y))

-- ---- days of March

march_long : (y : ℕ) → days_in y 3 ≡ 31
unfolding days_in
march_long y = refl

april_long : (y : ℕ) → days_in y 4 ≡ 30
unfolding days_in
april_long y = refl

-- in one month or the other
pub in_march : (y n : ℕ) → n ≤ 31 → march_date y n ≡ date_of y 3 n
in_march y n h = rw (le-leb n 31 h)

pub in_april : (y n : ℕ) → 31 < n → march_date y n ≡ date_of y 4 (n - 31)
in_april y n h = rw (lt-leb n 31 h)

by_month : (y n : ℕ) (P : ℕ → Type 0) → (n ≤ 31 → P (date_of y 3 n)) → (31 < n → P (date_of y 4 (n - 31))) → P (march_date y n)
by_month y n P march april =
    elim (dec_lt 31 n) [
      | yes l ↦ rw (in_april y n l) (april l)
      | no m ↦ let l : n ≤ 31 = omega arith in rw (in_march y n l) (march l)
    ]

pub march_date_lem : (y n : ℕ) → first_year ≤ y → y ≤ last_year → 1 ≤ n → n ≤ 61 → is_date (march_date y n) ≡ true
march_date_lem y n from to one most =
    by_month y n (λ d. is_date d ≡ true)
    (λ l. date_of_lem (date_of y 3 n) y 3 n (omega arith) (omega arith) (omega arith) from to one (rw (march_long y) l))
    (λ l. date_of_lem (date_of y 4 (n - 31)) y 4 (n - 31) (omega arith) (omega arith) (omega arith) from to (omega arith) (rw (april_long y) (omega arith)))

before_april : (y : ℕ) → days_of_months y 4 ≡ days_of_months y 3 + 31
unfolding days_of_months
before_april y = rw (← march_long y)

-- one after the other, over the month's end too
pub march_number : (y n : ℕ) → 1 ≤ n → n ≤ 61 → day_number (march_date y n) ≡ days_of_years (y - first_year) + days_of_months y 3 + (n - 1)
march_number y n one most =
    by_month y n (λ d. day_number d ≡ days_of_years (y - first_year) + days_of_months y 3 + (n - 1))
    (λ l. number_of (date_of y 3 n) y 3 n (omega arith) (omega arith) (omega arith))
    (λ l. number_of (date_of y 4 (n - 31)) y 4 (n - 31) (omega arith) (omega arith) (omega arith) ∙ rw (before_april y) (omega arith))

-- ---- the three dates

pub friday_before : (y : ℕ) → day_number (good_friday y) + 2 ≡ day_number (easter_sunday y)
friday_before y =
    let within = easter_within y in
    let friday = march_number y (easter_day y - 2) (omega (arith, within)) (omega (arith, within)) in
    let sunday = march_number y (easter_day y) (omega (arith, within)) (omega (arith, within)) in
    omega (arith, friday, sunday, within)

pub monday_after : (y : ℕ) → day_number (easter_monday y) ≡ day_number (easter_sunday y) + 1
monday_after y =
    let within = easter_within y in
    let monday = march_number y (easter_day y + 1) (omega (arith, within)) (omega (arith, within)) in
    let sunday = march_number y (easter_day y) (omega (arith, within)) (omega (arith, within)) in
    omega (arith, monday, sunday, within)

to_sunday : (n : ℕ) → weekday (n + (7 - weekday n)) ≡ sunday
unfolding weekday
to_sunday n = omega arith

easter_is : (y : ℕ) → easter_day y ≡ full_moon y + (7 - weekday (day_number (march_date y (full_moon y))))
unfolding easter_day
easter_is y = refl

pub on_sunday : (y : ℕ) → weekday (day_number (easter_sunday y)) ≡ sunday
on_sunday y =
    let within = moon_within y in
    let moon = march_number y (full_moon y) (omega (arith, within)) (omega (arith, within)) in
    let easter = march_number y (easter_day y) (omega (arith, easter_within y)) (omega (arith, easter_within y)) in
    let later : day_number (easter_sunday y) ≡ day_number (march_date y (full_moon y)) + (7 - weekday (day_number (march_date y (full_moon y)))) = omega (arith, moon, easter, easter_is y, within) in
    ap weekday later ∙ to_sunday (day_number (march_date y (full_moon y)))

-- where Good Friday and Easter Monday stand in the week
pub on_friday : (y : ℕ) → weekday (day_number (good_friday y)) ≡ 5
unfolding weekday
on_friday y = omega (arith, friday_before y, on_sunday y)

pub on_monday : (y : ℕ) → weekday (day_number (easter_monday y)) ≡ 1
unfolding weekday
on_monday y = omega (arith, monday_after y, on_sunday y)

-- ---- back from a date

pub from_march : (y n d : ℕ) → n ≤ 61 → d ≡ march_date y n → month d ≡ 3 → day d ≡ n
from_march y n d most e m = rw e (by_month y n (λ x. month x ≡ 3 → day x ≡ n) (λ l k. omega arith) (λ l k. absurd (omega arith)) (rw e at m))

pub from_april : (y n d : ℕ) → n ≤ 61 → d ≡ march_date y n → (month d ≡ 3 → ⊥) → day d + 31 ≡ n
from_april y n d most e m = rw e (by_month y n (λ x. (month x ≡ 3 → ⊥) → day x + 31 ≡ n) (λ l k. absurd (k (omega arith))) (λ l k. omega arith) (rw e at m))

-- ---- where the days of March stand as numbers

pub march_from : (y n : ℕ) → 1 ≤ n → date_of y 3 1 ≤ march_date y n
march_from y n one = by_month y n (λ d. date_of y 3 1 ≤ d) (λ l. omega arith) (λ l. omega arith)

pub march_to : (y n : ℕ) → n ≤ 61 → march_date y n ≤ date_of y 4 30
march_to y n most = by_month y n (λ d. d ≤ date_of y 4 30) (λ l. omega arith) (λ l. omega arith)

pub march_rises : (y m n : ℕ) → m < n → march_date y m < march_date y n
march_rises y m n h =
    by_month y m (λ d. d < march_date y n)
    (λ l. by_month y n (λ d. date_of y 3 m < d) (λ k. omega arith) (λ k. omega arith))
    (λ l. by_month y n (λ d. date_of y 4 (m - 31) < d) (λ k. omega arith) (λ k. omega arith))
