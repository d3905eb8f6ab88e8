-- The order of dates. Proved: any two numbers stand in the order of the years, months and days that they name; a number past a date
-- has more days behind it; so the order of dates as numbers is their order in days. Nothing is said here of the code. Assumes nothing.
use mathlib.Core.Path.{◌≡◌, refl, ap}
use mathlib.Core.Bool.{Bool, true, false, ◌&&◌, ◌||◌}
use mathlib.Core.Logic.{⊎_elim}
use Prim.Native.Nat.{ℕ, suc, ◌+◌, ◌-◌, ◌≤◌, ◌<◌}
use native.Mathlib.Nat.{le_refl, le_trans, le_of_eq, le_of_lt, eq-or-lt_of_le, add-sub_of_le}
use native.Mathlib.Decide.{dec_lt, le_ind}
use native.Mathlib.Omega.{arith}
use borrow.Author.Tests.{lt-ltb, le-ltb, eq-eqb, ne_eqb}
use lib.Dec.{ltb, eqb}
use Rattle.calendar.specs.Date.{year, month, day, leap, days_in, first_year, is_date, before, days_in_year, days_of_years, days_of_months, day_number}
use Rattle.calendar.proofs.Facts.{DateFacts, facts}

-- two tests of order that say the same
alike : (a b c d : ℕ) → (a < b → c < d) → (b ≤ a → d ≤ c) → ltb c d ≡ ltb a b
alike a b c d smaller greater =
    elim (dec_lt a b) [
      | yes l ↦ rw (lt-ltb a b l) (lt-ltb c d (smaller l))
      | no n ↦ let g : b ≤ a = omega arith in rw (le-ltb a b g) (le-ltb c d (greater g))
    ]

-- a test, seen from the first place of an order by places: it holds for a smaller x, fails for a greater one, and is `rest` for equals
place :
    (x y : ℕ) (test rest : Bool) →
    (x < y → test ≡ true) →
    (y < x → test ≡ false) →
    (x ≡ y → test ≡ rest) →
    test ≡ (ltb x y || eqb x y && rest)
place x y test rest smaller greater equal =
    elim (dec_lt x y) [
      | yes l ↦ rw (lt-ltb x y l) (smaller l)
      | no n ↦ rw (le-ltb x y (omega arith)) (
          elim (dec_lt y x) [
            | yes g ↦ rw (ne_eqb x y (λ e. omega arith)) (greater g)
            | no k ↦ let e : x ≡ y = omega arith in rw (eq-eqb x y e) (equal e)
          ])
    ]

-- of any two numbers, dates or not
pub order : (a b : ℕ) → ltb a b ≡ before a b
unfolding before
order a b =
    place (year a) (year b) _ _ (λ l. lt-ltb a b (omega arith)) (λ g. le-ltb a b (omega arith))
    (λ y. place (month a) (month b) _ _ (λ l. lt-ltb a b (omega arith)) (λ g. le-ltb a b (omega arith))
    (λ m. alike (day a) (day b) a b (λ l. omega arith) (λ g. omega arith)))

grows : (f : ℕ → ℕ) → ((n : ℕ) → f n ≤ f (suc n)) → (m n : ℕ) → m ≤ n → f m ≤ f n
grows f step m n h = le_ind (λ k. f m ≤ f k) (le_refl (f m)) (λ k l r. le_trans r (step k)) n h

pub months_grow : (y m n : ℕ) → m ≤ n → days_of_months y m ≤ days_of_months y n
unfolding days_of_months
months_grow y = grows (days_of_months y) (λ n. omega arith)

pub years_grow : (m n : ℕ) → m ≤ n → days_of_years m ≤ days_of_years n
unfolding days_of_years
years_grow = grows days_of_years (λ n. omega arith)

-- the table of months agrees with the length of the year
pub whole_year : (y : ℕ) → days_of_months y 13 ≡ days_in_year y
unfolding days_of_months days_in
whole_year y = go (leap y) refl
  where
    go : (t : Bool) → leap y ≡ t → days_of_months y 13 ≡ days_in_year y
    go true e = rw e
    go false e = rw e

pub next_year : (y : ℕ) → first_year ≤ y → days_of_years (suc (y - first_year)) ≡ days_of_years (y - first_year) + days_in_year y
unfolding days_of_years
next_year y h = rw (add-sub_of_le h)

-- a day of a date's month lies before each later month
later_month : (a m : ℕ) → DateFacts a → month a < m → days_of_months (year a) (month a) + (day a - 1) < days_of_months (year a) m
unfolding days_of_months
later_month a m f l = omega (arith, months_grow (year a) (suc (month a)) m l)

-- and before each later year
pub later_year : (a y : ℕ) → DateFacts a → year a < y → day_number a < days_of_years (y - first_year)
unfolding day_number
later_year a y f l =
    omega (
      arith,
      later_month a 13 f (omega arith),
      whole_year (year a),
      next_year (year a) f.from_first_year,
      years_grow (suc (year a - first_year)) (y - first_year) (omega arith),
    )

-- only the earlier of the two need be a date
pub days : (a b : ℕ) → is_date a ≡ true → a < b → day_number a < day_number b
unfolding day_number
days a b h l =
    let f = facts a h in
    elim (dec_lt (year a) (year b)) [
      | yes later ↦ omega (arith, later_year a (year b) f later)
      | no n ↦ let y : year a ≡ year b = omega arith in rw (← y) (
          elim (dec_lt (month a) (month b)) [
            | yes later ↦ omega (arith, later_month a (month b) f later)
            | no k ↦ let m : month a ≡ month b = omega arith in rw (← m) (omega arith)
          ])
    ]

-- both ways, as tests
pub days_order : (a b : ℕ) → is_date a ≡ true → is_date b ≡ true → ltb (day_number a) (day_number b) ≡ ltb a b
days_order a b ha hb =
    alike a b (day_number a) (day_number b) (days a b ha)
    (λ g. ⊎_elim (λ e. le_of_eq (ap day_number e)) (λ l. le_of_lt (days b a hb l)) (eq-or-lt_of_le g))
