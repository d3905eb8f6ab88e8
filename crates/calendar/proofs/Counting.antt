-- The day number as the code reckons it: the days of whole years by a formula, those of whole months from a table. Assumes nothing.
use mathlib.Core.Path.{◌≡◌, refl, sym, ap, ◌∙◌}
use mathlib.Core.Bool.{Bool, true, false, cond, not, ◌&&◌, ◌||◌}
use mathlib.Core.List.{List, [], ◌∷◌}
use Prim.Native.Nat.{ℕ, zero, suc, ◌+◌, ◌*◌, ◌-◌, ◌/◌, ◌%◌, ◌≤◌, ◌<◌}
use native.Mathlib.Nat.{suc-mod, mod-eq_of_lt, mod-lt, mod_self, div-eq_of_lt, div_self, div-add-mod', mul-add-div_right, add-suc, le_trans, le_of_eq}
use native.Mathlib.Decide.{dec_lt}
use native.Mathlib.Omega.{arith}
use borrow.Author.Tests.{eqb-true, eqb-false, eq-eqb, ne_eqb}
use lib.Dec.{ltb, lit≤}
use lib.ListN.{get_or}
use Rattle.calendar.specs.Date.{year, month, leap, days_in, days_in_year, first_year, last_year, is_date, divisible, days_of_years, days_of_months, day_number}
use Rattle.calendar.specs.Days.{all_days}
use Rattle.calendar.proofs.Facts.{facts}
use Rattle.calendar.proofs.Agree.{agree}
use Rattle.calendar.proofs.Order.{years_grow, months_grow, whole_year, later_year}

-- a quotient grows by one at each multiple, and nowhere else
next_quotient : (m k : ℕ) → 0 < k → suc m / k ≡ m / k + cond (divisible (suc m) k) 1 0
next_quotient m k positive =
    elim (dec_lt (suc (m % k)) k) [
      | yes inside ↦
          let rest : suc m % k ≡ suc (m % k) = suc-mod m k ∙ mod-eq_of_lt inside in
          rw (ne_eqb (suc m % k) 0 (λ e. omega arith), split, div-eq_of_lt inside) (refl)
      | no past ↦
          let full : suc (m % k) ≡ k = omega (arith, mod-lt m positive) in
          let rest : suc m % k ≡ 0 = suc-mod m k ∙ ap (λ x. x % k) full ∙ mod_self k in
          rw (eq-eqb (suc m % k) 0 rest, split, full, div_self positive) (refl)
    ]
  where
    split : suc m / k ≡ m / k + suc (m % k) / k
    split = ap (λ x. suc x / k) (sym (div-add-mod' m k)) ∙ ap (λ x. x / k) (sym (add-suc _ _)) ∙ mul-add-div_right positive (m / k) (suc (m % k))

-- one day more for each leap year: each fourth, but for each hundredth, but not for each four hundredth; 484 of them lie before 2000
abbrev pub leaps_to : ℕ → ℕ
leaps_to y = y / 4 + y / 400 - y / 100

abbrev pub years_reckoned : ℕ → ℕ
years_reckoned n = 365 * n + leaps_to (1999 + n) - 484

next_leap : (y : ℕ) → leaps_to (suc y) ≡ leaps_to y + cond (leap (suc y)) 1 0
unfolding leap
next_leap y =
    rw (next_quotient y 4 (omega arith), next_quotient y 100 (omega arith), next_quotient y 400 (omega arith))
    (go (divisible (suc y) 4) (divisible (suc y) 100) (divisible (suc y) 400) refl refl refl)
  where
    fewer : y / 100 ≤ y / 4
    fewer = omega arith

    hundredth : divisible (suc y) 100 ≡ false → suc y % 400 ≡ 0 → ⊥
    hundredth f e = eqb-false (suc y % 100) 0 f (omega arith)

    fourth : divisible (suc y) 4 ≡ false → suc y % 100 ≡ 0 → ⊥
    fourth f e = eqb-false (suc y % 4) 0 f (omega arith)

    go : (a b c : Bool) → divisible (suc y) 4 ≡ a → divisible (suc y) 100 ≡ b → divisible (suc y) 400 ≡ c
        → y / 4 + cond a 1 0 + (y / 400 + cond c 1 0) - (y / 100 + cond b 1 0) ≡ leaps_to y + cond (a && (not b || c)) 1 0
    go true true true e f g = omega (arith, fewer)
    go true true false e f g = omega (arith, fewer)
    go true false false e f g = omega (arith, fewer)
    go false false false e f g = omega (arith, fewer)
    go true false true e f g = absurd (hundredth f (eqb-true _ _ g))
    go false false true e f g = absurd (hundredth f (eqb-true _ _ g))
    go false true c e f g = absurd (fourth e (eqb-true _ _ f))

from_2000 : (n : ℕ) → leaps_to (1999 + suc n) ≡ leaps_to (1999 + n) + cond (leap (first_year + n)) 1 0
from_2000 n =
    let same : suc (1999 + n) ≡ first_year + n = omega arith in
    ap leaps_to (add-suc 1999 n) ∙ next_leap (1999 + n) ∙ ap (λ y. leaps_to (1999 + n) + cond (leap y) 1 0) same

pub before_2000 : (n : ℕ) → 484 ≤ leaps_to (1999 + n)
before_2000 zero = lit≤ tt
before_2000 (suc n) = rw (from_2000 n) (omega (arith, before_2000 n))

reckoned_next : (n : ℕ) → years_reckoned (suc n) ≡ years_reckoned n + days_in_year (first_year + n)
reckoned_next n = rw (from_2000 n) (go (leaps_to (1999 + n)) (leap (first_year + n)) (before_2000 n))
  where
    go : (leaps : ℕ) (t : Bool) → 484 ≤ leaps → 365 * suc n + (leaps + cond t 1 0) - 484 ≡ 365 * n + leaps - 484 + cond t 366 365
    go leaps true h = omega arith
    go leaps false h = omega arith

pub years_reckoned_lem : (n : ℕ) → years_reckoned n ≡ days_of_years n
unfolding days_of_years
years_reckoned_lem zero = refl
years_reckoned_lem (suc n) = rw (reckoned_next n, years_reckoned_lem n)

-- ---- months

abbrev days_before : List ℕ
days_before = 0 ∷ 0 ∷ 31 ∷ 59 ∷ 90 ∷ 120 ∷ 151 ∷ 181 ∷ 212 ∷ 243 ∷ 273 ∷ 304 ∷ 334 ∷ []

-- the table is that of a year without a 29 February, which each month behind it has before it
abbrev pub months_reckoned : ℕ → ℕ → ℕ
months_reckoned y m = get_or days_before m 0 + cond (ltb 2 m && leap y) 1 0

pub months_reckoned_lem : (y m : ℕ) → m ≤ 12 → months_reckoned y m ≡ days_of_months y m
unfolding days_of_months days_in
months_reckoned_lem y m h = go (leap y) refl
  where
    go : (t : Bool) → leap y ≡ t → months_reckoned y m ≡ days_of_months y m
    go true e =
        agree (months_reckoned y) (days_of_months y) 13
        (((((((((((((tt, refl), refl), refl), rw e), rw e), rw e), rw e), rw e), rw e), rw e), rw e), rw e), rw e) m (omega arith)
    go false e =
        agree (months_reckoned y) (days_of_months y) 13
        (((((((((((((tt, refl), refl), refl), rw e), rw e), rw e), rw e), rw e), rw e), rw e), rw e), rw e), rw e) m (omega arith)

-- by the two ways of the code
pub months_leap : (y m : ℕ) (t : Bool) → m ≤ 12 → t ≡ leap y → (ltb 2 m && t) ≡ true → get_or days_before m 0 + 1 ≡ days_of_months y m
months_leap y m t h e taken = rw (← months_reckoned_lem y m h, ← e, taken)

pub months_plain : (y m : ℕ) (t : Bool) → m ≤ 12 → t ≡ leap y → (ltb 2 m && t) ≡ false → get_or days_before m 0 ≡ days_of_months y m
months_plain y m t h e left = rw (← months_reckoned_lem y m h, ← e, left) (omega arith)

-- ---- what they come to

pub years_small : (n : ℕ) → n ≤ 300 → days_of_years n ≤ all_days
unfolding days_of_years leap
years_small n h = le_trans (years_grow n 300 h) (lit≤ tt)

pub months_small : (y m : ℕ) → m ≤ 13 → days_of_months y m ≤ 366
months_small y m h = le_trans (months_grow y m 13 h) (le_trans (le_of_eq (whole_year y)) (go (leap y)))
  where
    go : (t : Bool) → cond t 366 365 ≤ 366
    go true = lit≤ tt
    go false = lit≤ tt

pub number_small_lem : (d : ℕ) → is_date d ≡ true → day_number d < all_days
unfolding days_of_years leap
number_small_lem d h = later_year d (suc last_year) (facts d h) (omega (arith, (facts d h).to_last_year))

-- whole years and whole months of a date together
pub parts_small : (d : ℕ) → is_date d ≡ true → days_of_years (year d - first_year) + days_of_months (year d) (month d) ≤ all_days + 366
parts_small d h =
    let f = facts d h in
    omega (arith, years_small (year d - first_year) (omega (arith, f.to_last_year)), months_small (year d) (month d) (omega (arith, f.to_december)))
