-- Days one after the other. Proved of every date: the day after it is later, is a date unless the calendar ends, has no date before it,
-- and has the next day number; so the weekday moves by one. Nothing is said here of the code. Assumes nothing.
use mathlib.Core.Path.{◌≡◌, refl, ap, ◌∙◌}
use mathlib.Core.Bool.{Bool, true, false, cond, ◌&&◌, and-eq-true_iff}
use Prim.Native.Nat.{ℕ, suc, ◌+◌, ◌-◌, ◌%◌, ◌≤◌, ◌<◌}
use native.Mathlib.Decide.{dec_lt}
use native.Mathlib.Omega.{arith}
use borrow.Author.Tests.{leb-true, le-leb, lt-ltb, le-ltb}
use lib.Dec.{leb}
use Rattle.calendar.specs.Date.{year, month, day, leap, days_in, first_year, last_year, is_date, days_of_years, days_of_months, day_number}
use Rattle.calendar.specs.Days.{date_of, last_date, day_after, weekday}
use Rattle.calendar.proofs.Agree.{agree}
use Rattle.calendar.proofs.Facts.{DateFacts, facts}
use Rattle.calendar.proofs.Order.{whole_year, next_year}

-- ---- the parts of a date

-- each month has from 28 to 31 days
month_length : (y m : ℕ) → 1 ≤ m → m ≤ 12 → (28 ≤ days_in y m) × (days_in y m ≤ 31)
unfolding days_in
month_length y m from to = go (leap y) refl
  where
    fair : ℕ → ℕ
    fair m = cond (leb 28 (days_in y m) && leb (days_in y m) 31) 1 0

    real : ℕ → ℕ
    real m = cond (leb 1 m) 1 0

    holds : (t : Bool) → ◌≡◌ {A = ℕ} (cond t 1 0) 1 → t ≡ true
    holds true e = refl
    holds false e = absurd (omega arith)

    by : fair m ≡ real m → (28 ≤ days_in y m) × (days_in y m ≤ 31)
    by e =
        let both = (and-eq-true_iff _ _).0 (holds _ (e ∙ ap (λ t. cond t 1 0) (le-leb 1 m from))) in
        (leb-true 28 (days_in y m) both.0, leb-true (days_in y m) 31 both.1)

    go : (t : Bool) → leap y ≡ t → (28 ≤ days_in y m) × (days_in y m ≤ 31)
    go true e = by (agree fair real 13 (((((((((((((tt, refl), refl), rw e), refl), refl), refl), refl), refl), refl), refl), refl), refl), refl) m (omega arith))
    go false e = by (agree fair real 13 (((((((((((((tt, refl), refl), rw e), refl), refl), refl), refl), refl), refl), refl), refl), refl), refl) m (omega arith))

-- a date by its parts
pub date_of_lem : (d y m k : ℕ) → year d ≡ y → month d ≡ m → day d ≡ k → first_year ≤ y → y ≤ last_year → 1 ≤ k → k ≤ days_in y m → is_date d ≡ true
unfolding is_date
date_of_lem d y m k ey em ek from to one most =
    rw (ey, em, ek, le-leb first_year y from, le-leb y last_year to, le-leb 1 k one, le-leb k (days_in y m) most)

pub number_of : (d y m k : ℕ) → year d ≡ y → month d ≡ m → day d ≡ k → day_number d ≡ days_of_years (y - first_year) + days_of_months y m + (k - 1)
unfolding day_number
number_of d y m k ey em ek = rw (ey, em, ek)

-- ---- the day after

-- by each of its three ways
pub after_same : (d : ℕ) → day d < days_in (year d) (month d) → day_after d ≡ d + 1
unfolding day_after
after_same d l = rw (lt-ltb _ _ l)

pub after_month : (d : ℕ) → days_in (year d) (month d) ≤ day d → month d < 12 → day_after d ≡ date_of (year d) (month d + 1) 1
unfolding day_after
after_month d n l = rw (le-ltb _ _ n, lt-ltb _ _ l)

pub after_year : (d : ℕ) → days_in (year d) (month d) ≤ day d → 12 ≤ month d → day_after d ≡ date_of (year d + 1) 1 1
unfolding day_after
after_year d n k = rw (le-ltb _ _ n, le-ltb _ _ k)

by_way :
    (d : ℕ) (P : ℕ → Type 0) →
    is_date d ≡ true →
    (day d < days_in (year d) (month d) → P (d + 1)) →
    (day d ≡ days_in (year d) (month d) → month d < 12 → P (date_of (year d) (month d + 1) 1)) →
    (day d ≡ days_in (year d) (month d) → month d ≡ 12 → P (date_of (year d + 1) 1 1)) →
    P (day_after d)
by_way d P h same next last =
    let f = facts d h in
    elim (dec_lt (day d) (days_in (year d) (month d))) [
      | yes l ↦ rw (after_same d l) (same l)
      | no n ↦
          let e : day d ≡ days_in (year d) (month d) = omega (arith, f.to_last_day) in
          elim (dec_lt (month d) 12) [
            | yes l ↦ rw (after_month d (omega arith) l) (next e l)
            | no k ↦ rw (after_year d (omega arith) (omega arith)) (last e (omega (arith, f.to_december)))
          ]
    ]

pub after_later : (d : ℕ) → is_date d ≡ true → d < day_after d
after_later d h = by_way d (λ e. d < e) h (λ l. omega arith) (λ e l. omega arith) (λ e l. omega arith)

-- no date lies between them
pub after_next : (d e : ℕ) → is_date d ≡ true → is_date e ≡ true → d < e → day_after d ≤ e
after_next d e h g l = by_way d (λ x. x ≤ e) h (λ k. omega arith) next last
  where
    f : DateFacts e
    f = facts e g

    same_month : year e ≡ year d → month e ≡ month d → day e ≤ days_in (year d) (month d)
    same_month ey em = rw (← ey, ← em) f.to_last_day

    next : day d ≡ days_in (year d) (month d) → month d < 12 → date_of (year d) (month d + 1) 1 ≤ e
    next m k =
        elim (dec_lt e (date_of (year d) (month d + 1) 0)) [
          | yes n ↦ absurd (omega (arith, same_month (omega arith) (omega arith)))
          | no n ↦ omega (arith, f.from_first_day)
        ]

    last : day d ≡ days_in (year d) (month d) → month d ≡ 12 → date_of (year d + 1) 1 1 ≤ e
    last m k =
        elim (dec_lt e (date_of (year d) 13 0)) [
          | yes n ↦ absurd (omega (arith, same_month (omega arith) (omega arith)))
          | no n ↦ omega (arith, f.from_first_day, f.from_january, f.to_december)
        ]

january : (y : ℕ) → days_of_months y 1 ≡ 0
unfolding days_of_months days_in
january y = refl

december : (y : ℕ) → days_of_months y 13 ≡ days_of_months y 12 + days_in y 12
unfolding days_of_months
december y = refl

december_long : (y : ℕ) → days_in y 12 ≡ 31
unfolding days_in
december_long y = refl

pub after_number : (d : ℕ) → is_date d ≡ true → day_number (day_after d) ≡ suc (day_number d)
unfolding day_number days_of_months
after_number d h = by_way d (λ x. day_number x ≡ suc (day_number d)) h same next last
  where
    f : DateFacts d
    f = facts d h

    long : (28 ≤ days_in (year d) (month d)) × (days_in (year d) (month d) ≤ 31)
    long = month_length (year d) (month d) f.from_january f.to_december

    same : day d < days_in (year d) (month d) → day_number (d + 1) ≡ suc (day_number d)
    same k = number_of (d + 1) (year d) (month d) (suc (day d)) (omega (arith, long)) (omega (arith, long)) (omega (arith, long)) ∙ omega (arith, f.from_first_day)

    next : day d ≡ days_in (year d) (month d) → month d < 12 → day_number (date_of (year d) (month d + 1) 1) ≡ suc (day_number d)
    next e k = number_of (date_of (year d) (month d + 1) 1) (year d) (suc (month d)) 1 (omega arith) (omega arith) (omega arith) ∙ omega (arith, f.from_first_day)

    last : day d ≡ days_in (year d) (month d) → month d ≡ 12 → day_number (date_of (year d + 1) 1 1) ≡ suc (day_number d)
    last e k =
        number_of (date_of (year d + 1) 1 1) (suc (year d)) 1 1 (omega arith) (omega arith) (omega arith) ∙ (
        let full : day d ≡ 31 = rw (e, k) (december_long (year d)) in
        let next_first : suc (year d) - first_year ≡ suc (year d - first_year) = omega (arith, f.from_first_year) in
        rw (next_first, next_year (year d) f.from_first_year, january (suc (year d)), k, ← whole_year (year d)) (omega (arith, full, december_long (year d), december (year d))))

pub after_date : (d : ℕ) → is_date d ≡ true → d < last_date → is_date (day_after d) ≡ true
after_date d h l = by_way d (λ x. is_date x ≡ true) h same next last
  where
    f : DateFacts d
    f = facts d h

    long : (28 ≤ days_in (year d) (month d)) × (days_in (year d) (month d) ≤ 31)
    long = month_length (year d) (month d) f.from_january f.to_december

    same : day d < days_in (year d) (month d) → is_date (d + 1) ≡ true
    same k =
        date_of_lem (d + 1) (year d) (month d) (suc (day d)) (omega (arith, long)) (omega (arith, long)) (omega (arith, long)) f.from_first_year f.to_last_year
        (omega arith) (omega arith)

    next : day d ≡ days_in (year d) (month d) → month d < 12 → is_date (date_of (year d) (month d + 1) 1) ≡ true
    next e k =
        date_of_lem (date_of (year d) (month d + 1) 1) (year d) (suc (month d)) 1 (omega arith) (omega arith) (omega arith) f.from_first_year f.to_last_year
        (omega arith) (omega (arith, month_length (year d) (suc (month d)) (omega arith) (omega arith)))

    last : day d ≡ days_in (year d) (month d) → month d ≡ 12 → is_date (date_of (year d + 1) 1 1) ≡ true
    last e k =
        let full : day d ≡ 31 = rw (e, k) (december_long (year d)) in
        date_of_lem (date_of (year d + 1) 1 1) (suc (year d)) 1 1 (omega arith) (omega arith) (omega arith) (omega (arith, f.from_first_year)) (omega (arith, full))
        (omega arith) (omega (arith, month_length (suc (year d)) 1 (omega arith) (omega arith)))

-- ---- the weekday

-- from each day to the next
pub weekday_moves : (n : ℕ) → weekday (suc n) ≡ (weekday n + 1) % 7
unfolding weekday
weekday_moves n = omega arith

pub weekday_after : (d : ℕ) → is_date d ≡ true → weekday (day_number (day_after d)) ≡ (weekday (day_number d) + 1) % 7
weekday_after d h = ap weekday (after_number d h) ∙ weekday_moves (day_number d)

-- ---- the last date

pub to_last : (d : ℕ) → is_date d ≡ true → d ≤ last_date
to_last d h =
    let f = facts d h in
    omega (arith, f.to_last_year, f.to_december, f.to_last_day, month_length (year d) (month d) f.from_january f.to_december)
