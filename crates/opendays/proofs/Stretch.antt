-- Open days counted by weeks and years are the open days listed. Proved: the days from Monday to Friday between two dates are a
-- difference of whole weeks; the holidays among them are those of each year; and what is left is the length of the list. Assumes nothing.
use mathlib.Core.Path.{◌≡◌, refl, sym, ap, ◌∙◌}
use mathlib.Core.Logic.{⊎_elim}
use mathlib.Core.Bool.{Bool, true, false, cond, not, ◌&&◌, ◌||◌}
use mathlib.Core.List.{List, [], ◌∷◌}
use Prim.Native.Nat.{ℕ, zero, suc, ◌+◌, ◌*◌, ◌-◌, ◌%◌, ◌≤◌, ◌<◌}
use native.Mathlib.Nat.{add-zero, zero-add, eq-or-lt_of_le, le_of_lt, le_of_suc-le-suc, le_refl}
use native.Mathlib.Decide.{dec_lt}
use native.Mathlib.Omega.{arith}
use borrow.Author.Tests.{eq-eqb, ne_eqb}
use lib.Dec.{leb, ltb, eqb}
use lib.ListN.{length, get_or}
use Rattle.wire.specs.Field.{bit}
use Rattle.calendar.specs.Date.{year, days_in, is_date, day_number}
use Rattle.calendar.specs.Days.{YearOf, date_of, day_after, weekday, saturday, sunday}
use Rattle.calendar.proofs.Days.{date_of_lem, after_later, after_next, after_number, after_date, to_last}
use Rattle.calendar.proofs.Facts.{facts}
use Rattle.easter.specs.Easter.{easter_day}
use Rattle.easter.proofs.Laws.{easter_within, march_date_lem, march_from, march_to, march_rises}
use Rattle.opendays.specs.OpenDay.{weekend, holidays, holiday, among, open_day}
use Rattle.opendays.specs.Questions.{open_from, open_days}
use Rattle.opendays.specs.Counting.{Forward, workdays_before, closed_at, closed_in, closed_over, total}
use Rattle.opendays.proofs.Count.{count_of, count_over, count_same, count_none, count_sum, Rises, count_list, count_blocks, count_inside}

abbrev pub workday : ℕ → Bool
workday d = is_date d && not (weekend d)

-- ---- weeks

of_week : ℕ → Bool
of_week n = not (eqb (weekday n) saturday || eqb (weekday n) sunday)

next_workday : (n : ℕ) → workdays_before (suc n) ≡ workdays_before n + bit (of_week n)
unfolding weekday of_week
next_workday n =
    elim (dec_lt (n % 7) 2) [
      | yes l ↦ elim (dec_lt (n % 7) 1) [
        | yes m ↦ rw (eq-eqb ((n + 6) % 7) 6 (omega arith)) (omega arith)
        | no m ↦ rw (ne_eqb ((n + 6) % 7) 6 (λ e. omega arith), eq-eqb ((n + 6) % 7) 0 (omega arith)) (omega arith)
      ]
      | no l ↦ rw (ne_eqb ((n + 6) % 7) 6 (λ e. omega arith), ne_eqb ((n + 6) % 7) 0 (λ e. omega arith)) (omega arith)
    ]

-- what is no date is no workday
no_workday : (d : ℕ) → (is_date d ≡ true → ⊥) → workday d ≡ false
no_workday d none = by (is_date d) refl
  where
    by : (t : Bool) → is_date d ≡ t → (t && not (weekend d)) ≡ false
    by true e = absurd (none e)
    by false e = refl

-- from a date to the next, which has no date before it
one_day : (a : ℕ) → is_date a ≡ true → count_of workday a (day_after a - a) ≡ bit (of_week (day_number a))
unfolding count_of of_week
one_day a h =
    let later = after_later a h in
    let width : day_after a - a ≡ suc (day_after a - suc a) = omega arith in
    rw (width, h, count_none workday (suc a) (day_after a - suc a) (λ k low high. no_workday k (λ e. omega (arith, after_next a k h e low)))) (add-zero _)

-- so between two dates, by as many steps as there are numbers
abbrev Steps : ℕ → ℕ → Type 0
Steps a b = workdays_before (day_number b) ≡ workdays_before (day_number a) + count_of workday a (b - a)

no_step : (a b : ℕ) → a ≡ b → Steps a b
unfolding count_of
no_step a b e = let nothing : b - a ≡ 0 = omega arith in rw (nothing, e) (sym (add-zero _))

one_step : (a b : ℕ) → is_date a ≡ true → day_after a ≤ b → Steps (day_after a) b → Steps a b
one_step a b h high rest =
    omega (
      arith,
      rest,
      ap workdays_before (after_number a h) ∙ next_workday (day_number a),
      count_over workday a (day_after a) b (le_of_lt (after_later a h)) high,
      one_day a h,
    )

steps : (n a b : ℕ) → is_date a ≡ true → is_date b ≡ true → a ≤ b → b ≤ a + n → Steps a b
steps zero a b ha hb low high = no_step a b (omega arith)
steps (suc n) a b ha hb low high = go (steps n (day_after a) b)
  where
    go : (is_date (day_after a) ≡ true → is_date b ≡ true → day_after a ≤ b → b ≤ day_after a + n → Steps (day_after a) b) → Steps a b
    go rest =
        ⊎_elim (λ (e : a ≡ b). no_step a b e)
        (λ (l : a < b).
        let next = after_next a b ha hb l in
        let later = after_later a ha in
        one_step a b ha next (rest (after_date a ha (omega (arith, to_last b hb))) hb next (omega arith)))
        (eq-or-lt_of_le low)

pub workdays_between : (a b : ℕ) → is_date a ≡ true → is_date b ≡ true → a ≤ b → Steps a b
workdays_between a b ha hb low = steps b a b ha hb low (omega arith)

-- ---- holidays

-- a holiday that is a workday of the stretch
abbrev closed : ℕ → ℕ → ℕ → Bool
closed from to k = holiday k && (leb from k && ltb k to && workday k)

abbrev AllDates : List ℕ → Type 0
AllDates [] = Unit {0}
AllDates (h ∷ hs) = (is_date h ≡ true) × AllDates hs

date_at : (hs : List ℕ) (k : ℕ) → AllDates hs → k < length hs → is_date (get_or hs k 0) ≡ true
date_at [] k all h = absurd (omega arith)
date_at (x ∷ hs) zero all h = all.0
date_at (x ∷ hs) (suc k) all h = date_at hs k all.1 (le_of_suc-le-suc h)

fixed_date : (y m k : ℕ) → YearOf y → m ≤ 99 → 1 ≤ k → k ≤ 99 → k ≤ days_in y m → is_date (date_of y m k) ≡ true
fixed_date y m k of mm one kk most = date_of_lem (date_of y m k) y m k (omega arith) (omega arith) (omega arith) of.not_before of.not_after one most

-- the holidays of a year are dates, and stand in their order: here each is named, as in the definition and in the code
record Holidays (y : ℕ) : Type 0 where
  pub dates : AllDates (holidays y)
  pub rise : Rises (y * 10000) (y * 10000 + 10000) (holidays y)

holidays_of : (y : ℕ) → YearOf y → Holidays y
unfolding days_in
holidays_of y of =
    let within = easter_within y in
    let friday_from = march_from y (easter_day y - 2) (omega (arith, within)) in
    let monday_to = march_to y (easter_day y + 1) (omega (arith, within)) in
    let rises = march_rises y (easter_day y - 2) (easter_day y + 1) (omega (arith, within)) in
    record {
      dates = (
        fixed_date y 1 1 of (omega arith) (omega arith) (omega arith) (omega arith),
        (
          march_date_lem y (easter_day y - 2) of.not_before of.not_after (omega (arith, within)) (omega (arith, within)),
          (
            march_date_lem y (easter_day y + 1) of.not_before of.not_after (omega (arith, within)) (omega (arith, within)),
            (
              fixed_date y 5 1 of (omega arith) (omega arith) (omega arith) (omega arith),
              (
                fixed_date y 12 25 of (omega arith) (omega arith) (omega arith) (omega arith),
                (fixed_date y 12 26 of (omega arith) (omega arith) (omega arith) (omega arith), tt),
              ),
            ),
          ),
        ),
      );
      rise = (
        omega arith,
        omega arith,
        (
          omega arith,
          omega arith,
          (
            omega arith,
            omega arith,
            (
              omega arith,
              omega arith,
              (
                omega arith,
                omega arith,
                (omega arith, omega arith, tt),
              ),
            ),
          ),
        ),
      );
    }

-- so is each that the code reads
pub holiday_date : (y k : ℕ) (days : List ℕ) → YearOf y → days ≡ holidays y → k < 6 → is_date (get_or days k 0) ≡ true
holiday_date y k days of same h = rw same (date_at (holidays y) k (holidays_of y of).dates h)

-- of dates a workday need not be asked to be one
of_dates : (from to : ℕ) (hs : List ℕ) → AllDates hs → total (λ h. bit (leb from h && ltb h to && workday h)) hs ≡ total (closed_at from to) hs
of_dates from to [] all = refl
of_dates from to (h ∷ hs) all = rw (all.0, of_dates from to hs all.1)

-- those of one year, of which a number below the next year's is
year_closed : (from to y : ℕ) → YearOf y → count_of (closed from to) (y * 10000) 10000 ≡ closed_in from to y
year_closed from to y of =
    let h = holidays_of y of in
    count_same (closed from to) (λ k. among k (holidays y) && test k) (y * 10000) 10000
    (λ k a b. let same : year k ≡ y = omega arith in ap (λ z. among k (holidays z) && test k) same)
    ∙ count_list test (y * 10000) 10000 (y * 10000) (y * 10000 + 10000) (holidays y) (le_refl _) (le_refl _) h.rise
    ∙ of_dates from to (holidays y) h.dates
  where
    test : ℕ → Bool
    test k = leb from k && ltb k to && workday k

-- and so over all years of the stretch
pub closed_between : (from to : ℕ) → is_date from ≡ true → is_date to ≡ true → from ≤ to
    → count_of (λ k. workday k && holiday k) from (to - from) ≡ closed_over from to (year from) (suc (year to) - year from)
closed_between from to hf ht low =
    let f = facts from hf in
    let t = facts to ht in
    let years : year from ≤ year to = omega arith in
    sym (count_inside workday holiday from to (year from * 10000) ((suc (year to) - year from) * 10000) (omega arith) low (omega arith))
    ∙ count_blocks (closed from to) (closed_in from to) 10000 (year from) (suc (year to) - year from)
    (λ z a b. year_closed from to z (record { not_before = omega (arith, f.from_first_year); not_after = omega (arith, t.to_last_year) }))

-- ---- the list

list_counted : (a n : ℕ) → length (open_from a n) ≡ count_of open_day a n
unfolding open_from count_of
list_counted a zero = refl
list_counted a (suc n) = by (open_day a) (list_counted (suc a) n)
  where
    by : (t : Bool) → length (open_from (suc a) n) ≡ count_of open_day (suc a) n → length (cond t (a ∷ open_from (suc a) n) (open_from (suc a) n)) ≡ bit t + count_of open_day (suc a) n
    by true e = rw e (omega arith)
    by false e = rw e (sym (zero-add _))

pub days_counted : (from to : ℕ) → open_days from to ≡ count_of open_day from (to - from)
days_counted from to = list_counted from (to - from)

-- an open day is a workday that is no holiday
parted : (k : ℕ) → bit (workday k) ≡ bit (open_day k) + bit (workday k && holiday k)
unfolding open_day
parted k = by (workday k) (holiday k)
  where
    by : (w h : Bool) → bit w ≡ bit (w && not h) + bit (w && h)
    by true true = refl
    by true false = refl
    by false h = refl

-- ---- the whole

pub stretch : (from to : ℕ) → is_date from ≡ true → is_date to ≡ true → from ≤ to
    → workdays_before (day_number to) ≡ workdays_before (day_number from) + (open_days from to + closed_over from to (year from) (suc (year to) - year from))
stretch from to hf ht low =
    omega (
      arith,
      workdays_between from to hf ht low,
      days_counted from to,
      count_sum workday open_day (λ k. workday k && holiday k) parted from (to - from),
      closed_between from to hf ht low,
    )

-- as the code takes it: u and v are the workdays before the two dates, k the holidays between them
pub weeks_less_holidays : (from to u v k : ℕ) → Forward from to → u ≡ workdays_before (day_number to) → v ≡ workdays_before (day_number from) → k ≡ closed_over from to (year from) (suc (year to) - year from)
    → (v ≤ u) × (k ≤ u - v) × (u - v - k ≡ open_days from to)
weeks_less_holidays from to u v k f eu ev ek =
    let whole = stretch from to f.first f.second (le_of_lt f.later) in
    (omega (arith, eu, ev, ek, whole), omega (arith, eu, ev, ek, whole), omega (arith, eu, ev, ek, whole))
