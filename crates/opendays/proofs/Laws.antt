-- What stands besides the laws of counting and of the next open day: the six holidays of a year read one by one, the year of a date, and
-- the answers of the search. Assumes nothing.
use mathlib.Core.Path.{◌≡◌, refl}
use mathlib.Core.Bool.{Bool, true, false, ◌||◌}
use mathlib.Core.List.{List}
use mathlib.Core.Option.{none, some}
use Prim.Native.Nat.{ℕ, suc, ◌+◌, ◌-◌, ◌≤◌}
use native.Mathlib.Nat.{add-sub_of_le}
use native.Mathlib.Omega.{arith}
use lib.Dec.{eqb}
use lib.ListN.{get_or}
use Rattle.calendar.specs.Date.{year, is_date}
use Rattle.calendar.specs.Days.{YearOf}
use Rattle.calendar.proofs.Facts.{facts}
use Rattle.opendays.specs.OpenDay.{holidays, holiday}
use Rattle.opendays.specs.Questions.{open_from, open_days, next_open_day, next_open_day_answer}
use Rattle.opendays.specs.Counting.{total, over}
use Rattle.std.specs.Prelude.{Ok, Err}
use Rattle.opendays.specs.declared.Unanswered.TheVariants.{NoneLater}

-- ---- six in a row

six_tests : (a b c d e f : Bool) → (a || b || c || d || e || f) ≡ (a || (b || (c || (d || (e || (f || false))))))
six_tests true b c d e f = refl
six_tests false true c d e f = refl
six_tests false false true d e f = refl
six_tests false false false true e f = refl
six_tests false false false false true f = refl
six_tests false false false false false true = refl
six_tests false false false false false false = refl

six_numbers : (a b c d e f : ℕ) → a + b + c + d + e + f ≡ a + (b + (c + (d + (e + (f + 0)))))
six_numbers a b c d e f = omega arith

pub six_days : (d : ℕ) (days : List ℕ) → days ≡ holidays (year d)
    → (eqb d (get_or days 0 0) || eqb d (get_or days 1 0) || eqb d (get_or days 2 0) || eqb d (get_or days 3 0) || eqb d (get_or days 4 0) || eqb d (get_or days 5 0)) ≡ holiday d
six_days d days e = rw e (six_tests (is 0) (is 1) (is 2) (is 3) (is 4) (is 5))
  where
    is : ℕ → Bool
    is k = eqb d (get_or (holidays (year d)) k 0)

-- as the code adds them up, and as the definition does
pub six_closed : (g : ℕ → ℕ) (days : List ℕ) (y a b c d e f : ℕ) → days ≡ holidays y
    → a ≡ g (get_or days 0 0)
    → b ≡ g (get_or days 1 0)
    → c ≡ g (get_or days 2 0)
    → d ≡ g (get_or days 3 0)
    → e ≡ g (get_or days 4 0)
    → f ≡ g (get_or days 5 0)
    → a + b + c + d + e + f ≡ total g (holidays y)
six_closed g days y a b c d e f same pa pb pc pd pe pf = rw (pa, pb, pc, pd, pe, pf, same) (six_numbers (at 0) (at 1) (at 2) (at 3) (at 4) (at 5))
  where
    at : ℕ → ℕ
    at k = g (get_or (holidays y) k 0)

-- ---- a day

pub year_of : (d : ℕ) → is_date d ≡ true → YearOf (year d)
year_of d h = let f = facts d h in record { not_before = f.from_first_year; not_after = f.to_last_year }

-- ---- the answers

pub next_told : (d e : ℕ) → is_date d ≡ true → next_open_day d ≡ some e → Ok e ≡ next_open_day_answer d
unfolding next_open_day_answer
next_told d e h found = rw (h, found)

pub next_none : (d : ℕ) → is_date d ≡ true → next_open_day d ≡ none → Err NoneLater ≡ next_open_day_answer d
unfolding next_open_day_answer
next_none d h found = rw (h, found)

-- of a stretch that does not go forward
pub days_none : (from to : ℕ) → to ≤ from → 0 ≡ open_days from to
unfolding open_from
days_none from to h = let nothing : to - from ≡ 0 = omega arith in rw nothing

-- ---- a year more

pub over_more : (f : ℕ → ℕ) (first y n closed : ℕ) → first ≤ y → closed ≡ over f first (y - first) → n ≡ f y → closed + n ≡ over f first (y + 1 - first)
unfolding over
over_more f first y n closed low e p =
    let width : y + 1 - first ≡ suc (y - first) = omega arith in
    rw (width, add-sub_of_le low, e, p)

pub over_none : (f : ℕ → ℕ) (first : ℕ) → 0 ≡ over f first (first - first)
unfolding over
over_none f first = let nothing : first - first ≡ 0 = omega arith in rw nothing

-- behind the last year
pub over_all : (f : ℕ → ℕ) (first last y closed : ℕ) → y ≡ suc last → closed ≡ over f first (y - first) → closed ≡ over f first (suc last - first)
over_all f first last y closed past e = rw (← past) e
