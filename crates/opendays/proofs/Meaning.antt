-- What the answers mean. Proved of every number: the next open day is the first after it, and where none is told there is none; the number
-- of open days over two stretches adds up; and the first open day after a date is one further by that number. Assumes nothing.
use mathlib.Core.Path.{◌≡◌, refl, sym, ap, ◌∙◌}
use mathlib.Core.Bool.{Bool, true, false, cond, and-eq-true_iff}
use mathlib.Core.Option.{Option, none, some}
use Prim.Native.Nat.{ℕ, suc, ◌+◌, ◌-◌, ◌≤◌}
use native.Mathlib.Nat.{add-zero, le_of_lt}
use native.Mathlib.Omega.{arith}
use Rattle.wire.specs.Field.{bit}
use Rattle.wire.proofs.Scans.{first_found, first_before, first_nowhere}
use Rattle.calendar.specs.Date.{is_date}
use Rattle.calendar.specs.Days.{last_date}
use Rattle.calendar.proofs.Days.{to_last}
use Rattle.opendays.specs.OpenDay.{open_day}
use Rattle.opendays.specs.Questions.{open_days, next_open_day, first_answer, next_open_day_answer}
use Rattle.std.specs.Prelude.{Ok, Err}
use Rattle.opendays.specs.declared.Unanswered.TheVariants.{NoDate, NoneLater}
use Rattle.opendays.specs.Promise.{FirstAfter, NoneAfter}
use Rattle.opendays.proofs.Count.{count_of, count_over, count_none}
use Rattle.opendays.proofs.Stretch.{days_counted}

-- ---- the next open day

pub next_means : (d e : ℕ) → next_open_day d ≡ some e → FirstAfter d e
next_means d e found =
    let at = first_found open_day (last_date - d) (suc d) e found in
    record {
      is_open = at.2;
      is_later = at.0;
      none_between = λ x low high. first_before open_day (last_date - d) (suc d) e found x low high;
    }

-- an open day is a date, so none lies past the last date
pub open_is_date : (d : ℕ) → open_day d ≡ true → is_date d ≡ true
unfolding open_day
open_is_date d e = ((and-eq-true_iff (is_date d) _).0 ((and-eq-true_iff _ _).0 e).0).0

pub none_means : (d : ℕ) → next_open_day d ≡ none → NoneAfter d
none_means d found x later = by (open_day x) refl
  where
    by : (t : Bool) → open_day x ≡ t → t ≡ false
    by false e = refl
    by true e =
        sym e ∙ first_nowhere open_day (last_date - d) (suc d) found x later
        (let within : x ≤ last_date = to_last x (open_is_date x e) in omega arith)

-- so by the answers themselves
pub told_means : (d e : ℕ) → next_open_day_answer d ≡ Ok e → FirstAfter d e
unfolding next_open_day_answer
told_means d e answer = by (is_date d) (next_open_day d) refl answer
  where
    by : (t : Bool) (found : Option ℕ) → next_open_day d ≡ found → cond t (first_answer found) (Err NoDate) ≡ Ok e → FirstAfter d e
    by true (some x) is told = let same : x ≡ e = cc in next_means d e (rw (← same) is)
    by true none is told = absurd (let z : ◌≡◌ {A = ℕ} 0 1 = cc in omega arith)
    by false found is told = absurd (let z : ◌≡◌ {A = ℕ} 0 1 = cc in omega arith)

pub none_later_means : (d : ℕ) → next_open_day_answer d ≡ Err NoneLater → NoneAfter d
unfolding next_open_day_answer
none_later_means d answer = by (is_date d) (next_open_day d) refl answer
  where
    by : (t : Bool) (found : Option ℕ) → next_open_day d ≡ found → cond t (first_answer found) (Err NoDate) ≡ Err NoneLater → NoneAfter d
    by true (some x) is told = absurd (let z : ◌≡◌ {A = ℕ} 0 1 = cc in omega arith)
    by true none is told = none_means d is
    by false found is told = absurd (let z : ◌≡◌ {A = ℕ} 0 1 = cc in omega arith)

-- ---- how many

-- over two stretches, one behind the other
pub days_add : (from middle to : ℕ) → from ≤ middle → middle ≤ to → open_days from to ≡ open_days from middle + open_days middle to
days_add from middle to low high =
    rw (days_counted from to, days_counted from middle, days_counted middle to) (count_over open_day from middle to low high)

-- a number and the one behind it
days_one : (d : ℕ) → open_days d (suc d) ≡ bit (open_day d)
unfolding count_of
days_one d = let width : suc d - d ≡ 1 = omega arith in rw (days_counted d (suc d), width) (add-zero _)

-- between a date and the first open day after it nothing is open
none_between_lem : (d e : ℕ) → FirstAfter d e → open_days (suc d) e ≡ 0
none_between_lem d e first = days_counted (suc d) e ∙ count_none open_day (suc d) (e - suc d) (λ k l h. first.none_between k l (omega (arith, first.is_later)))

-- so up to that day there is one open day more than up to the date if the date is open itself, and as many if not
pub next_counted : (from d e : ℕ) → from ≤ d → next_open_day d ≡ some e → open_days from e ≡ open_days from d + bit (open_day d)
next_counted from d e low found =
    let first = next_means d e found in
    omega (arith, days_add from d e low (le_of_lt first.is_later), days_add d (suc d) e (omega arith) first.is_later, days_one d, none_between_lem d e first)

-- and with both of them counted it is one further always
pub one_further : (from d e : ℕ) → from ≤ d → next_open_day d ≡ some e → open_days from (suc e) ≡ open_days from (suc d) + 1
one_further from d e low found =
    let first = next_means d e found in
    let itself : open_days e (suc e) ≡ 1 = days_one e ∙ ap bit first.is_open in
    omega (
      arith,
      days_add from (suc d) (suc e) (omega arith) (omega (arith, first.is_later)),
      days_add (suc d) e (suc e) first.is_later (omega arith),
      none_between_lem d e first,
      itself,
    )
