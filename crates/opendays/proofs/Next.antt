-- The first open day after a date, one date after the other. Proved: the search that goes from date to date finds what the search over all
-- numbers finds. Assumes nothing.
use mathlib.Core.Path.{◌≡◌, refl, sym, ap, ◌∙◌}
use mathlib.Core.Bool.{Bool, true, false}
use mathlib.Core.Option.{Option, none, some}
use Prim.Native.Nat.{ℕ, zero, suc, ◌+◌, ◌-◌, ◌≤◌, ◌<◌}
use native.Mathlib.Nat.{add-zero}
use native.Mathlib.Numerals.{add-one}
use native.Mathlib.Omega.{arith}
use Rattle.wire.specs.Places.{first_from}
use Rattle.wire.proofs.Scans.{first_here, first_more}
use Rattle.calendar.specs.Date.{is_date}
use Rattle.calendar.specs.Days.{last_date, day_after}
use Rattle.calendar.proofs.Days.{after_later, after_next, after_date, to_last}
use Rattle.opendays.specs.OpenDay.{open_day}
use Rattle.opendays.specs.Questions.{next_open_day}

-- what is left of the search at the number i
left : ℕ → Option ℕ
left i = first_from open_day (suc last_date - i) i

pub closed_no_date : (d : ℕ) → is_date d ≡ false → open_day d ≡ false
unfolding open_day
closed_no_date d e = rw e

closed_unless : (d : ℕ) → (is_date d ≡ true → ⊥) → open_day d ≡ false
closed_unless d never = by (is_date d) refl
  where
    by : (t : Bool) → is_date d ≡ t → open_day d ≡ false
    by true e = absurd (never e)
    by false e = closed_no_date d e

-- over numbers that are no open days
skip : (k i : ℕ) → ((j : ℕ) → i ≤ j → j < i + k → open_day j ≡ false) → i + k ≤ suc last_date → left i ≡ left (i + k)
unfolding left
skip zero i closed fits = ap left (sym (add-zero i))
skip (suc k) i closed fits =
    sym (first_more open_day (suc last_date) i (omega arith) (closed i (omega arith) (omega arith)))
    ∙ (let on : i + 1 + k ≡ i + suc k = omega arith in skip k (i + 1) (λ j low high. closed j (omega arith) (omega arith)) (omega arith) ∙ ap left on)

-- a turn: the search behind a date goes on at the next date
from_next : (d : ℕ) → is_date d ≡ true → d < last_date → next_open_day d ≡ left (day_after d)
unfolding left
from_next d h l =
    let later = after_later d h in
    let width : last_date - d ≡ suc last_date - suc d = omega arith in
    let end : suc d + (day_after d - suc d) ≡ day_after d = omega arith in
    ap (λ n. first_from open_day n (suc d)) width
    ∙ skip (day_after d - suc d) (suc d) (λ j low high. closed_unless j (λ e. omega (arith, after_next d j h e low))) (omega (arith, to_last (day_after d) (after_date d h l)))
    ∙ ap left end

pub next_open : (d : ℕ) → is_date d ≡ true → d < last_date → open_day (day_after d) ≡ true → next_open_day d ≡ some (day_after d)
unfolding left
next_open d h l e = from_next d h l ∙ first_here open_day (suc last_date) (day_after d) (omega (arith, to_last (day_after d) (after_date d h l))) e

pub next_closed : (d : ℕ) → is_date d ≡ true → d < last_date → open_day (day_after d) ≡ false → next_open_day (day_after d) ≡ next_open_day d
unfolding left
next_closed d h l e =
    let last = to_last (day_after d) (after_date d h l) in
    let width : last_date - day_after d ≡ suc last_date - (day_after d + 1) = omega arith in
    sym (from_next d h l ∙ sym (first_more open_day (suc last_date) (day_after d) (omega arith) e) ∙ (rw (← width, add-one (day_after d))))

pub next_ends : (d : ℕ) → last_date ≤ d → next_open_day d ≡ none
unfolding first_from
next_ends d h = let nothing : last_date - d ≡ 0 = omega arith in rw nothing
