-- What is asked of the calendar of open days, and the answers. Definitions only, total on every number.
use Rattle.std.specs.Prelude.{ℕ, zero, suc, ◌-◌, cond, ◌&&◌, List, [], ◌∷◌, length, Result, Ok, Err}
use Rattle.std.proofs.Math.Option.{Option, none, some}
use Rattle.wire.specs.Field.{bit}
use Rattle.wire.specs.Places.{first_from}
use Rattle.calendar.specs.Date.{is_date}
use Rattle.calendar.specs.Days.{last_date}
use Rattle.opendays.specs.OpenDay.{open_day}
use Rattle.opendays.specs.declared.Unanswered.{Unanswered}
use Rattle.opendays.specs.declared.Unanswered.TheVariants.{NoDate, NoneLater}

-- ---- the days

-- those of the n numbers from d on that are open days, in their order
unfoldable pub open_from : ℕ → ℕ → List ℕ
open_from d zero = []
open_from d (suc n) = cond (open_day d) (d ∷ open_from (suc d) n) (open_from (suc d) n)

-- the open days from one date up to another, which is not among them; none if that is not later
abbrev pub open_between : ℕ → ℕ → List ℕ
open_between from to = open_from from (to - from)

abbrev pub open_days : ℕ → ℕ → ℕ
open_days from to = length (open_between from to)

-- the first after a date, up to the last date of the calendar
abbrev pub next_open_day : ℕ → Option ℕ
next_open_day d = first_from open_day (last_date - d) (suc d)

-- ---- the answers

-- 1 for open, 0 for closed
unfoldable pub open_day_answer : ℕ → Result ℕ Unanswered
open_day_answer date = cond (is_date date) (Ok (bit (open_day date))) (Err NoDate)

abbrev pub first_answer : Option ℕ → Result ℕ Unanswered
first_answer none = Err NoneLater
first_answer (some d) = Ok d

unfoldable pub next_open_day_answer : ℕ → Result ℕ Unanswered
next_open_day_answer date = cond (is_date date) (first_answer (next_open_day date)) (Err NoDate)

-- either of the two dates may be none
unfoldable pub open_days_answer : ℕ → ℕ → Result ℕ Unanswered
open_days_answer from to = cond (is_date from && is_date to) (Ok (open_days from to)) (Err NoDate)

-- ---- the answers in numbers

abbrev pub number_of : Result ℕ Unanswered → ℕ
number_of (Err NoDate) = 31
number_of (Err NoneLater) = 32
number_of (Ok n) = 0

abbrev pub value_of : Result ℕ Unanswered → ℕ
value_of (Err e) = 0
value_of (Ok n) = n
