-- `calendar::weekday` meets its contract. Assumes nothing.
use native.Mathlib.Omega.{arith}
use Rattle.calendar.specs.Days.{weekday}
use Rattle.calendar.proofs.Counting.{number_small_lem}
use Rattle.calendar.proofs.weekday.Goals as goal

pub overflow_add-result : goal.overflow_add-result
overflow_add-result c = record { fits = omega (arith, c.day_number.ensures, number_small_lem c.args.d c.requires) }

pub returns : goal.returns
unfolding weekday
returns c = rw c.day_number.ensures
