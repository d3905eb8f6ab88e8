-- `calendar::days_of_years` meets its contract: the formula is the sum over the years. Assumes nothing.
use native.Mathlib.Omega.{arith}
use Rattle.calendar.proofs.Counting.{years_reckoned_lem, before_2000}
use Rattle.calendar.proofs.days_of_years.Goals as goal

pub overflow_sub-result-2 : goal.overflow_sub-result-2
overflow_sub-result-2 c = omega (arith, before_2000 c.args.n)

pub returns : goal.returns
returns c = years_reckoned_lem _
