-- `calendar::days_of_months` meets its contract: the table has the days before each month, but for a 29 February. Assumes nothing.
use native.Mathlib.Omega.{arith}
use Rattle.calendar.proofs.Counting.{months_leap, months_plain, months_small}
use Rattle.calendar.proofs.days_of_months.Goals as goal

pub overflow_add-result : goal.overflow_add-result
overflow_add-result c =
    record { fits = omega (arith, months_leap c.args.y c.args.m _ c.requires c.leap.ensures c.if-m-leap.true, months_small c.args.y c.args.m (omega (arith, c.requires))) }

pub returns-then-m-leap : goal.returns-then-m-leap
returns-then-m-leap c = months_leap _ _ _ c.requires c.leap.ensures c.if-m-leap.true

pub returns-else-m-leap : goal.returns-else-m-leap
returns-else-m-leap c = months_plain _ _ _ c.requires c.leap.ensures c.if-m-leap.false
