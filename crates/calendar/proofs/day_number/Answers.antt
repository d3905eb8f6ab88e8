-- `calendar::day_number` meets its contract: years, months and days together, and they fit. Assumes nothing.
use native.Mathlib.Omega.{arith}
use Rattle.calendar.specs.Date.{day_number}
use Rattle.calendar.proofs.Facts.{facts}
use Rattle.calendar.proofs.Counting.{parts_small}
use Rattle.calendar.proofs.day_number.Goals as goal

pub overflow_sub-d : goal.overflow_sub-d
overflow_sub-d c = (facts _ c.requires).from_first_year

pub days_of_years-requires : goal.days_of_years-requires
days_of_years-requires c = let f = facts c.args.d c.requires in omega (arith, f.to_last_year)

pub days_of_months-requires : goal.days_of_months-requires
days_of_months-requires c = (facts c.args.d c.requires).to_december

pub overflow_add-result : goal.overflow_add-result
overflow_add-result c =
    record { fits = omega (arith, c.days_of_years.ensures, c.days_of_months.ensures, parts_small c.args.d c.requires) }

pub overflow_sub-result : goal.overflow_sub-result
overflow_sub-result c = (facts c.args.d c.requires).from_first_day

pub overflow_add-result-2 : goal.overflow_add-result-2
overflow_add-result-2 c =
    record { fits = omega (arith, c.days_of_years.ensures, c.days_of_months.ensures, parts_small c.args.d c.requires) }

pub returns : goal.returns
unfolding day_number
returns c = rw (c.days_of_years.ensures, c.days_of_months.ensures)
