-- `opendays::holidays` meets its contract: it names the six in the definition's order. Assumes nothing.
use native.Mathlib.Omega.{arith}
use Rattle.easter.proofs.Laws.{easter_within}
use Rattle.opendays.proofs.holidays.Goals as goal

pub overflow_sub-sunday : goal.overflow_sub-sunday
overflow_sub-sunday c = omega (arith, c.easter_day-sunday.ensures, easter_within c.args.y)

pub march_date-requires : goal.march_date-requires
march_date-requires c =
    (c.requires.not_after, omega (arith, c.easter_day-sunday.ensures, easter_within c.args.y))

pub overflow_add-sunday : goal.overflow_add-sunday
overflow_add-sunday c =
    record { fits = omega (arith, c.easter_day-sunday.ensures, easter_within c.args.y) }

pub march_date-requires-2 : goal.march_date-requires-2
march_date-requires-2 c =
    (c.requires.not_after, omega (arith, c.easter_day-sunday.ensures, easter_within c.args.y))

pub returns : goal.returns
returns c =
    rw (c.date_of.ensures, c.march_date.ensures, c.march_date-2.ensures, c.date_of-2.ensures, c.date_of-3.ensures, c.date_of-4.ensures, c.easter_day-sunday.ensures)
