-- `calendar::day_after` meets its contract by each of its three ways. Assumes nothing.
use mathlib.Core.Path.{sym, ◌∙◌}
use native.Mathlib.Omega.{arith}
use Rattle.calendar.proofs.Facts.{facts}
use Rattle.calendar.proofs.Days.{after_same, after_month, after_year}
use Rattle.calendar.proofs.day_after.Goals as goal

pub overflow_add-result : goal.overflow_add-result
overflow_add-result c = let f = facts c.args.d c.requires in record { fits = omega (arith, f.to_last_year) }

pub date_of-requires : goal.date_of-requires
date_of-requires c = let f = facts c.args.d c.requires in (omega (arith, f.to_last_year), omega (arith, f.to_december), omega arith)

pub date_of-requires-else-month-lt12 : goal.date_of-requires-else-month-lt12
date_of-requires-else-month-lt12 c = let f = facts c.args.d c.requires in (omega (arith, f.to_last_year), omega arith, omega arith)

pub returns-then-d-days_in : goal.returns-then-d-days_in
returns-then-d-days_in c = sym (after_same _ (rw (← c.days_in.ensures) c.if-d-days_in.true))

pub returns-then-month-lt12 : goal.returns-then-month-lt12
returns-then-month-lt12 c =
    c.date_of.ensures ∙ sym (after_month _ (rw (← c.days_in.ensures) c.if-d-days_in.false) c.if-month-lt12.true)

pub returns-else-month-lt12 : goal.returns-else-month-lt12
returns-else-month-lt12 c =
    c.date_of-else-month-lt12.ensures ∙ sym (after_year _ (rw (← c.days_in.ensures) c.if-d-days_in.false) c.if-month-lt12.false)
