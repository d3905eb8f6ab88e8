-- `opendays::next_open_day` meets its contract: what is left of the search finds what the whole search finds. Assumes nothing.
use mathlib.Core.Path.{sym, ap, ◌∙◌}
use native.Mathlib.Omega.{arith}
use Rattle.calendar.proofs.Days.{after_later, after_date}
use Rattle.opendays.specs.OpenDay.{open_day}
use Rattle.opendays.proofs.Next.{next_open, next_closed, next_ends}
use Rattle.opendays.proofs.Laws.{next_told, next_none}
use Rattle.opendays.proofs.next_open_day.Goals as goal

pub returns-then-is_open : goal.returns-then-is_open
returns-then-is_open c =
    let inv = c.loop-day.invariant in
    let same = c.day_after-day.ensures in
    let opens = sym (ap open_day same) ∙ sym c.is_open.ensures ∙ c.if-is_open.true in
    rw same (next_told _ _ c.in_ok-dated.ensures
    (sym inv.1 ∙ next_open _ inv.0 c.loop-day-test.true opens))

pub loop-day-smaller : goal.loop-day-smaller
loop-day-smaller c =
    let inv = c.loop-day.invariant in
    omega (arith, c.day_after-day.ensures, after_later c.loop-day.day inv.0, c.loop-day-test.true)

pub loop-day-preserved : goal.loop-day-preserved
loop-day-preserved c =
    let inv = c.loop-day.invariant in
    let same = c.day_after-day.ensures in
    let closed = sym (ap open_day same) ∙ sym c.is_open.ensures ∙ c.if-is_open.false in
    rw same (after_date _ inv.0 c.loop-day-test.true, next_closed _ inv.0 c.loop-day-test.true closed ∙ inv.1)

pub returns : goal.returns
returns c =
    let inv = c.loop-day.invariant in
    next_none _ c.in_ok-dated.ensures (sym inv.1 ∙ next_ends _ c.loop-day-test.false)
