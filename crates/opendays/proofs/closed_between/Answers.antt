-- `opendays::closed_between` meets its contract: one year after the other. Assumes nothing.
use native.Mathlib.Omega.{arith}
use Rattle.calendar.proofs.Facts.{facts}
use Rattle.opendays.proofs.Laws.{over_more, over_none, over_all}
use Rattle.opendays.proofs.closed_between.Goals as goal

pub loop-y-init : goal.loop-y-init
loop-y-init c = (over_none _ _, omega arith)

pub closed_in-closed-requires : goal.closed_in-closed-requires
closed_in-closed-requires c =
    let f = facts c.args.from c.requires.first in
    let t = facts c.args.to c.requires.second in
    record { not_before = omega (arith, f.from_first_year); not_after = omega (arith, t.to_last_year) }

pub overflow_add-closed : goal.overflow_add-closed
overflow_add-closed c =
    let f = facts c.args.from c.requires.first in
    let t = facts c.args.to c.requires.second in
    record { fits = omega (arith, c.loop-y.invariant.1, c.closed_in-closed.ensures.1, f.from_first_year, t.to_last_year) }

pub loop-y-preserved : goal.loop-y-preserved
loop-y-preserved c =
    let inv = c.loop-y.invariant in
    let told = c.closed_in-closed.ensures in
    (over_more _ _ _ _ _ c.loop-y.auto.y inv.0 told.0, omega (arith, c.loop-y.auto.y, inv.1, told.1))

pub returns : goal.returns
returns c = over_all _ _ _ c.loop-y.y _ (omega (arith, c.requires.later)) c.loop-y.invariant.0
