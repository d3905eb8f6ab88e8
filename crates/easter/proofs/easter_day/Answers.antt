-- `easter::easter_day` meets its contract: the date tells its day of March. Assumes nothing.
use native.Mathlib.Omega.{arith}
use Rattle.easter.specs.Easter.{easter_day}
use Rattle.easter.proofs.Laws.{easter_within, from_march, from_april}
use Rattle.easter.proofs.easter_day.Goals as goal

pub returns-then-sunday-eq3 : goal.returns-then-sunday-eq3
returns-then-sunday-eq3 c =
    let y = c.args.y in
    from_march y (easter_day y) _ (omega (arith, easter_within y)) c.easter_sunday-sunday.ensures c.if-sunday-eq3.true

pub returns-else-sunday-eq3 : goal.returns-else-sunday-eq3
returns-else-sunday-eq3 c =
    let y = c.args.y in
    from_april y (easter_day y) _ (omega (arith, easter_within y)) c.easter_sunday-sunday.ensures c.if-sunday-eq3.false
