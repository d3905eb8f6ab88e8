-- `decimals::put_wide` meets its contract: the limbs keep to 64 bits, and the two pieces are the number. Assumes nothing.
use Rattle.decimals.proofs.Limbs.{no_front, front}
use Rattle.decimals.proofs.Runs.{then, reading}
use Rattle.decimals.proofs.put_wide.Goals as goal

pub returns-then-front-eq0 : goal.returns-then-front-eq0
returns-then-front-eq0 c = reading (no_front c.args.high c.args.low c.if-front-eq0.true) c.put_decimal.ensures

pub returns : goal.returns
returns c = reading (front c.args.high c.args.low c.if-front-eq0.false) (then c.put_decimal-next.ensures c.put_digits.ensures)
