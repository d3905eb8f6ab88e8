-- `figures::put_signed` meets its contract: the sign, then how far from 0. Assumes nothing.
use Rattle.decimals.proofs.Runs.{then, reading}
use Rattle.figures.proofs.Pieces.{signed_plus, signed_minus}
use Rattle.figures.proofs.put_signed.Goals as goal

pub returns-then-is_negative : goal.returns-then-is_negative
returns-then-is_negative c = reading (signed_minus c.args.bits c.magnitude-cents.result c.is_negative.result c.magnitude-cents.ensures c.is_negative.ensures c.if-is_negative.true) (then c.put-minus.ensures c.put_decimal.ensures)

pub returns : goal.returns
returns c = reading (signed_plus c.args.bits c.magnitude-cents.result c.is_negative.result c.magnitude-cents.ensures c.is_negative.ensures c.if-is_negative.false) c.put_field.ensures
