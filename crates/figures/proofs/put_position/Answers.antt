-- `figures::put_position` meets its contract: four pieces, or nothing. Assumes nothing.
use Rattle.decimals.proofs.Runs.{then, reading, nothing_printed}
use Rattle.figures.proofs.Pieces.{position_none, position_some}
use Rattle.figures.proofs.put_position.Goals as goal

pub returns-then-bits-eq0 : goal.returns-then-bits-eq0
returns-then-bits-eq0 c = reading (position_none c.args.row c.args.bits c.if-bits-eq0.true) (nothing_printed c.args.out.now c.args.at c.least.result c.least.ensures)

pub returns : goal.returns
returns c = reading (position_some c.args.row c.args.bits c.if-bits-eq0.false) (then (then (then c.put_byte-begun.ensures c.put_field-named.ensures) c.put_signed-told.ensures) c.put_byte.ensures)
