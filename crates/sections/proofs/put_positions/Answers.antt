-- `sections::put_positions` meets its contract: the rows passed so far are printed. Assumes nothing.
use Rattle.decimals.proofs.Runs.{then, reading, nothing_printed, printed_length}
use native.Mathlib.Omega.{arith}
use Rattle.sections.proofs.Turns.{positions_none, positions_turn, positions_end}
use Rattle.sections.proofs.put_positions.Goals as goal

pub loop-i-init : goal.loop-i-init
loop-i-init c = reading (positions_none _) (nothing_printed c.args.out.now c.args.at c.least-next.result c.least-next.ensures)

pub loop-i-preserved : goal.loop-i-preserved
loop-i-preserved c = reading (positions_turn c.args.positions.now c.loop-i.i c.position_at.result c.position_at.ensures) (then c.loop-i.invariant c.put_position-next.ensures)

pub shape_of-out : goal.shape_of-out
shape_of-out c = printed_length c.loop-i.invariant

pub returns : goal.returns
returns c = reading (positions_end c.args.positions.now c.loop-i.i c.rows-rows.result c.rows-rows.ensures (omega arith) c.loop-i-test.false) c.loop-i.invariant
