-- `lines::put_shown` meets its contract: the bytes passed so far are shown. Assumes nothing.
use native.Mathlib.Omega.{arith}
use Rattle.decimals.proofs.Runs.{then, reading, nothing_printed, printed_length}
use Rattle.lines.proofs.Pieces.{shown_more, shown_all}
use Rattle.lines.proofs.put_shown.Goals as goal

pub loop-c-init : goal.loop-c-init
loop-c-init c = nothing_printed c.args.out.now c.args.at c.least-next.result c.least-next.ensures

pub loop-c-preserved : goal.loop-c-preserved
loop-c-preserved c = reading (shown_more c.args.s.now c.loop-c.c-index c.shown.result (omega arith) c.shown.ensures) (then c.loop-c.invariant c.put_byte-next.ensures)

pub shape_of-out : goal.shape_of-out
shape_of-out c = printed_length c.loop-c.invariant

pub returns : goal.returns
returns c = reading (shown_all c.args.s.now c.loop-c.c-index (omega arith) c.loop-c-test.false) c.loop-c.invariant
