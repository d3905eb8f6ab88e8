-- `positions::position_at` meets its contract: past the last row there is nothing. Assumes nothing.
use Rattle.std.proofs.Common.{sym, arith}
use Rattle.positions.proofs.Laws.{position_past}
use Rattle.positions.proofs.position_at.Goals as goal

pub returns-then-rows-i : goal.returns-then-rows-i
returns-then-rows-i c =
    let args = c.args in
    sym (position_past args.positions.now args.i (omega arith))
