-- `decimals::put_byte` meets its contract. Assumes nothing.
use Rattle.decimals.proofs.Runs.{byte_lost}
use Rattle.decimals.proofs.put_byte.Goals as goal

pub returns-else-at-out : goal.returns-else-at-out
returns-else-at-out c = byte_lost c.args.out.now c.args.at c.args.b c.if-at-out.false
