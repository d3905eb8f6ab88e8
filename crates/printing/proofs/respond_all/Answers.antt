-- `printing::respond_all` meets its contract: both buffers are long enough. Assumes nothing.
use native.Mathlib.Omega.{arith}
use Rattle.printing.proofs.Always.{answered_all}
use Rattle.printing.proofs.respond_all.Goals as goal

pub returns : goal.returns
returns c = answered_all c.read_of.result.now c.read_of.ensures (omega arith) c.respond.ensures
