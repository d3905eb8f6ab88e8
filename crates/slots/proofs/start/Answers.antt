-- `slots::start` meets its contract: before the first byte nothing is taken in. Assumes nothing.
use native.Mathlib.Omega.{arith}
use Rattle.slots.proofs.Starts.{start_empty}
use Rattle.slots.proofs.start.Goals as goal

pub start_from-requires : goal.start_from-requires
start_from-requires c = record { small = c.requires; inside = omega arith; rest = start_empty c.args.n }
