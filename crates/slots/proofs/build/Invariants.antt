-- `slots::build` meets its contract: a turn of the loop adds a record. Assumes nothing.
use mathlib.Core.Path.{◌≡◌}
use lib.ListN.{length}
use Rattle.slots.specs.Stored.{built_in}
use Rattle.slots.proofs.build.Given as goal

abbrev pub invariant-loop-k : goal.invariant-loop-k
invariant-loop-k l = l.index ≡ built_in l.layout l.records (length l.fn.index) l.k
