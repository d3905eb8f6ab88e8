-- `slots::start_from` meets its contract: a remainder after each four digits, and after each that is left over. Assumes nothing.
use lib.ListN.{length, drop}
use Rattle.slots.proofs.Starts.{Taking}
use Rattle.slots.proofs.start_from.Given as goal

abbrev pub invariant-loop-a : goal.invariant-loop-a
invariant-loop-a l = Taking l.key l.m l.v l.rest

abbrev pub decreases-loop-a : goal.decreases-loop-a
decreases-loop-a l = length l.rest

abbrev pub invariant-loop-x : goal.invariant-loop-x
invariant-loop-x l = Taking l.key l.m l.v (drop l.x-index l.x-items)
