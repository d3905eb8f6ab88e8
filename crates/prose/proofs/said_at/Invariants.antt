-- `prose::said_at` meets its contract: what was said so far is kept, and what is left to say comes to the whole. Assumes nothing.
use Prim.Native.Nat.{◌-◌}
use lib.ListN.{length}
use Rattle.prose.proofs.Sayings.{Saying}
use Rattle.prose.proofs.said_at.Given as goal

abbrev pub invariant-loop-n : goal.invariant-loop-n
invariant-loop-n l = Saying l.s l.at l.bytes l.n l.inside l.i

abbrev pub decreases-loop-n : goal.decreases-loop-n
decreases-loop-n l = length l.s - l.i
