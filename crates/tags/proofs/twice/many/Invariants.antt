-- `tags::twice::many` meets its contract: where the walks so far break first, with what is left from place i on, is where the whole does.
-- Assumes nothing.
use mathlib.Core.Path.{◌≡◌}
use Prim.Native.Nat.{◌-◌}
use lib.ListN.{length}
use Rattle.tags.specs.Attributes.{attributes_at}
use Rattle.tags.specs.Twice.{sooner}
use Rattle.tags.proofs.twice.many.Given as goal

abbrev pub invariant-loop-n : goal.invariant-loop-n
invariant-loop-n l = sooner l.first (attributes_at l.s l.i) ≡ attributes_at l.s l.from

abbrev pub decreases-loop-n : goal.decreases-loop-n
decreases-loop-n l = length l.s - l.i
