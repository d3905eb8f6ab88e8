-- `texts::same_words` meets its contract: up to place end the texts are equal exactly if they are as a whole, and at the end what remains
-- lies in their first word. Assumes nothing.
use mathlib.Core.Path.{◌≡◌}
use Prim.Native.Nat.{◌≤◌}
use lib.ListN.{length, take}
use Rattle.wire.specs.Field.{same}
use Rattle.texts.proofs.same_words.Given as goal

abbrev pub invariant-loop-end : goal.invariant-loop-end
invariant-loop-end l = (l.end ≤ length l.a) × (same (take l.end l.a) (take l.end l.b) ≡ same l.a l.b)

abbrev pub decreases-loop-end : goal.decreases-loop-end
decreases-loop-end l = l.end
