-- `tags::turns::some_attribute` meets its contract: what is left of the search from place i on comes to what the whole comes to. Assumes nothing.
use mathlib.Core.Path.{◌≡◌}
use mathlib.Core.Bool.{Bool}
use Prim.Native.Nat.{ℕ, ◌-◌, ◌<◌}
use lib.ListN.{length}
use Rattle.tags.specs.Attributes.{some_attribute}
use Rattle.tags.proofs.turns.some_attribute.Given as goal

abbrev pub invariant-loop-test : goal.invariant-loop-test
invariant-loop-test g l =
    (holds : ℕ → Bool) → ((k : ℕ) (b : Bool) → k < 18446744073709551616 → goal.F-post g l.test k b → b ≡ holds k)
    → some_attribute holds l.s l.i l.end ≡ some_attribute holds l.s l.from l.end

abbrev pub decreases-loop-test : goal.decreases-loop-test
decreases-loop-test g l = length l.s - l.i
