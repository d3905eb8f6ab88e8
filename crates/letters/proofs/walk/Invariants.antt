-- `letters::walk` meets its contract: what is left of the walk ends where the whole does. Assumes nothing.
use mathlib.Core.Path.{◌≡◌}
use Prim.Native.Nat.{ℕ, ◌-◌, ◌<◌}
use lib.ListN.{length}
use Rattle.letters.specs.Places.{Reach, on_turn}
use Rattle.letters.specs.declared.Turn.{Turn}
use Rattle.letters.proofs.walk.Given as goal

abbrev pub invariant-loop-next : goal.invariant-loop-next
invariant-loop-next g l =
    (l.i < 18446744073709551616)
    × ((reach : ℕ → Reach) → ((i : ℕ) (t : Turn) → i < 18446744073709551616 → goal.F-post g l.turn i t → on_turn t reach ≡ reach i) → reach l.i ≡ reach l.at)

abbrev pub decreases-loop-next : goal.decreases-loop-next
decreases-loop-next g l = length l.s - l.i
