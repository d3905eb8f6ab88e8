-- `opendays::closed_between` meets its contract: one year after the other. Assumes nothing.
use mathlib.Core.Path.{◌≡◌}
use Prim.Native.Nat.{◌*◌, ◌-◌, ◌≤◌}
use Rattle.opendays.specs.Counting.{closed_in, over}
use Rattle.opendays.proofs.closed_between.Given as goal

abbrev pub invariant-loop-y : goal.invariant-loop-y
invariant-loop-y l = (l.closed ≡ over (closed_in l.from l.to) l.initial.y (l.y - l.initial.y)) × (l.closed ≤ 6 * (l.y - l.initial.y))
