-- `slots::taken` meets its contract: what was counted and what is left come to the whole. Assumes nothing.
use mathlib.Core.Path.{◌≡◌}
use Prim.Native.Nat.{◌+◌, ◌≤◌}
use Rattle.slots.specs.Stored.{slots_of}
use Rattle.slots.specs.Asked.{taken}
use Rattle.slots.proofs.Turns.{taken_from}
use Rattle.slots.proofs.taken.Given as goal

abbrev pub invariant-loop-i : goal.invariant-loop-i
invariant-loop-i l = (l.t ≤ l.i) × (l.t + taken_from l.index l.n l.i ≡ taken (slots_of l.index))
