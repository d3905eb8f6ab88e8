-- `slots::is_built` meets its contract: a turn of the loop checks a record. Assumes nothing.
use mathlib.Core.Path.{◌≡◌}
use Prim.Native.Nat.{◌-◌, ◌<◌}
use Rattle.slots.specs.Asked.{front_at}
use Rattle.slots.proofs.Checking.{Checking}
use Rattle.slots.proofs.is_built.Given as goal

abbrev pub invariant-loop-k : goal.invariant-loop-k
invariant-loop-k l = (Checking l.layout l.records l.index l.m l.count l.k) × (0 < l.k → l.front ≡ front_at l.layout l.records l.n (l.k - 1))
