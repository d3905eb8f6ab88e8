-- `meanings::decimal` meets its contract: after so many digits, v is the number that they write, and is below that power of 10.
-- Assumes nothing.
use mathlib.Core.Path.{◌≡◌}
use Prim.Native.Nat.{◌<◌, ◌^◌}
use lib.ListN.{take}
use Rattle.meanings.specs.Meanings.{decimal}
use Rattle.meanings.proofs.decimal.Given as goal

abbrev pub invariant-loop-b : goal.invariant-loop-b
invariant-loop-b l = (l.v ≡ decimal (take l.b-index l.t)) × (l.v < 10 ^ l.b-index)
