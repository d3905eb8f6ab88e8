-- `wire::number` meets its contract: after some bytes, v is the number that they write, modulo 2 ^ 64.
-- Assumes nothing.
use mathlib.Core.Path.{◌≡◌}
use Prim.Native.Nat.{◌%◌, ◌^◌}
use lib.ListN.{take}
use Rattle.wire.specs.Field.{number_of}
use Rattle.wire.proofs.number.Given as goal

abbrev pub invariant-loop-byte : goal.invariant-loop-byte
invariant-loop-byte l = l.v ≡ number_of (take l.byte-index l.s) % 2 ^ 64
