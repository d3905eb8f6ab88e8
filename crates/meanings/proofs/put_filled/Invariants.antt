-- `meanings::put_filled` meets its contract: what is left to store, over what is stored already, comes to the whole text. Assumes nothing.
use mathlib.Core.Path.{◌≡◌}
use Prim.Native.Nat.{◌+◌}
use lib.ListN.{length, drop}
use lib.Seq.{sets}
use Rattle.meanings.specs.Meanings.{filled}
use Rattle.meanings.proofs.put_filled.Given as goal

abbrev pub invariant-loop-i : goal.invariant-loop-i
invariant-loop-i l = (length l.d ≡ length l.initial.d) × (sets l.d (l.at + l.i) (drop l.i (filled l.n l.t)) ≡ sets l.initial.d l.at (filled l.n l.t))
