-- `writing::put_text` meets its contract: what is left to store, over what is stored already, comes to the whole text.
-- Assumes nothing.
use mathlib.Core.Path.{◌≡◌}
use Prim.Native.Nat.{◌+◌}
use lib.ListN.{drop}
use lib.Seq.{sets}
use Rattle.writing.proofs.put_text.Given as goal

abbrev pub invariant-loop-i : goal.invariant-loop-i
invariant-loop-i l = sets l.d (l.at + l.i) (drop l.i l.s) ≡ sets l.initial.d l.at l.s
