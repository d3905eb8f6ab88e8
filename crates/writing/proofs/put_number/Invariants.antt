-- `writing::put_number` meets its contract: what is left to store, over what is stored already, comes to the whole number.
-- Assumes nothing.
use mathlib.Core.Path.{◌≡◌}
use lib.Seq.{sets}
use Rattle.wire.specs.Field.{bytes_of}
use Rattle.writing.proofs.put_number.Given as goal

abbrev pub invariant-loop-i : goal.invariant-loop-i
invariant-loop-i l = sets l.d l.at (bytes_of l.i l.rest) ≡ sets l.initial.d l.at (bytes_of l.n l.v)
