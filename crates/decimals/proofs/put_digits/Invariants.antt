-- `decimals::put_digits` meets its contract: what is left to store, over what is stored already, comes to all the digits.
-- Assumes nothing.
use mathlib.Core.Path.{◌≡◌}
use lib.ListN.{length}
use lib.Seq.{sets}
use Rattle.decimals.specs.Decimal.{digits_of}
use Rattle.decimals.proofs.put_digits.Given as goal

abbrev pub invariant-loop-i : goal.invariant-loop-i
invariant-loop-i l = (length l.out ≡ length l.initial.out) × (sets l.out l.at (digits_of l.i l.rest) ≡ sets l.initial.out l.at (digits_of l.n l.v))
