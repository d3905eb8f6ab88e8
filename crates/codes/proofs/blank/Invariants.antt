-- `codes::blank` meets its contract: what is left of the scan comes to what the whole scan comes to. Assumes nothing.
use mathlib.Core.Path.{◌≡◌}
use lib.ListN.{length}
use Rattle.wording.specs.Wording.{is_space, every, blank}
use Rattle.codes.proofs.blank.Given as goal

abbrev pub invariant-loop-i : goal.invariant-loop-i
invariant-loop-i l = every is_space l.s l.i (length l.s) ≡ blank l.s
