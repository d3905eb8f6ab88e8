-- `wording::kept` meets its contract: the spaces passed so far change nothing of what is left. Assumes nothing.
use mathlib.Core.Path.{◌≡◌}
use lib.ListN.{take}
use Rattle.wording.specs.Wording.{kept}
use Rattle.wording.proofs.kept.Given as goal

abbrev pub invariant-loop-n : goal.invariant-loop-n
invariant-loop-n l = kept (take l.n l.s) ≡ kept l.s
