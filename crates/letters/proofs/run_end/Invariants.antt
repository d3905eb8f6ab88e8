-- `letters::run_end` meets its contract: what is left of the run ends where the whole does. Assumes nothing.
use mathlib.Core.Path.{◌≡◌}
use Rattle.letters.specs.Places.{run_end}
use Rattle.letters.proofs.run_end.Given as goal

abbrev pub invariant-loop-i : goal.invariant-loop-i
invariant-loop-i g l = let f = g.B.Bytes.holds l.kind in run_end f l.s l.i ≡ run_end f l.s l.at
