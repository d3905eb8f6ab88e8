-- `wording::spelled` meets its contract: what is left of the two scans comes to what they come to in all. Assumes nothing.
use mathlib.Core.Path.{◌≡◌}
use Rattle.wording.specs.Wording.{spelled}
use Rattle.wording.proofs.Laws.{run_left}
use Rattle.wording.proofs.spelled.Given as goal

abbrev pub invariant-loop-i : goal.invariant-loop-i
invariant-loop-i l = run_left l.t l.i ≡ spelled l.t
