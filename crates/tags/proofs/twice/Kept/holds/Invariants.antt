-- `tags::twice::Kept::holds` meets its contract: the name stands at none of the first j places. Assumes nothing.
use mathlib.Core.Path.{◌≡◌}
use mathlib.Core.Bool.{false}
use Rattle.tags.specs.Twice.{among}
use Rattle.tags.proofs.twice.Kept.holds.Given as goal

abbrev pub invariant-loop-j : goal.invariant-loop-j
invariant-loop-j l = among l.s l.self.places l.j l.at ≡ false
