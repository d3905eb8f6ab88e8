-- `tags::twice::mark` meets its contract: what is left of the name from place i on comes to what the whole comes to. Assumes nothing.
use mathlib.Core.Path.{◌≡◌}
use lib.ListN.{drop}
use Rattle.tags.specs.Twice.{mark_from}
use Rattle.tags.proofs.twice.mark.Given as goal

abbrev pub invariant-loop-b : goal.invariant-loop-b
invariant-loop-b l = mark_from l.v (drop l.b-index l.name) ≡ mark_from 0 l.name
