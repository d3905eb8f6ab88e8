-- `routing::kinds_known` meets its contract: what is left of the scan comes to what the whole scan comes to. Assumes nothing.
use mathlib.Core.Path.{◌≡◌}
use Rattle.routing.specs.Table.{kinds_known}
use Rattle.routing.proofs.Laws.{kinds_left}
use Rattle.routing.proofs.kinds_known.Given as goal

abbrev pub invariant-loop-i : goal.invariant-loop-i
invariant-loop-i l = kinds_left l.table l.i-end l.i ≡ kinds_known l.table
