-- `routing::row_of` meets its contract: what is left of the search finds what the whole search finds. Assumes nothing.
use mathlib.Core.Path.{◌≡◌}
use Rattle.routing.specs.Lookup.{row_of}
use Rattle.routing.proofs.Laws.{row_left}
use Rattle.routing.proofs.row_of.Given as goal

abbrev pub invariant-loop-i : goal.invariant-loop-i
invariant-loop-i l = row_left l.date l.table l.bic l.i-end l.i ≡ row_of l.date l.table l.bic
