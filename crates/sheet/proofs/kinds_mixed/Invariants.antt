-- `sheet::kinds_mixed` meets its contract: what is left of the headers, after what was seen, comes to what all of them come to.
-- Assumes nothing.
use mathlib.Core.Path.{◌≡◌}
use mathlib.Core.Bool.{false}
use Rattle.sheet.specs.Sheet.{headers_of, mixed}
use Rattle.sheet.proofs.Laws.{headers_left}
use Rattle.sheet.proofs.kinds_mixed.Given as goal

abbrev pub invariant-loop-k : goal.invariant-loop-k
invariant-loop-k l = mixed l.seen (headers_left l.s l.n l.k) ≡ mixed false (headers_of l.s l.n)
