-- `sheet::kinds_known` meets its contract: what is left of the headers comes to what all of them come to. Assumes nothing.
use mathlib.Core.Path.{◌≡◌}
use Rattle.sheet.specs.Sheet.{headers_of, kinds_known}
use Rattle.sheet.proofs.Laws.{headers_left}
use Rattle.sheet.proofs.kinds_known.Given as goal

abbrev pub invariant-loop-k : goal.invariant-loop-k
invariant-loop-k l = kinds_known (headers_left l.s l.n l.k) ≡ kinds_known (headers_of l.s l.n)
