-- `register::stands_between` meets its contract: what is left of the search comes to what the whole search comes to. Assumes nothing.
use mathlib.Core.Path.{◌≡◌}
use Rattle.register.proofs.Search.{stands_left}
use Rattle.register.proofs.stands_between.Given as goal

abbrev pub invariant-loop-k : goal.invariant-loop-k
invariant-loop-k l = stands_left l.register l.key l.to l.k ≡ stands_left l.register l.key l.to l.from
