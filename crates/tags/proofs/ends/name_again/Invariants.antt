-- `tags::ends::name_again` meets its contract: what is left of the name, from the place reached on, comes to what the whole does. Assumes nothing.
use mathlib.Core.Path.{◌≡◌}
use Prim.Native.Nat.{◌+◌}
use Rattle.letters.specs.Places.{between, expected}
use Rattle.tags.proofs.ends.name_again.Given as goal

abbrev pub invariant-loop-k : goal.invariant-loop-k
invariant-loop-k l = expected l.s (between l.s (l.from + l.k) l.to) (l.at + l.k) ≡ expected l.s (between l.s l.from l.to) l.at
