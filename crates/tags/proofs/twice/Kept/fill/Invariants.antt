-- `tags::twice::Kept::fill` meets its contract: the first n places are those of the attributes up to place i. Assumes nothing.
use mathlib.Core.Path.{◌≡◌}
use lib.ListN.{length}
use Rattle.tags.specs.Twice.{block, Held}
use Rattle.tags.proofs.twice.Kept.fill.Given as goal

abbrev pub invariant-loop-n : goal.invariant-loop-n
invariant-loop-n l = (length l.self.places ≡ block) × (length l.self.marks ≡ block) × Held l.s l.from l.i l.self l.n
