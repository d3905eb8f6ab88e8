-- `tags::twice::mark` meets its contract: what is left of the name from place i on comes to what the whole comes to. Assumes nothing.
use mathlib.Core.Path.{◌∙◌}
use native.Mathlib.Omega.{arith}
use lib.ListN.{drop_of_length-le}
use Rattle.tags.specs.Twice.{mark_from}
use Rattle.tags.proofs.Blocks.{mark_more}
use Rattle.tags.proofs.twice.mark.Goals as goal

pub overflow_cast-v : goal.overflow_cast-v
overflow_cast-v c = omega (arith, c.type_inv.name c.loop-b.b-index)

pub overflow_add-v : goal.overflow_add-v
overflow_add-v c = omega (arith, c.type_inv.name c.loop-b.b-index)

pub loop-b-preserved : goal.loop-b-preserved
loop-b-preserved c = mark_more _ _ _ c.loop-b-test.true ∙ c.loop-b.invariant

pub returns : goal.returns
unfolding mark_from
returns c = (rw (drop_of_length-le _ c.loop-b-test.false) at c.loop-b.invariant)
