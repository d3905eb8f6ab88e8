-- `wording::kept` meets its contract: the spaces passed so far change nothing of what is left. Assumes nothing.
use mathlib.Core.Path.{◌∙◌}
use native.Mathlib.Omega.{arith}
use Rattle.wording.proofs.Laws.{kept_more, kept_here, kept_none}
use Rattle.wording.proofs.kept.Goals as goal

pub returns-then-s-n-ne32 : goal.returns-then-s-n-ne32
returns-then-s-n-ne32 c =
    omega (arith, kept_here c.args.s.now c.loop-n.n (omega arith) (omega arith) c.if-s-n-ne32.true ∙ c.loop-n.invariant)

pub loop-n-preserved : goal.loop-n-preserved
loop-n-preserved c = kept_more c.args.s.now c.loop-n.n (omega arith) (omega arith) c.if-s-n-ne32.false ∙ c.loop-n.invariant

pub returns : goal.returns
returns c = kept_none c.args.s.now c.loop-n.n c.loop-n-test.false ∙ c.loop-n.invariant
