-- `texts::same_bytes` meets its contract: what remains from place i on is equal exactly if the whole texts are.
-- Assumes nothing.
use Rattle.wire.proofs.Texts.{same_differs, same_more, same_ends}
use Rattle.texts.proofs.same_bytes.Goals as goal

pub returns-then-a-i : goal.returns-then-a-i
returns-then-a-i c = same_differs _ _ _ c.requires c.loop-i.invariant c.loop-i-test.true c.if-a-i.true

pub loop-i-preserved : goal.loop-i-preserved
loop-i-preserved c = same_more _ _ _ c.requires c.loop-i.invariant c.loop-i-test.true c.if-a-i.false

pub returns : goal.returns
returns c = same_ends _ _ _ c.requires c.loop-i.invariant c.loop-i-test.false
