-- `texts::same` meets its contract: texts of two lengths differ, and the others are compared. Assumes nothing.
use mathlib.Core.Path.{sym}
use Rattle.wire.proofs.Texts.{same_short}
use Rattle.texts.proofs.same.Goals as goal

pub returns-then-a-b : goal.returns-then-a-b
returns-then-a-b c = sym (same_short _ _ c.if-a-b.true)
