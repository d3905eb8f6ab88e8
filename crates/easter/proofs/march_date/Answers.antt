-- `easter::march_date` meets its contract in either month. Assumes nothing.
use mathlib.Core.Path.{sym, ◌∙◌}
use native.Mathlib.Omega.{arith}
use Rattle.easter.proofs.Laws.{in_march, in_april}
use Rattle.easter.proofs.march_date.Goals as goal

pub date_of-requires : goal.date_of-requires
date_of-requires c = (omega (arith, c.requires), omega arith, omega arith)

pub date_of-requires-else-n-le31 : goal.date_of-requires-else-n-le31
date_of-requires-else-n-le31 c = (omega (arith, c.requires), omega arith, omega (arith, c.requires))

pub returns-then-n-le31 : goal.returns-then-n-le31
returns-then-n-le31 c = c.date_of.ensures ∙ sym (in_march _ _ c.if-n-le31.true)

pub returns-else-n-le31 : goal.returns-else-n-le31
returns-else-n-le31 c = c.date_of-else-n-le31.ensures ∙ sym (in_april _ _ c.if-n-le31.false)
