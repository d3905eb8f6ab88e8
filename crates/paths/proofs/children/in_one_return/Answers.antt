-- `paths::children::in_one_return` meets its contract: the last name is asked for after all the others. Assumes nothing.
use mathlib.Core.Path.{sym, ◌∙◌}
use Rattle.paths.specs.Table.{among, child_role}
use Rattle.paths.proofs.children.in_one_return.Goals as goal

pub returns : goal.returns
unfolding child_role among
returns c = c.only.ensures ∙ sym (rw (← c.same.ensures, c.if-same.false, ← c.same-2.ensures, c.if-same-2.false, ← c.same-3.ensures, c.if-same-3.false, ← c.same-4.ensures, c.if-same-4.false, ← c.same-5.ensures, c.if-same-5.false))
