-- `tags::twice::alike` meets its contract: names of which the marks differ do. Assumes nothing.
use mathlib.Core.Path.{sym, ◌∙◌}
use Rattle.tags.proofs.Blocks.{unmarked}
use Rattle.tags.proofs.twice.alike.Goals as goal

pub returns-then-its-given : goal.returns-then-its-given
returns-then-its-given c =
    let args = c.args in
    sym (unmarked args.s.now args.k args.name.now (λ e. c.if-its-given.true (c.requires.0 ∙ e ∙ sym c.requires.1)))

pub returns : goal.returns
returns c = c.same.ensures ∙ (rw c.name_at.ensures)
