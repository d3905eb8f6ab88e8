-- `tags::turns::attribute_turn` meets its contract. Assumes nothing.
use mathlib.Core.Path.{sym, ◌∙◌}
use borrow.Author.Rules.{rules}
use Rattle.tags.specs.Attributes.{named}
use Rattle.tags.proofs.Blocks.{turn_alike}
use Rattle.tags.proofs.turns.attribute_turn.Goals as goal

pub returns : goal.returns
returns c =
    let args = c.args in
    c.turn_by.ensures (named args.s.now args.from) (λ k b h post. search rules) ∙ sym (turn_alike args.s.now args.from args.at)
