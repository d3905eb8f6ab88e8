-- `tags::twice::Kept::turn` meets its contract. Assumes nothing.
use borrow.Author.Rules.{rules}
use Rattle.tags.specs.Twice.{among}
use Rattle.tags.proofs.twice.Kept.turn.Goals as goal

pub returns : goal.returns
returns c =
    let args = c.args in
    c.turn_by.ensures (among args.s.now args.self.now.places args.n) (λ k b h post. search rules)
