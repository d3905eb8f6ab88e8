-- `tags::in_euros` meets its contract. Assumes nothing.
use borrow.Author.Rules.{rules}
use Rattle.tags.specs.Attributes.{in_euros}
use Rattle.tags.proofs.in_euros.Goals as goal

pub returns : goal.returns
returns c = c.some_attribute.ensures (in_euros c.args.s.now) (λ k b h post. search rules)
