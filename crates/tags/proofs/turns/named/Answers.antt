-- `tags::turns::named` meets its contract. Assumes nothing.
use borrow.Author.Rules.{rules}
use Rattle.wire.specs.Field.{same}
use Rattle.tags.specs.Names.{name_at}
use Rattle.tags.proofs.Searches.{some_past}
use Rattle.tags.proofs.turns.named.Goals as goal

pub returns-then-at-space_end : goal.returns-then-at-space_end
returns-then-at-space_end c =
    let args = c.args in
    let s = args.s.now in
    some_past (λ k. same (name_at s k) (name_at s args.at)) s args.at args.from c.space_end.result c.space_end.ensures c.if-at-space_end.true

pub returns : goal.returns
returns c =
    let s = c.args.s.now in
    c.some_attribute.ensures (λ k. same (name_at s k) (name_at s c.args.at)) (λ k b h post. search rules)
