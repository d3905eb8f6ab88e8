-- `fields::straight_at` meets its contract: where a tag follows straight bytes, they are what the text says. Assumes nothing.
use mathlib.Core.Path.{sym, ◌∙◌}
use Rattle.prose.proofs.Straight.{straight_said}
use Rattle.fields.proofs.straight_at.Goals as goal

pub returns-then-byte_at-ne33 : goal.returns-then-byte_at-ne33
returns-then-byte_at-ne33 c =
    let args = c.args in
    let end = c.straight_end-e in
    let sign = sym c.byte_at.ensures ∙ c.if-byte_at-eq60.true in
    straight_said args.s.now args.at end.result end.ensures sign (λ e. c.if-byte_at-ne33.true (c.byte_at-then-byte_at-eq60.ensures ∙ e))
