-- `sheet::kinds_mixed` meets its contract: what is left of the headers, after what was seen, comes to what all of them come to.
-- Assumes nothing.
use mathlib.Core.Path.{sym, ◌∙◌}
use Rattle.sheet.specs.Sheet.{mixed}
use Rattle.sheet.proofs.Laws.{headers_end, mixed_left}
use Rattle.sheet.proofs.kinds_mixed.Goals as goal

pub returns-then-seen-kind : goal.returns-then-seen-kind
returns-then-seen-kind c =
    let loop = c.loop-k in
    sym (mixed_left c.args.s.now c.args.n loop.k c.loop-k-test.true loop.seen ∙ (rw (← c.kind_at-kind.ensures, c.if-seen-kind.true))) ∙ loop.invariant

pub loop-k-preserved : goal.loop-k-preserved
loop-k-preserved c =
    let loop = c.loop-k in
    sym (mixed_left c.args.s.now c.args.n loop.k c.loop-k-test.true loop.seen ∙ (rw (← c.kind_at-kind.ensures, c.if-seen-kind.false))) ∙ loop.invariant

pub returns : goal.returns
unfolding mixed
returns c =
    let loop = c.loop-k in
    (rw (headers_end c.args.s.now c.args.n loop.k c.loop-k-test.false) at loop.invariant)
