-- `register::stands_between` meets its contract: what is left of the search comes to what the whole search comes to. Assumes nothing.
use mathlib.Core.Path.{refl, sym, ◌∙◌}
use Rattle.register.proofs.Search.{stands_here, stands_more, stands_ends}
use Rattle.register.proofs.stands_between.Goals as goal

pub loop-k-init : goal.loop-k-init
loop-k-init c = refl

pub returns-then-has_key : goal.returns-then-has_key
returns-then-has_key c =
    let args = c.args in
    let loop = c.loop-k in
    sym (stands_here args.register.now args.key.now _ loop.k _ c.has_key.ensures c.loop-k-test.true c.if-has_key.true) ∙ loop.invariant

pub loop-k-preserved : goal.loop-k-preserved
loop-k-preserved c =
    let args = c.args in
    let loop = c.loop-k in
    stands_more args.register.now args.key.now _ loop.k _ c.has_key.ensures c.loop-k-test.true c.if-has_key.false ∙ loop.invariant

pub returns : goal.returns
returns c =
    let args = c.args in
    sym (stands_ends args.register.now args.key.now _ c.loop-k.k c.loop-k-test.false) ∙ c.loop-k.invariant
