-- `tags::turns::some_attribute` meets its contract: what is left of the search from place i on comes to what the whole comes to. Assumes nothing.
use mathlib.Core.Path.{refl, sym, ◌∙◌}
use native.Mathlib.Omega.{arith}
use Rattle.std.specs.Prelude.{Ok}
use Rattle.tags.proofs.AttributeWalk.{attribute_forward}
use Rattle.tags.proofs.Searches.{some_past, some_here, some_more}
use Rattle.tags.proofs.turns.some_attribute.Goals as goal

pub loop-test-init : goal.loop-test-init
loop-test-init g c = λ holds says. refl

pub returns-then-end-k : goal.returns-then-end-k
returns-then-end-k g c = λ holds says.
    let args = c.args in
    let loop = c.loop-test in
    some_past holds args.s.now args.end loop.i c.space_end-k.result c.space_end-k.ensures c.if-end-k.true ∙ loop.invariant holds says

pub returns-then-test : goal.returns-then-test
returns-then-test g c = λ holds says.
    let args = c.args in
    let loop = c.loop-test in
    let k = c.space_end-k.result in
    some_here holds args.s.now args.end loop.i k c.space_end-k.ensures c.if-end-k.false
    (sym (says k _ c.space_end-k.type_inv c.test.ensures) ∙ c.if-test.true)
    ∙ loop.invariant holds says

pub loop-test-smaller : goal.loop-test-smaller
loop-test-smaller g c =
    let on = attribute_forward c.args.s.now c.space_end-k.result c.in-Ok.n (sym c.attribute.ensures ∙ c.in-Ok.is) in
    omega (arith, c.space_end-k.ensures)

pub loop-test-preserved : goal.loop-test-preserved
loop-test-preserved g c = λ holds says.
    let args = c.args in
    let loop = c.loop-test in
    let k = c.space_end-k.result in
    some_more holds args.s.now args.end loop.i k c.space_end-k.ensures c.if-end-k.false
    (sym (says k _ c.space_end-k.type_inv c.test.ensures) ∙ c.if-test.false)
    (Ok c.in-Ok.n) (sym c.attribute.ensures ∙ c.in-Ok.is)
    ∙ loop.invariant holds says

pub returns-in-Err : goal.returns-in-Err
returns-in-Err g c = λ holds says.
    let args = c.args in
    let loop = c.loop-test in
    let k = c.space_end-k.result in
    some_more holds args.s.now args.end loop.i k c.space_end-k.ensures c.if-end-k.false
    (sym (says k _ c.space_end-k.type_inv c.test.ensures) ∙ c.if-test.false)
    _ (sym c.attribute.ensures ∙ c.in-Err.is)
    ∙ loop.invariant holds says
