-- `slots::start_from` meets its contract: a remainder after each four digits, and after each that is left over. Assumes nothing.
use mathlib.Core.Path.{sym, ◌∙◌}
use Prim.Native.Nat.{◌<◌}
use native.Mathlib.Omega.{arith}
use Rattle.slots.proofs.Starts.{start_none, taking_starts, taking_four, taking_one, taking_ends}
use Rattle.slots.proofs.start_from.Goals as goal

pub returns-then-n-eq0 : goal.returns-then-n-eq0
returns-then-n-eq0 c = start_none _ _ c.if-n-eq0.true

pub loop-a-init : goal.loop-a-init
loop-a-init c =
    let some : 0 < c.from-m.result = omega (arith, c.from-m.ensures, c.if-n-eq0.false) in
    taking_starts c.args.key.now _ some _ c.args.from _ (sym c.from-m.ensures) c.requires.inside (c.from-v.ensures ∙ c.requires.rest)

pub loop-a-preserved : goal.loop-a-preserved
loop-a-preserved c =
    let loop = c.loop-a in
    let some : 0 < c.from-m.result = omega (arith, loop.invariant.below) in
    let told = c.in-Some.ensures.cases in
    taking_four c.args.key.now _ some loop.v loop.rest.now c.in-Some.field-0-0.now _ loop.invariant (omega (arith, told.2)) told.0 told.1 _ _ _ _
    c.from.ensures c.from-in-Some.ensures c.from-in-Some-2.ensures c.from-in-Some-3.ensures

pub loop-x-preserved : goal.loop-x-preserved
loop-x-preserved c =
    let loop = c.loop-x in
    let some : 0 < c.from-m.result = omega (arith, loop.invariant.below) in
    taking_one c.args.key.now _ some loop.v c.loop-a.rest.now loop.x-index loop.invariant c.loop-x-test.true _ c.from-in-loop-x.ensures

pub returns : goal.returns
returns c =
    let loop = c.loop-x in
    let some : 0 < c.from-m.result = omega (arith, loop.invariant.below) in
    taking_ends c.args.key.now _ some _ loop.v c.loop-a.rest.now loop.x-index c.from-m.ensures c.loop-x-test.false loop.invariant
