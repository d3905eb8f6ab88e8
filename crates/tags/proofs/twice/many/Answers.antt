-- `tags::twice::many` meets its contract: where the walks so far break first, with what is left from place i on, is where the whole does.
-- Assumes nothing.
use mathlib.Core.Path.{refl, sym, ap, ◌∙◌}
use Prim.Native.Nat.{◌+◌, ◌≤◌, ◌<◌}
use native.Mathlib.Omega.{arith}
use lib.ListN.{length}
use Rattle.tags.specs.Twice.{block, sooner}
use Rattle.tags.proofs.Blocks.{filled_full, filled_ends, filled_breaks, blocks_on}
use Rattle.tags.proofs.twice.many.Goals as goal

pub loop-n-init : goal.loop-n-init
unfolding sooner
loop-n-init c = refl

pub follow-requires : goal.follow-requires
follow-requires c = (filled_full c.args.s.now c.loop-n.i _ c.fill.result c.fill.ensures c.in-On.n c.in-On.is).marks_held

pub loop-n-smaller : goal.loop-n-smaller
loop-n-smaller c =
    let held = filled_full c.args.s.now c.loop-n.i _ c.fill.result c.fill.ensures c.in-On.n c.in-On.is in
    let on : c.loop-n.i + block ≤ c.in-On.n = held.onward in
    let inside : c.loop-n.i < length c.args.s.now = held.inside (omega arith) in
    omega arith

pub loop-n-preserved : goal.loop-n-preserved
loop-n-preserved c =
    let fill = c.fill in
    let loop = c.loop-n in
    let held = filled_full c.args.s.now c.loop-n.i _ c.fill.result c.fill.ensures c.in-On.n c.in-On.is in
    blocks_on c.args.s.now loop.i c.in-On.n _ held loop.first c.follow.result c.first_of-first.result _ c.follow.ensures c.first_of-first.ensures loop.invariant

pub returns-in-Ends : goal.returns-in-Ends
returns-in-Ends c =
    let fill = c.fill in
    let loop = c.loop-n in
    c.first_of.ensures
    ∙ ap (sooner loop.first) (sym (filled_ends c.args.s.now loop.i _ fill.result fill.ensures c.in-Ends.e c.in-Ends.is))
    ∙ loop.invariant

pub returns-in-Breaks : goal.returns-in-Breaks
returns-in-Breaks c =
    let fill = c.fill in
    let loop = c.loop-n in
    c.first_of-in-Breaks.ensures
    ∙ ap (sooner loop.first) (sym (filled_breaks c.args.s.now loop.i _ fill.result fill.ensures c.in-Breaks.p c.in-Breaks.is))
    ∙ loop.invariant
