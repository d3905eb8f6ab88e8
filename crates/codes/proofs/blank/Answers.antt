-- `codes::blank` meets its contract: what is left of the scan comes to what the whole scan comes to. Assumes nothing.
use mathlib.Core.Path.{refl, sym, ◌∙◌}
use borrow.Author.Tests.{eq-eqb, ne_eqb}
use Rattle.wire.proofs.Scans.{every_fails, every_more, every_ends}
use Rattle.wording.specs.Wording.{is_space, has, blank}
use Rattle.codes.proofs.blank.Goals as goal

pub loop-i-init : goal.loop-i-init
unfolding blank
loop-i-init c = refl

pub returns-then-s-i-ne32 : goal.returns-then-s-i-ne32
returns-then-s-i-ne32 c =
    let s = c.args.s.now in
    let loop = c.loop-i in
    sym (every_fails (has is_space s) _ loop.i c.loop-i-test.true (ne_eqb _ _ c.if-s-i-ne32.true)) ∙ loop.invariant

pub loop-i-preserved : goal.loop-i-preserved
loop-i-preserved c =
    let s = c.args.s.now in
    let loop = c.loop-i in
    every_more (has is_space s) _ loop.i c.loop-i-test.true (eq-eqb _ _ c.if-s-i-ne32.false) ∙ loop.invariant

pub returns : goal.returns
returns c =
    let s = c.args.s.now in
    sym (every_ends (has is_space s) _ c.loop-i.i c.loop-i-test.false) ∙ c.loop-i.invariant
