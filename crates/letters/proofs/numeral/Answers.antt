-- `letters::numeral` meets its contract: what was read, with what is left, comes to the whole number, or both are too high. Assumes nothing.
use mathlib.Core.Path.{◌∙◌}
use native.Mathlib.Omega.{arith}
use Rattle.letters.proofs.References.{numeral_more, numeral_ends}
use Rattle.letters.proofs.numeral.Goals as goal

pub loop-b-preserved : goal.loop-b-preserved
loop-b-preserved c =
    let loop = c.loop-b in
    let more = numeral_more c.args.base loop.v c.args.s.now loop.b-index c.requires.0 c.loop-b-test.true in
    (omega (arith, c.least-v.ensures), rw (c.least-v.ensures, c.digit_of.ensures.0) (more ∙ loop.invariant.1))

pub returns : goal.returns
returns c =
    let ends = numeral_ends c.args.base c.loop-b.v c.args.s.now c.loop-b.b-index c.loop-b-test.false in
    omega (arith, c.loop-b.invariant.1)
