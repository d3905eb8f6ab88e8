-- `codes::known_reason` meets its contract: the text is among the codes left exactly if it is among all. Assumes nothing.
use mathlib.Core.Path.{◌∙◌}
use native.Mathlib.Omega.{arith}
use Rattle.wording.specs.Wording.{reasons}
use Rattle.codes.proofs.Laws.{reason_at, one_of_here, one_of_more, one_of_ends}
use Rattle.codes.proofs.known_reason.Goals as goal

pub returns-then-same : goal.returns-then-same
returns-then-same c =
    let s = c.args.s.now in
    let loop = c.loop-i in
    let here = reason_at s _ _ loop.i (omega arith) c.text_at.ensures c.same.ensures in
    one_of_here s reasons loop.i (omega arith) _ here c.if-same.true ∙ loop.invariant

pub loop-i-preserved : goal.loop-i-preserved
loop-i-preserved c =
    let s = c.args.s.now in
    let loop = c.loop-i in
    let here = reason_at s _ _ loop.i (omega arith) c.text_at.ensures c.same.ensures in
    one_of_more s reasons loop.i (omega arith) _ here c.if-same.false ∙ loop.invariant

pub returns : goal.returns
returns c = one_of_ends c.args.s.now reasons c.loop-i.i (omega arith) ∙ c.loop-i.invariant
