-- `codes::letters` meets its contract: what is left of the scan comes to what the whole scan comes to. Assumes nothing.
use mathlib.Core.Path.{refl, sym, ◌∙◌}
use mathlib.Core.Bool.{cond}
use Rattle.wire.proofs.Scans.{every_fails, every_more, every_ends}
use Rattle.wording.specs.Wording.{upper, upper_or_digit, has}
use Rattle.codes.proofs.Laws.{letter}
use Rattle.codes.proofs.letters.Goals as goal

pub loop-i-init : goal.loop-i-init
loop-i-init c = refl

pub returns-then-not-c-digits : goal.returns-then-not-c-digits
returns-then-not-c-digits c =
    let args = c.args in
    let loop = c.loop-i in
    let f = has (cond args.digits upper_or_digit upper) args.s.now in
    sym (every_fails f args.to loop.i c.loop-i-test.true (sym (letter args.digits _) ∙ c.if-not-c-digits.true)) ∙ loop.invariant

pub loop-i-preserved : goal.loop-i-preserved
loop-i-preserved c =
    let args = c.args in
    let loop = c.loop-i in
    let f = has (cond args.digits upper_or_digit upper) args.s.now in
    every_more f args.to loop.i c.loop-i-test.true (sym (letter args.digits _) ∙ c.if-not-c-digits.false) ∙ loop.invariant

pub returns : goal.returns
returns c =
    let args = c.args in
    let loop = c.loop-i in
    let f = has (cond args.digits upper_or_digit upper) args.s.now in
    sym (every_ends f args.to loop.i c.loop-i-test.false) ∙ loop.invariant
