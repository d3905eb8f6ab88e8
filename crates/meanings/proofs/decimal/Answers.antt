-- `meanings::decimal` meets its contract: after so many digits, v is the number that they write, and is below that power of 10. Assumes nothing.
use mathlib.Core.Path.{◌∙◌, ap}
use native.Mathlib.Omega.{arith}
use lib.Seq.{take_all}
use Rattle.letters.specs.References.{numeral_from}
use Rattle.meanings.specs.Meanings.{decimal}
use Rattle.meanings.proofs.Decimals.{digit_there, digit_room, decimal_step}
use borrow.Author.Rules.{rules}
use Rattle.meanings.proofs.decimal.Goals as goal

pub loop-b-init : goal.loop-b-init
unfolding numeral_from
loop-b-init c = search rules

pub overflow_mul-v : goal.overflow_mul-v
overflow_mul-v c = let loop = c.loop-b in omega (arith, digit_room loop.v loop.b-index loop.invariant.1 (omega arith))

pub overflow_sub-v : goal.overflow_sub-v
overflow_sub-v c = omega (arith, digit_there c.args.t.now c.loop-b.b-index c.requires.t_value (omega arith))

pub overflow_add-v : goal.overflow_add-v
overflow_add-v c =
    let loop = c.loop-b in
    let there = digit_there c.args.t.now loop.b-index c.requires.t_value (omega arith) in
    let room = digit_room loop.v loop.b-index loop.invariant.1 (omega arith) in
    omega arith

pub loop-b-preserved : goal.loop-b-preserved
loop-b-preserved c =
    let loop = c.loop-b in
    decimal_step c.args.t.now loop.b-index loop.v c.requires.t_value c.loop-b-test.true loop.invariant.0 loop.invariant.1

pub returns : goal.returns
returns c = c.loop-b.invariant.0 ∙ ap decimal (take_all _ _ c.loop-b-test.false)
