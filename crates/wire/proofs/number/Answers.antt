-- `wire::number` meets its contract: after some bytes, v is the number that they write, modulo 2 ^ 64.
-- Assumes nothing.
use borrow.Author.Rules.{rules}
use Rattle.wire.specs.Field.{number_from}
use Rattle.wire.proofs.Numbers.{word_step, eight_whole}
use Rattle.wire.proofs.number.Goals as goal

pub returns-then-s-eq8 : goal.returns-then-s-eq8
returns-then-s-eq8 c =
    eight_whole c.args.s.now (λ i. (c.type_inv.s i).fits) _ _ c.if-s-eq8.true c.four_at.ensures.0 c.four_at-then-s-eq8.ensures.0

pub loop-byte-init : goal.loop-byte-init
unfolding number_from
loop-byte-init c = search rules

pub loop-byte-preserved : goal.loop-byte-preserved
loop-byte-preserved c =
    word_step _ _ _ _ (λ i. (c.type_inv.s i).fits) c.loop-byte-test.true c.loop-byte.invariant c.from.ensures
