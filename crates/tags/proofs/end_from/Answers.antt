-- `tags::end_from` meets its contract: each answer is that of the way that led to it. Assumes nothing.
use mathlib.Core.Path.{◌≡◌, sym, ◌∙◌}
use Prim.Native.Nat.{◌+◌}
use native.Mathlib.Omega.{arith}
use borrow.Author.Rules.{rules}
use Rattle.letters.specs.Places.{byte_at}
use Rattle.letters.proofs.Scans.{byte_there}
use Rattle.tags.proofs.Tags.{end_unopened, end_unslashed, end_named}
use Rattle.tags.proofs.end_from.Goals as goal

pub returns-then-byte_at-ne60 : goal.returns-then-byte_at-ne60
returns-then-byte_at-ne60 c =
    let args = c.args in
    end_unopened args.s.now args.start args.at (λ e. c.if-byte_at-ne60.true (c.byte_at.ensures ∙ e))

pub overflow_add-at : goal.overflow_add-at
overflow_add-at c =
    let args = c.args in
    let opens : byte_at args.s.now args.at ≡ 60 = sym c.byte_at.ensures ∙ c.if-byte_at-ne60.false in
    omega (arith, byte_there args.s.now args.at (omega arith))

pub overflow_add-result : goal.overflow_add-result
overflow_add-result c =
    let args = c.args in
    let opens : byte_at args.s.now args.at ≡ 60 = sym c.byte_at.ensures ∙ c.if-byte_at-ne60.false in
    omega (arith, byte_there args.s.now args.at (omega arith))

pub returns-then-byte_at-ne47 : goal.returns-then-byte_at-ne47
returns-then-byte_at-ne47 c =
    let args = c.args in
    end_unslashed args.s.now args.start args.at (sym c.byte_at.ensures ∙ c.if-byte_at-ne60.false) (λ e. c.if-byte_at-ne47.true (c.byte_at-2.ensures ∙ e))

pub overflow_add-at-2 : goal.overflow_add-at-2
overflow_add-at-2 c =
    let args = c.args in
    let slash : byte_at args.s.now (args.at + 1) ≡ 47 = sym c.byte_at-2.ensures ∙ c.if-byte_at-ne47.false in
    omega (arith, byte_there args.s.now (args.at + 1) (omega arith))

pub name_again-requires : goal.name_again-requires
name_again-requires c =
    let slash : byte_at c.args.s.now (c.args.at + 1) ≡ 47 = sym c.byte_at-2.ensures ∙ c.if-byte_at-ne47.false in
    record { to_value = c.requires; at_in_bounds = omega (arith, byte_there c.args.s.now (c.args.at + 1) (omega arith)) }

pub returns-in_err-name_again : goal.returns-in_err-name_again
returns-in_err-name_again c =
    let told = end_named c.args.s.now c.args.start c.args.at
    (sym c.byte_at.ensures ∙ c.if-byte_at-ne60.false) (sym c.byte_at-2.ensures ∙ c.if-byte_at-ne47.false)
    c.args.to c.requires _ (sym c.name_again.ensures ∙ c.in_err-name_again.was) in
    search rules

pub returns : goal.returns
returns c =
    c.end_closed.ensures
    ∙ end_named c.args.s.now c.args.start c.args.at
    (sym c.byte_at.ensures ∙ c.if-byte_at-ne60.false) (sym c.byte_at-2.ensures ∙ c.if-byte_at-ne47.false)
    c.args.to c.requires _ (sym c.name_again.ensures ∙ c.in_ok-name_again.was)
