-- `tags::twice::Kept::holds` meets its contract: the name stands at none of the first j places. Assumes nothing.
use mathlib.Core.Path.{◌≡◌, sym, ap, ◌∙◌}
use mathlib.Core.Bool.{Bool}
use mathlib.Core.List.{List}
use Prim.Native.Nat.{ℕ, ◌%◌}
use native.Mathlib.Omega.{arith}
use lib.ListN.{get_or}
use borrow.Author.Tests.{eqb-true}
use Rattle.wire.specs.Field.{same}
use Rattle.tags.specs.Names.{name_at}
use Rattle.tags.specs.Twice.{slots}
use Rattle.tags.proofs.Blocks.{unseen, of_none, of_more, of_holds}
use Rattle.tags.proofs.twice.Kept.holds.Goals as goal

-- whether the name at place k is the one that is looked for
abbrev alike : List ℕ → ℕ → ℕ → Bool
alike s at k = same (name_at s k) (name_at s at)

pub returns-then-free : goal.returns-then-free
returns-then-free c =
    let args = c.args in
    let its = c.mark-given.ensures in
    let name = c.name_at-name.ensures in
    let none : get_or args.self.now.seen (c.mark-given.result % slots) 0 ≡ 0 = eqb-true (get_or args.self.now.seen (c.mark-given.result % slots) 0) 0 (sym c.free.ensures ∙ c.if-free.true) in
    unseen args.s.now args.self.now args.n args.at c.requires
    (rw (its, name) at none)

pub loop-j-init : goal.loop-j-init
loop-j-init c = let args = c.args in of_none (alike args.s.now args.at) args.self.now.places

pub alike-requires : goal.alike-requires
alike-requires c = (c.requires.marked c.loop-j.j c.loop-j-test.true, c.mark-given.ensures)

pub returns-then-alike : goal.returns-then-alike
returns-then-alike c =
    let args = c.args in
    let j = c.loop-j.j in
    let s = args.s.now in
    of_holds (alike s args.at) args.self.now.places args.n j c.loop-j-test.true
    (sym (c.alike.ensures ∙ ap (same (name_at s (get_or args.self.now.places j 0))) c.name_at-name.ensures) ∙ c.if-alike.true)

pub loop-j-preserved : goal.loop-j-preserved
loop-j-preserved c =
    let args = c.args in
    let loop = c.loop-j in
    let j = loop.j in
    let s = args.s.now in
    of_more (alike s args.at) args.self.now.places j loop.invariant
    (sym (c.alike.ensures ∙ ap (same (name_at s (get_or args.self.now.places j 0))) c.name_at-name.ensures) ∙ c.if-alike.false)

pub returns : goal.returns
returns c =
    let args = c.args in
    let loop = c.loop-j in
    let all : loop.j ≡ args.n = omega arith in
    sym (rw all at loop.invariant)
