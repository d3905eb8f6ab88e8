-- `tags::twice::Kept::fill` meets its contract: the first n places are those of the attributes up to place i. Assumes nothing.
use mathlib.Core.Path.{◌≡◌, sym, ◌∙◌}
use Prim.Native.Nat.{◌<◌}
use native.Mathlib.Omega.{arith}
use lib.ListN.{length, length-set}
use borrow.Author.Rules.{rules}
use Rattle.tags.specs.Twice.{block}
use Rattle.tags.proofs.Blocks.{held_starts, held_more, held_ends, held_breaks}
use Rattle.tags.proofs.twice.Kept.fill.Goals as goal

pub loop-n-init : goal.loop-n-init
loop-n-init c = let args = c.args in (search rules, search rules, held_starts args.s.now args.from args.self.now (search rules))

pub loop-n-preserved : goal.loop-n-preserved
loop-n-preserved c =
    let args = c.args in
    let loop = c.loop-n in
    let keep = c.keep in
    let room : loop.n < length loop.self.places = omega (arith, loop.invariant.0, c.loop-n-test.true) in
    let beside : loop.n < length loop.self.marks = omega (arith, loop.invariant.1, c.loop-n-test.true) in
    rw (keep.ensures) (
      length-set loop.self.places _ _ ∙ loop.invariant.0,
      length-set loop.self.marks _ _ ∙ loop.invariant.1,
      held_more args.s.now args.from loop.i loop.self loop.n loop.invariant.2 c.in-On.next room beside (sym c.turn.ensures ∙ c.in-On.is),
    )

pub returns-in-Ends : goal.returns-in-Ends
returns-in-Ends c =
    let args = c.args in
    let loop = c.loop-n in
    held_ends args.s.now args.from loop.i loop.self loop.n loop.invariant.2 c.in-Ends.e (sym c.turn.ensures ∙ c.in-Ends.is)

pub returns-in-Breaks : goal.returns-in-Breaks
returns-in-Breaks c =
    let args = c.args in
    let loop = c.loop-n in
    held_breaks args.s.now args.from loop.i loop.self loop.n loop.invariant.2 c.in-Breaks.p (sym c.turn.ensures ∙ c.in-Breaks.is)

pub returns : goal.returns
returns c =
    let loop = c.loop-n in
    let all : loop.n ≡ block = omega (arith, c.loop-n-test.false) in
    rw all at loop.invariant.2
