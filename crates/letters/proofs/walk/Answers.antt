-- `letters::walk` meets its contract: what is left of the walk ends where the whole does. Assumes nothing.
use mathlib.Core.Path.{refl, ◌∙◌}
use native.Mathlib.Omega.{arith}
use borrow.Author.Rules.{rules}
use Rattle.letters.specs.declared.Turn.TheVariants.{On, Ends, Breaks}
use Rattle.letters.proofs.walk.Goals as goal

pub loop-next-init : goal.loop-next-init
loop-next-init g c = (search rules, λ reach leads. refl)

pub loop-next-smaller : goal.loop-next-smaller
loop-next-smaller g c =
    let loop = c.loop-next in
    let on = c.requires.onward loop.i c.in-On.next loop.invariant.0 (rw c.in-On.is at c.turn.ensures) in
    omega arith

pub loop-next-preserved : goal.loop-next-preserved
loop-next-preserved g c =
    let loop = c.loop-next in
    (search rules, λ reach leads. leads loop.i (On c.in-On.next) loop.invariant.0 (rw c.in-On.is at c.turn.ensures) ∙ loop.invariant.1 reach leads)

pub returns-in-Ends : goal.returns-in-Ends
returns-in-Ends g c = λ reach leads.
    let loop = c.loop-next in
    leads loop.i (Ends c.in-Ends.e) loop.invariant.0 (rw c.in-Ends.is at c.turn.ensures) ∙ loop.invariant.1 reach leads

pub returns-in-Breaks : goal.returns-in-Breaks
returns-in-Breaks g c = λ reach leads.
    let loop = c.loop-next in
    leads loop.i (Breaks c.in-Breaks.p) loop.invariant.0 (rw c.in-Breaks.is at c.turn.ensures) ∙ loop.invariant.1 reach leads
