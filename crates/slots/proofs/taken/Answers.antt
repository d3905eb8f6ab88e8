-- `slots::taken` meets its contract: what was counted and what is left come to the whole. Assumes nothing.
use mathlib.Core.Path.{sym, ◌∙◌}
use native.Mathlib.Omega.{arith}
use Rattle.slots.proofs.Turns.{taken_not, taken_one, taken_ends}
use Rattle.slots.proofs.taken.Goals as goal
use Rattle.slots.proofs.taken.Goals.{then-slot_at-ne0, else-slot_at-ne0}

pub loop-i-preserved : goal.loop-i-preserved
loop-i-preserved c =
    let args = c.args in
    let loop = c.loop-i in
    let one = taken_one args.index.now _ loop.i c.loop-i-test.true in
    let none = taken_not args.index.now _ loop.i c.loop-i-test.true in
    let holds = c.slot_at.ensures in
    elim c.if-slot_at-ne0.branch [
      | then-slot_at-ne0 w ↦ (omega arith, omega (arith, loop.invariant.1, w.t-is, one (λ z. w.if-slot_at-ne0.true (holds ∙ z))))
      | else-slot_at-ne0 w ↦ (omega arith, omega (arith, loop.invariant.1, w.t-is, none (sym holds ∙ w.if-slot_at-ne0.false)))
    ]

pub returns : goal.returns
returns c = omega (arith, c.loop-i.invariant.1, taken_ends c.args.index.now _ c.loop-i.i c.loop-i-test.false)
