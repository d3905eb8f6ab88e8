-- `sheet::layout::after_messages` meets its contract: no section is so long that the place after it passes a word. Assumes nothing.
use native.Mathlib.Omega.{arith}
use Rattle.sheet.proofs.Laws.{messages_small}
use Rattle.sheet.proofs.layout.after_messages.Goals as goal

pub overflow_mul-result : goal.overflow_mul-result
overflow_mul-result c =
    let a = c.args in
    rw c.message_width.ensures (omega (arith, messages_small a.kind a.n c.ranges.n.fits))

pub overflow_add-result-2 : goal.overflow_add-result-2
overflow_add-result-2 c =
    let a = c.args in
    rw c.message_width.ensures (omega (arith, messages_small a.kind a.n c.ranges.n.fits))
