-- `writing::put_number` meets its contract: what is left to store, over what is stored already, comes to the whole number.
-- Assumes nothing.
use mathlib.Core.Path.{sym, ◌∙◌}
use native.Mathlib.Omega.{arith}
use Rattle.wire.proofs.Stores.{number_last, number_last_out, number_ends}
use Rattle.writing.proofs.put_number.Goals as goal
use Rattle.writing.proofs.put_number.Goals.{then-i-room, else-i-room}

pub loop-i-preserved : goal.loop-i-preserved
loop-i-preserved c =
    let args = c.args in
    let loop = c.loop-i in
    let left = c.loop-i-test.true in
    elim c.if-i-room.branch [
      | then-i-room w ↦ rw w.d-is (number_last loop.d args.at loop.i loop.rest left ∙ loop.invariant)
      | else-i-room w ↦ rw w.d-is (number_last_out loop.d args.at loop.i loop.rest left (omega arith) ∙ loop.invariant)
    ]

pub returns : goal.returns
returns c =
    let loop = c.loop-i in
    sym (number_ends loop.d c.args.at loop.i loop.rest c.loop-i-test.false) ∙ loop.invariant
