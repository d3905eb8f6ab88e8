-- `decimals::put_digits` meets its contract: what is left to store, over what is stored already, comes to all the digits.
-- Assumes nothing.
use mathlib.Core.Path.{◌∙◌}
use native.Mathlib.Omega.{arith}
use lib.ListN.{length-set}
use Rattle.decimals.proofs.Stored.{digits_last, digits_last_out, digits_end}
use Rattle.decimals.proofs.put_digits.Goals as goal
use Rattle.decimals.proofs.put_digits.Goals.{then-i-room, else-i-room}

pub loop-i-preserved : goal.loop-i-preserved
loop-i-preserved c =
    let args = c.args in
    let loop = c.loop-i in
    let left = c.loop-i-test.true in
    elim c.if-i-room.branch [
      | then-i-room w ↦ (
        simp (w.out-is, length-set) loop.invariant.0,
        rw w.out-is (digits_last loop.out args.at loop.i loop.rest left ∙ loop.invariant.1),
      )
      | else-i-room w ↦ (
        rw w.out-is loop.invariant.0,
        rw w.out-is (digits_last_out loop.out args.at loop.i loop.rest left (omega arith) ∙ loop.invariant.1),
      )
    ]

pub returns : goal.returns
returns c =
    let args = c.args in
    let loop = c.loop-i in
    digits_end args.out.now loop.out args.at args.n args.v loop.i loop.rest c.place_after.result
    c.loop-i-test.false loop.invariant.0 loop.invariant.1 c.place_after.ensures
