-- `positions::room_for_all` meets its contract: what is left of the scan comes to what the whole scan comes to. Assumes nothing.
use Rattle.std.proofs.Common.{sym, ◌∙◌}
use Rattle.wire.proofs.Scans.{every_fails, every_more, every_ends}
use Rattle.positions.specs.Positions.{has_room}
use Rattle.positions.proofs.Laws.{room_start}
use Rattle.positions.proofs.room_for_all.Goals as goal

pub loop-i-init : goal.loop-i-init
loop-i-init c = room_start c.args.positions.now c.args.cents _ c.rows-i-end.ensures

pub returns-then-not-has_room : goal.returns-then-not-has_room
returns-then-not-has_room c =
    let args = c.args in
    let loop = c.loop-i in
    sym (every_fails (has_room args.positions.now args.cents) _ loop.i c.loop-i-test.true (sym c.has_room.ensures ∙ c.if-not-has_room.true)) ∙ loop.invariant

pub loop-i-preserved : goal.loop-i-preserved
loop-i-preserved c =
    let args = c.args in
    let loop = c.loop-i in
    every_more (has_room args.positions.now args.cents) _ loop.i c.loop-i-test.true (sym c.has_room.ensures ∙ c.if-not-has_room.false) ∙ loop.invariant

pub returns : goal.returns
returns c =
    let args = c.args in
    sym (every_ends (has_room args.positions.now args.cents) _ c.loop-i.i c.loop-i-test.false) ∙ c.loop-i.invariant
