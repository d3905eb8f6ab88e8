-- `positions::room_for_all` meets its contract: what is left of the scan comes to what the whole scan comes to. Assumes nothing.
use Rattle.std.proofs.Common.{◌≡◌}
use Rattle.positions.specs.Positions.{room_for_all}
use Rattle.positions.proofs.Laws.{room_left}
use Rattle.positions.proofs.room_for_all.Given as goal

abbrev pub invariant-loop-i : goal.invariant-loop-i
invariant-loop-i l = room_left l.positions l.cents l.i-end l.i ≡ room_for_all l.positions l.cents
