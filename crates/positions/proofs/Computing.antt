-- On an `unfolding` line: a case computes with positions. Assumes nothing.
use Rattle.wire.proofs.Computing.{bytes_compute}
use Rattle.positions.specs.Positions.{room_for_all, gains, loses}

unfoldable pub positions_compute : Unit {0}
unfolding bytes_compute room_for_all gains loses
positions_compute = tt
