-- Named on an `unfolding` line, this lets a case compute with bytes: it opens what its own line names. So does the definition of
-- this kind in each crate above, so that a case names one of them and nothing behind it. Assumes nothing.
use Rattle.wire.specs.Field.{number_from, bytes_of, same}
use Rattle.wire.specs.Places.{first_from, every_from}

unfoldable pub bytes_compute : Unit {0}
unfolding number_from bytes_of same first_from every_from
bytes_compute = tt
