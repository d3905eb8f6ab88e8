-- On an `unfolding` line: a case computes with the register. Assumes nothing.
use Rattle.wire.proofs.Computing.{bytes_compute}
use Rattle.register.specs.Register.{entry, well_formed, entries_to, listed, search, stands, add}

unfoldable pub register_computes : Unit {0}
unfolding bytes_compute entry well_formed entries_to listed search stands add
register_computes = tt
