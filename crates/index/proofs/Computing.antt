-- On an `unfolding` line: a case computes with a register and its index. Assumes nothing.
use Rattle.slots.specs.Slots.{start_at, place_after, passed, names, end_after, stops_at}
use Rattle.slots.specs.Stored.{digits_from, slots_from, built_in}
use Rattle.register.proofs.Computing.{register_computes}
use Rattle.index.specs.Index.{index_of}
use Rattle.index.specs.Searches.{slots_read_by, most_read}

unfoldable pub index_computes : Unit {0}
unfolding register_computes start_at place_after passed names end_after stops_at digits_from slots_from built_in index_of slots_read_by most_read
index_computes = tt
