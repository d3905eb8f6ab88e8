-- On an `unfolding` line: a case computes with the table and the lookup. Assumes nothing.
use Rattle.wire.proofs.Computing.{bytes_compute}
use Rattle.calendar.proofs.Computing.{dates_compute}
use Rattle.routing.specs.Table.{well_formed, kinds_known}
use Rattle.routing.specs.Lookup.{row_of, route, lookup}

unfoldable pub lookup_computes : Unit {0}
unfolding bytes_compute dates_compute well_formed kinds_known row_of route lookup
lookup_computes = tt
