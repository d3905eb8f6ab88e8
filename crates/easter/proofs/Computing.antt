-- On an `unfolding` line: a case computes with Easter. Assumes nothing.
use Rattle.calendar.proofs.Computing.{days_compute}
use Rattle.easter.specs.Easter.{easter_day}

unfoldable pub easter_computes : Unit {0}
unfolding days_compute easter_day
easter_computes = tt
