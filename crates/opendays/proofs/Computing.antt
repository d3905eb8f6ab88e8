-- On an `unfolding` line: a case computes with open days. Assumes nothing.
use Rattle.wire.proofs.Computing.{bytes_compute}
use Rattle.easter.proofs.Computing.{easter_computes}
use Rattle.opendays.specs.OpenDay.{open_day}
use Rattle.opendays.specs.Questions.{open_from, open_day_answer, next_open_day_answer, open_days_answer}

unfoldable pub open_days_compute : Unit {0}
unfolding bytes_compute easter_computes open_day open_from open_day_answer next_open_day_answer open_days_answer
open_days_compute = tt
