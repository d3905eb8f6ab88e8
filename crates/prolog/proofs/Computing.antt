-- On an `unfolding` line: a case computes with what stands before the first document. Assumes nothing.
use Rattle.wire.proofs.Computing.{bytes_compute}
use Rattle.letters.specs.Places.{run, matches}
use Rattle.tags.specs.Names.{is_space}
use Rattle.prolog.specs.Prolog.{any_case, setting_at, declaration_at, prolog}

unfoldable pub prolog_computes : Unit {0}
unfolding bytes_compute run matches is_space any_case setting_at declaration_at prolog
prolog_computes = tt
