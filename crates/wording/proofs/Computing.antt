-- On an `unfolding` line: a case computes with identifiers, codes and names. Assumes nothing.
use Rattle.wire.proofs.Computing.{bytes_compute}
use Rattle.wording.specs.Wording.{among, allowed, kept, formed, badly_formed, bic_formed, blank, one_of}

unfoldable pub wording_computes : Unit {0}
unfolding bytes_compute among allowed kept formed badly_formed bic_formed blank one_of
wording_computes = tt
