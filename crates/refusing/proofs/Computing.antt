-- On an `unfolding` line: a case computes with refusals. Assumes nothing.
use Rattle.routing.proofs.Computing.{lookup_computes}
use Rattle.sheet.proofs.Computing.{sheets_compute}
use Rattle.index.proofs.Computing.{index_computes}
use Rattle.positions.proofs.Computing.{positions_compute}
use Rattle.report.proofs.Computing.{lines_compute}
use Rattle.refusing.specs.Refusals.{holds_given, first_holding, refusal, indexed_refusal}

unfoldable pub refusals_compute : Unit {0}
unfolding lookup_computes sheets_compute index_computes positions_compute lines_compute holds_given first_holding refusal indexed_refusal
refusals_compute = tt
