-- On an `unfolding` line: a case computes with faults. Assumes nothing.
use Rattle.opendays.proofs.Computing.{open_days_compute}
use Rattle.masks.proofs.Computing.{masks_compute}
use Rattle.routing.proofs.Computing.{lookup_computes}
use Rattle.sheet.proofs.Computing.{sheets_compute}
use Rattle.register.proofs.Computing.{register_computes}
use Rattle.wording.proofs.Computing.{wording_computes}
use Rattle.faults.specs.Faults.{bulk_faults, message_faults}

unfoldable pub faults_compute : Unit {0}
unfolding open_days_compute masks_compute lookup_computes sheets_compute register_computes wording_computes bulk_faults message_faults
faults_compute = tt
