-- `tynderaxo::tynderaxo_read` meets its contract: it passes on what the reader says. Assumes nothing.
use mathlib.Core.Path.{ap}
use Rattle.tynderaxo.specs.Doors.{in_numbers}
use Rattle.tynderaxo.proofs.tynderaxo_read.Goals as goal

pub returns : goal.returns
returns c = let told = ap in_numbers c.read-reading.ensures in cc
