-- `tynderaxo::tynderaxo_build_index` meets its contract: it passes on what the building says. Assumes nothing.
use Rattle.tynderaxo.proofs.tynderaxo_build_index.Goals as goal

pub returns : goal.returns
returns c = rw c.number_built.ensures c.build_index.ensures
