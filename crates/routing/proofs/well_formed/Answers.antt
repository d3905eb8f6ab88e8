-- `routing::well_formed` meets its contract. Assumes nothing.
use Rattle.routing.specs.Table.{well_formed}
use Rattle.routing.proofs.Laws.{formed_told}
use Rattle.routing.proofs.well_formed.Goals as goal

pub returns : goal.returns
unfolding well_formed
returns c = formed_told c.args.table.now _ (cc)
