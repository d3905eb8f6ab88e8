-- `register::well_formed` meets its contract: its tests are those of the definition, which tell the facts. Assumes nothing.
use Rattle.register.specs.Register.{well_formed}
use Rattle.register.proofs.Laws.{formed_told}
use Rattle.register.proofs.well_formed.Goals as goal

pub returns : goal.returns
unfolding well_formed
returns c = formed_told c.args.register.now _ (cc)
