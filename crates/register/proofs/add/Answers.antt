-- `register::add` meets its contract: the entry, then the number. Assumes nothing.
use Rattle.register.specs.Register.{entry, add}
use Rattle.register.proofs.add.Goals as goal

pub returns : goal.returns
unfolding add entry
returns c = cc
