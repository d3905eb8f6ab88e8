-- `meanings::digits` meets its contract. Assumes nothing.
use Rattle.meanings.proofs.digits.Goals as goal

pub returns : goal.returns
returns c = rw c.run.ensures
