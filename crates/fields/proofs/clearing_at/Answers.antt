-- `fields::clearing_at` meets its contract. Assumes nothing.
use Rattle.fields.specs.Fields.{is_clearing}
use Rattle.fields.proofs.clearing_at.Goals as goal

pub returns : goal.returns
unfolding is_clearing
returns c = c.says.ensures
