-- `fields::system_at` meets its contract. Assumes nothing.
use Rattle.fields.specs.Fields.{is_system}
use Rattle.fields.proofs.system_at.Goals as goal

pub returns : goal.returns
unfolding is_system
returns c = c.says.ensures
