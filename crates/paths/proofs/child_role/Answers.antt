-- `paths::child_role` meets its contract: the arms of the match are the parents of the table. Assumes nothing.
use Rattle.paths.specs.Table.{child_role, among}
use Rattle.paths.proofs.Rows.{there}
use Rattle.paths.proofs.child_role.Goals as goal

pub returns-in-8 : goal.returns-in-8
unfolding child_role among
returns-in-8 c = there c.args.name.now c.in-8.is c.only.ensures
