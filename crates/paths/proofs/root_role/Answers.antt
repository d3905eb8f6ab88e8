-- `paths::root_role` meets its contract. Assumes nothing.
use Rattle.paths.specs.Table.{root_role}
use Rattle.paths.proofs.root_role.Goals as goal

pub returns-then-same : goal.returns-then-same
unfolding root_role
returns-then-same c = rw (← c.same.ensures, c.if-same.true)

pub returns-else-same : goal.returns-else-same
unfolding root_role
returns-else-same c = rw (← c.same.ensures, c.if-same.false)
