-- `paths::counts_as` meets its contract. Assumes nothing.
use borrow.Author.Tests.{eq-eqb, ne_eqb}
use Rattle.paths.proofs.counts_as.Goals as goal

pub returns-then-role-eq-RETURNS : goal.returns-then-role-eq-RETURNS
returns-then-role-eq-RETURNS c = rw (eq-eqb _ _ c.if-role-eq-RETURNS.true)

pub returns-else-role-eq-RETURNS : goal.returns-else-role-eq-RETURNS
returns-else-role-eq-RETURNS c = rw (ne_eqb _ _ c.if-role-eq-RETURNS.false)
