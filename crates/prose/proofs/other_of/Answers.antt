-- `prose::other_of` meets its contract. Assumes nothing.
use Rattle.prose.proofs.other_of.Goals as goal

pub returns-in-Some : goal.returns-in-Some
returns-in-Some c = rw c.in-Some.is
