-- `prose::is_straight` meets its contract. Assumes nothing.
use Rattle.prose.proofs.is_straight.Goals as goal

pub returns : goal.returns
returns c = rw c.is_plain.ensures
