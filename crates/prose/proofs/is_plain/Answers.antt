-- `prose::is_plain` meets its contract. Assumes nothing.
use Rattle.prose.proofs.is_plain.Goals as goal

pub returns : goal.returns
returns c = rw c.is_single.ensures
