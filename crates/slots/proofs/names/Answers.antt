-- `slots::names` meets its contract: the two tests at once. Assumes nothing.
use borrow.Author.Rules.{rules}
use Rattle.slots.specs.Slots.{names}
use Rattle.slots.proofs.names.Goals as goal

pub returns : goal.returns
unfolding names
returns c = search rules
