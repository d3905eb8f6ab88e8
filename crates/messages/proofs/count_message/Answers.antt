-- `messages::count_message` meets its contract. Assumes nothing.
use Rattle.messages.proofs.count_message.Goals as goal

pub returns-then-accepted : goal.returns-then-accepted
returns-then-accepted c = cc

pub returns-else-accepted : goal.returns-else-accepted
returns-else-accepted c = cc
