-- `lines::put_message` meets its contract: three pieces, one after the other. Assumes nothing.
use Rattle.lines.specs.Lines.{message_text}
use Rattle.decimals.proofs.Runs.{then}
use Rattle.lines.proofs.put_message.Goals as goal

pub returns : goal.returns
unfolding message_text
returns c = then (then c.put_byte-begun.ensures c.put_head-headed.ensures) c.put_byte.ensures
