-- `frame::read_of` meets its contract: the buffer takes one byte more than the longest input. Assumes nothing.
use native.Mathlib.Omega.{arith}
use Rattle.frame.proofs.Laws.{read_of}
use Rattle.frame.proofs.read_of.Goals as goal

pub returns : goal.returns
returns c = read_of c.args.buffer.now c.args.n c.text_at.result.now (omega arith) c.text_at.ensures
