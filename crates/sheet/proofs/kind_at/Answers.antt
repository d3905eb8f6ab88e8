-- `sheet::kind_at` meets its contract: the first byte of a header is its kind. Assumes nothing.
use Rattle.sheet.proofs.Laws.{kind_read, head_of}
use Rattle.sheet.proofs.kind_at.Goals as goal

pub returns : goal.returns
returns c = kind_read c.args.s.now (head_of c.args.k)
