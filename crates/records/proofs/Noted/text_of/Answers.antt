-- `records::Noted::text_of` meets its contract: a missing text is read at the end. Assumes nothing.
use Rattle.records.proofs.Missing.{said_past}
use Rattle.records.proofs.Noted.text_of.Goals as goal

pub returns-else-is_there : goal.returns-else-is_there
returns-else-is_there c = rw (← c.is_there.ensures, c.if-is_there.false) (said_past c.args.self.now.text.now)
