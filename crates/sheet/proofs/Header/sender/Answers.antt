-- `sheet::Header::sender` meets its contract: the text stands in the sheet where it stands in its header. Assumes nothing.
use mathlib.Core.Path.{◌∙◌}
use Rattle.sheet.proofs.Fields.{sender_there}
use Rattle.sheet.proofs.Header.sender.Goals as goal

pub returns : goal.returns
returns c =
    c.text_at.ensures ∙ sender_there c.args.s.now c.args.self.at
