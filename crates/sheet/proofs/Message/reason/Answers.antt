-- `sheet::Message::reason` meets its contract: the text stands in the sheet where it stands in its message. Assumes nothing.
use mathlib.Core.Path.{◌∙◌}
use Rattle.sheet.proofs.Fields.{reason_there}
use Rattle.sheet.proofs.Message.reason.Goals as goal

pub returns : goal.returns
returns c =
    c.text_at.ensures ∙ reason_there c.args.self.kind c.args.s.now c.args.self.at
