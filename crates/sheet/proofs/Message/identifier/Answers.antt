-- `sheet::Message::identifier` meets its contract: the text stands in the sheet where it stands in its message. Assumes nothing.
use mathlib.Core.Path.{◌∙◌}
use Rattle.sheet.proofs.Fields.{identifier_there}
use Rattle.sheet.proofs.Message.identifier.Goals as goal

pub returns : goal.returns
returns c =
    c.text_at.ensures ∙ identifier_there c.args.self.kind c.args.s.now c.args.self.at
