-- `sheet::Header::identifier` meets its contract: the text stands in the sheet where it stands in its header. Assumes nothing.
use mathlib.Core.Path.{◌∙◌}
use Rattle.sheet.proofs.Fields.{bulk_identifier_there}
use Rattle.sheet.proofs.Header.identifier.Goals as goal

pub returns : goal.returns
returns c =
    c.text_at.ensures ∙ bulk_identifier_there c.args.s.now c.args.self.at
