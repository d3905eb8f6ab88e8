-- `sections::layout::sections_from` meets its contract. Assumes nothing.
use Rattle.wire.proofs.Texts.{rest_read}
use Rattle.sections.proofs.layout.sections_from.Goals as goal

pub returns : goal.returns
returns c = rest_read c.args.report.now c.text_at.result.now c.args.place c.text_at.ensures
