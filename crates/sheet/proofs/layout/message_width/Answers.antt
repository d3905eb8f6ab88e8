-- `sheet::layout::message_width` meets its contract: the width of the definition, which does not look at the kind. Assumes nothing.
use mathlib.Core.Path.{refl}
use Rattle.sheet.specs.Sheet.{message_width}
use Rattle.sheet.proofs.layout.message_width.Goals as goal

pub returns : goal.returns
unfolding message_width
returns c = refl
