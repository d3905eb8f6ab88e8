-- `texts::eight_at` meets its contract: eight bytes, lowest first. Assumes nothing.
use mathlib.Core.Path.{◌∙◌}
use Rattle.texts.proofs.Words.{low_eight}
use Rattle.texts.proofs.eight_at.Goals as goal

pub returns : goal.returns
returns c = c.from_le_bytes.ensures ∙ low_eight _ _ c.requires
