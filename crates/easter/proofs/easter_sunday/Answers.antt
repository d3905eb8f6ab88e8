-- `easter::easter_sunday` meets its contract: the table passes the one test, which is computed here. Assumes nothing.
use mathlib.Core.Path.{refl}
use Rattle.easter.specs.declared.table.TheConstants.{SUNDAYS}
use Rattle.easter.proofs.Computing.{easter_computes}
use Rattle.easter.proofs.EachYear.{by_rule}
use Rattle.easter.proofs.easter_sunday.Goals as goal

pub returns : goal.returns
unfolding easter_computes
returns c = by_rule SUNDAYS c.args.y refl refl c.requires.not_before c.requires.not_after
