-- `paths::children::in_payments` meets its contract: the commoner name is asked for first. Assumes nothing.
use mathlib.Core.Path.{refl, ◌∙◌}
use Rattle.wire.specs.Field.{text, same}
use Rattle.paths.specs.Table.{among, child_role}
use Rattle.paths.proofs.Rows.{commoner_first}
use Rattle.paths.proofs.children.in_payments.Goals as goal

pub returns : goal.returns
unfolding child_role among same
returns c = c.either.ensures ∙ commoner_first c.args.name.now (text "CdtTrfTxInf") (text "GrpHdr") _ _ _ refl
