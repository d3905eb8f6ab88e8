-- `meanings::date` meets its contract. Assumes nothing.
use mathlib.Core.Path.{sym, ◌∙◌}
use Rattle.meanings.proofs.Forms.{meant_is, meant_nothing}
use Rattle.meanings.proofs.date.Goals as goal

pub date_number-requires : goal.date_number-requires
date_number-requires c = sym c.is_date.ensures ∙ c.if-is_date.true

pub returns-then-is_date : goal.returns-then-is_date
returns-then-is_date c = meant_is _ _ _ (sym c.is_date.ensures ∙ c.if-is_date.true) c.date_number.ensures

pub returns-else-is_date : goal.returns-else-is_date
returns-else-is_date c = meant_nothing _ _ (sym c.is_date.ensures ∙ c.if-is_date.false)
