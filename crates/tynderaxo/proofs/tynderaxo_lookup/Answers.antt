-- `tynderaxo::tynderaxo_lookup` meets its contract: it passes on what the lookup says. Assumes nothing.
use mathlib.Core.Path.{sym, ap, ◌∙◌}
use Rattle.std.specs.Prelude.{Ok}
use Rattle.routing.specs.Lookup.{values_of}
use Rattle.tynderaxo.proofs.Laws.{row_fits, row_told}
use Rattle.tynderaxo.proofs.tynderaxo_lookup.Goals as goal

pub overflow_cast-result : goal.overflow_cast-result
overflow_cast-result c =
    record { fits = row_fits c.args.table.now _ _ _ c.lookup.ensures (c.in-Ok-Some.is ∙ ap Ok c.in-Ok-Some.field-0-is) }

pub returns-in-Err : goal.returns-in-Err
returns-in-Err c = rw c.number_of.ensures (ap values_of (sym c.in-Err.is) ∙ c.lookup.ensures.is)

pub returns-in-Ok-None : goal.returns-in-Ok-None
returns-in-Ok-None c = ap values_of (sym (c.in-Ok-None.is ∙ ap Ok c.in-Ok-None.field-0-is)) ∙ c.lookup.ensures.is

pub returns-in-Ok-Some : goal.returns-in-Ok-Some
returns-in-Ok-Some c = row_told c.args.table.now _ _ _ c.lookup.ensures (c.in-Ok-Some.is ∙ ap Ok c.in-Ok-Some.field-0-is)
