-- `meanings::is_date` meets its contract. Assumes nothing.
use mathlib.Core.Path.{ap, ◌∙◌}
use Rattle.meanings.specs.Meanings.{digits}
use Rattle.meanings.proofs.Forms.{date_test}
use Rattle.meanings.proofs.is_date.Goals as goal

pub returns : goal.returns
returns c =
    date_test c.args.t.now _ _ _ _ _
    (c.digits.ensures ∙ ap digits c.text_at.ensures)
    (c.digits-2.ensures ∙ ap digits c.text_at-2.ensures)
    (c.digits-3.ensures ∙ ap digits c.text_at-3.ensures)
    c.byte_at.ensures c.byte_at-2.ensures
