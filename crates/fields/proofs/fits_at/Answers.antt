-- `fields::fits_at` meets its contract. Assumes nothing.
use mathlib.Core.Path.{sym, ◌∙◌}
use Rattle.prose.specs.Prose.{said_at}
use Rattle.fields.proofs.Forms.{long_fits}
use Rattle.fields.proofs.fits_at.Goals as goal

pub returns-then-is_cut : goal.returns-then-is_cut
returns-then-is_cut c =
    let args = c.args in
    let t = said_at args.s.now args.at in
    c.is_mark.ensures ∙ long_fits args.role t (c.at-told.ensures.long (sym c.is_cut.ensures ∙ c.if-is_cut.true))
