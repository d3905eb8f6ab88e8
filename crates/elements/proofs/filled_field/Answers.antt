-- `elements::filled_field` meets its contract. Assumes nothing.
use mathlib.Core.Path.{sym, ◌∙◌}
use Rattle.std.proofs.lemmas.Result.{err_from_is_err_and}
use Rattle.prose.specs.Prose.{text_at}
use Rattle.elements.proofs.Steps.{ok_formed, err_broken}
use Rattle.elements.proofs.Fields.{filled_to, filled_broken, filled_unfit}
use Rattle.elements.proofs.filled_field.Goals as goal

pub returns-in_err-end : goal.returns-in_err-end
returns-in_err-end c =
    let a = c.args in
    let p = err_from_is_err_and c.from_residual.result c.from_residual.ensures.1 in
    let breaks = err_broken (text_at a.begun.now.text.now a.inside) c.in_err-end.field-0.0 (sym c.text_end.ensures ∙ c.in_err-end.was) in
    rw (p.1, p.2, breaks.is) (sym (filled_broken a.role a.begun.now.text.now a.begun.now.at a.inside breaks.place breaks.was))

pub returns-then-not-fits_at : goal.returns-then-not-fits_at
returns-then-not-fits_at c =
    let a = c.args in
    let end = c.in_ok-end.end in
    sym (filled_unfit a.role a.begun.now.text.now a.begun.now.at a.inside end (ok_formed (text_at a.begun.now.text.now a.inside) end (sym c.text_end.ensures ∙ c.in_ok-end.was)) (sym c.fits_at.ensures ∙ c.if-not-fits_at.true))

pub returns : goal.returns
returns c =
    let a = c.args in
    let end = c.in_ok-end.end in
    c.close.ensures
    ∙ sym (filled_to a.role a.begun.now.text.now a.begun.now.at a.inside end (ok_formed (text_at a.begun.now.text.now a.inside) end (sym c.text_end.ensures ∙ c.in_ok-end.was)) (sym c.fits_at.ensures ∙ c.if-not-fits_at.false))
