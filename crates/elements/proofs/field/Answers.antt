-- `elements::field` meets its contract: each answer is that of the way that led to it. Assumes nothing.
use mathlib.Core.Path.{refl, sym, ap, ◌∙◌}
use Rattle.std.specs.Prelude.{Ok}
use Rattle.std.proofs.lemmas.Result.{err_from_is_err_and}
use Rattle.tags.specs.Tags.{start_at}
use Rattle.elements.proofs.Steps.{ok_formed, err_broken}
use Rattle.elements.proofs.Fields.{field_noted, filled_noted, field_open, field_foreign, field_empty, field_unfit, field_empty_foreign, field_faulty}
use Rattle.elements.proofs.field.Goals as goal

pub returns-in_err-tag : goal.returns-in_err-tag
returns-in_err-tag c =
    let a = c.args in
    let p = err_from_is_err_and c.from_residual.result c.from_residual.ensures.1 in
    let breaks = err_broken (start_at a.begun.now.text.now a.begun.now.at) c.in_err-tag.field-0.0 (sym c.start.ensures ∙ c.in_err-tag.was) in
    rw (p.1, p.2, breaks.is, field_faulty a.role a.begun.now.text.now a.begun.now.at breaks.place breaks.was) record { step = refl; notes = tt }

pub returns-then-not-currency : goal.returns-then-not-currency
returns-then-not-currency c =
    let a = c.args in
    let tag = ok_formed (start_at a.begun.now.text.now a.begun.now.at) c.in_ok-tag.tag (sym c.start.ensures ∙ c.in_ok-tag.was) ∙ ap Ok c.in-Open.is in
    let foreign = sym c.currency.ensures ∙ c.if-not-currency.true in
    rw (field_foreign a.role a.begun.now.text.now a.begun.now.at c.in-Open.end c.in-Open.inside tag foreign) record { step = refl; notes = tt }

pub returns-else-not-currency : goal.returns-else-not-currency
returns-else-not-currency c =
    let a = c.args in
    let tag = ok_formed (start_at a.begun.now.text.now a.begun.now.at) c.in_ok-tag.tag (sym c.start.ensures ∙ c.in_ok-tag.was) ∙ ap Ok c.in-Open.is in
    let euros = sym c.currency.ensures ∙ c.if-not-currency.false in
    rw (field_open a.role a.begun.now.text.now a.begun.now.at c.in-Open.end c.in-Open.inside tag euros)
    record { step = c.filled_field.ensures; notes = rw c.note.ensures (filled_noted a.role a.begun.now.text.now a.begun.now.at c.in-Open.inside c.requires a.notes.now) }

pub returns-then-not-currency-2 : goal.returns-then-not-currency-2
returns-then-not-currency-2 c =
    let a = c.args in
    let tag = ok_formed (start_at a.begun.now.text.now a.begun.now.at) c.in_ok-tag.tag (sym c.start.ensures ∙ c.in_ok-tag.was) ∙ ap Ok c.in-Empty.is in
    let foreign = sym c.currency-in-Empty.ensures ∙ c.if-not-currency-2.true in
    rw (field_empty_foreign a.role a.begun.now.text.now a.begun.now.at c.in-Empty.end c.in-Empty.next tag foreign) record { step = refl; notes = tt }

pub returns-then-not-fits_empty : goal.returns-then-not-fits_empty
returns-then-not-fits_empty c =
    let a = c.args in
    let tag = ok_formed (start_at a.begun.now.text.now a.begun.now.at) c.in_ok-tag.tag (sym c.start.ensures ∙ c.in_ok-tag.was) ∙ ap Ok c.in-Empty.is in
    let euros = sym c.currency-in-Empty.ensures ∙ c.if-not-currency-2.false in
    rw (field_unfit a.role a.begun.now.text.now a.begun.now.at c.in-Empty.end c.in-Empty.next tag euros (sym c.fits_empty.ensures ∙ c.if-not-fits_empty.true)) record { step = refl; notes = tt }

pub returns-else-not-fits_empty : goal.returns-else-not-fits_empty
returns-else-not-fits_empty c =
    let a = c.args in
    let tag = ok_formed (start_at a.begun.now.text.now a.begun.now.at) c.in_ok-tag.tag (sym c.start.ensures ∙ c.in_ok-tag.was) ∙ ap Ok c.in-Empty.is in
    let euros = sym c.currency-in-Empty.ensures ∙ c.if-not-currency-2.false in
    rw (field_empty a.role a.begun.now.text.now a.begun.now.at c.in-Empty.end c.in-Empty.next tag euros (sym c.fits_empty.ensures ∙ c.if-not-fits_empty.false))
    record { step = refl; notes = c.note-in-Empty.ensures ∙ field_noted a.role a.begun.now.text.now a.begun.now.at a.begun.now.at c.requires a.notes.now a.begun.now.at }
