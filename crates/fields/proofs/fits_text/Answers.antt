-- `fields::fits_text` meets its contract. Assumes nothing.
use mathlib.Core.Path.{sym, ap, ◌∙◌}
use native.Mathlib.Omega.{arith}
use Rattle.fields.specs.Fields.{is_meant}
use Rattle.fields.proofs.Forms.{fits_mark, fits_number, fits_date, fits_amount, fits_width}
use Rattle.fields.proofs.fits_text.Goals as goal

pub returns-then-is_mark : goal.returns-then-is_mark
returns-then-is_mark c =
    let args = c.args in
    fits_mark args.role args.t.now (sym c.is_mark.ensures ∙ c.if-is_mark.true)

pub returns-in-22 : goal.returns-in-22
returns-in-22 c =
    let args = c.args in
    let unmarked = sym c.is_mark.ensures ∙ c.if-is_mark.false in
    c.is_some.ensures ∙ ap is_meant c.number.ensures ∙ fits_number args.role args.t.now unmarked c.in-22.is

pub returns-in-24 : goal.returns-in-24
returns-in-24 c =
    let args = c.args in
    let unmarked = sym c.is_mark.ensures ∙ c.if-is_mark.false in
    c.is_some-in-24.ensures ∙ ap is_meant c.date.ensures ∙ fits_date args.role args.t.now unmarked (λ e. omega arith) c.in-24.is

pub returns-in_default-2 : goal.returns-in_default-2
returns-in_default-2 c =
    let args = c.args in
    let unmarked = sym c.is_mark.ensures ∙ c.if-is_mark.false in
    let summed = sym c.is_amount.ensures ∙ c.if-is_amount.true in
    c.is_some-in_default-2.ensures ∙ ap is_meant c.amount.ensures ∙ fits_amount args.role args.t.now unmarked (λ e. omega arith) (λ e. omega arith) summed

pub returns-in_default-3 : goal.returns-in_default-3
returns-in_default-3 c =
    let args = c.args in
    let unmarked = sym c.is_mark.ensures ∙ c.if-is_mark.false in
    let unsummed = sym c.is_amount.ensures ∙ c.if-is_amount.false in
    rw c.width_of.ensures (fits_width args.role args.t.now unmarked (λ e. omega arith) (λ e. omega arith) unsummed)
