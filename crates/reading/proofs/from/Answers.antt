-- `reading::from` meets its contract. Assumes nothing.
use mathlib.Core.Path.{sym, ◌∙◌}
use Rattle.std.proofs.lemmas.Result.{err_from_is_err_and}
use Rattle.reading.specs.Text.{roots_at}
use Rattle.reading.proofs.Answers.{fine_fits, fine_made, err_told, no_document, some_documents}
use Rattle.reading.proofs.from.Goals as goal

pub returns-then-text-first : goal.returns-then-text-first
returns-then-text-first c = rw (no_document c.args.text.now c.args.first c.if-text-first.true)

pub second_reading-requires : goal.second_reading-requires
second_reading-requires c = fine_fits c.args.text.now c.args.sheet.now (roots_at c.args.text.now c.args.first) c.in_ok-bulks.bulks (sym c.first_reading.ensures ∙ c.in_ok-bulks.was)

pub returns-in_err-bulks : goal.returns-in_err-bulks
returns-in_err-bulks c =
    let a = c.args in
    let p = err_from_is_err_and c.from_residual.result c.from_residual.ensures.1 in
    rw (p.1, p.2, some_documents a.text.now a.first c.if-text-first.false)
    (err_told a.text.now a.sheet.now (roots_at a.text.now a.first) c.in_err-bulks.field-0.0 (sym c.first_reading.ensures ∙ c.in_err-bulks.was))

pub returns : goal.returns
returns c =
    let a = c.args in
    rw (some_documents a.text.now a.first c.if-text-first.false)
    (fine_made a.text.now a.sheet.now (roots_at a.text.now a.first) c.in_ok-bulks.bulks c.second_reading.result _ (sym c.first_reading.ensures ∙ c.in_ok-bulks.was) c.second_reading.ensures)
