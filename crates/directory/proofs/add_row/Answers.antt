-- `directory::add_row` meets its contract: a row that counts is added, another is not. Assumes nothing.
use mathlib.Core.Path.{◌∙◌}
use Rattle.slots.specs.Asked.{end_of}
use Rattle.directory.proofs.Laws.{row_added, row_passed}
use Rattle.directory.proofs.add_row.Goals as goal

pub returns-then-counts : goal.returns-then-counts
returns-then-counts c =
    let a = c.args in
    let counts = c.counts in
    c.add.ensures
    ∙ row_added a.date a.table.now a.i a.directory.now c.requires.is _ counts.ensures _ _ (end_of c.search-ended.result)
    c.if-counts.true c.row_layout.ensures
    c.bic_at-bic.ensures c.search-ended.ensures

pub returns-else-counts : goal.returns-else-counts
returns-else-counts c =
    let a = c.args in
    row_passed a.date a.table.now a.i a.directory.now c.requires.is _ c.counts.ensures c.if-counts.false
