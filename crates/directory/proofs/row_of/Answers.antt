-- `directory::row_of` meets its contract: the row of a BIC is the one that its search names. Assumes nothing.
use Rattle.directory.proofs.Laws.{row_least, row_told, nothing_told}
use Rattle.directory.proofs.row_of.Goals as goal

pub overflow_sub-result : goal.overflow_sub-result
overflow_sub-result c =
    let a = c.args in
    row_least a.date a.table.now c.requires.formed a.bic.now a.directory.now _ _ _ _ c.requires.is c.rows-n.ensures c.row_layout.ensures c.search-ended.ensures
    c.names.ensures c.if-names.true

pub returns-then-names : goal.returns-then-names
returns-then-names c =
    let a = c.args in
    row_told a.date a.table.now c.requires.formed a.bic.now a.directory.now _ _ _ _ c.requires.is c.rows-n.ensures c.row_layout.ensures c.search-ended.ensures
    c.names.ensures c.if-names.true

pub returns-else-names : goal.returns-else-names
returns-else-names c =
    let a = c.args in
    nothing_told a.date a.table.now c.requires.formed a.bic.now a.directory.now _ _ _ _ c.requires.is c.rows-n.ensures c.row_layout.ensures c.search-ended.ensures
    c.names.ensures c.if-names.false
