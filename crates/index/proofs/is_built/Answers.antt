-- `index::is_built` meets its contract: the index is held against that of the entries in use. Assumes nothing.
use Rattle.index.proofs.Telling.{told_built}
use Rattle.index.proofs.is_built.Goals as goal

pub returns : goal.returns
returns c =
    let args = c.args in
    told_built args.register.now args.index.now _ _ _ c.requires c.entry_layout.ensures c.in_use.ensures c.is_built.ensures
