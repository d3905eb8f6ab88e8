-- `index::seek` meets its contract: by the index a key is found exactly where it stands in the register. Assumes nothing.
use Rattle.index.proofs.Telling.{sought_by}
use Rattle.index.proofs.seek.Goals as goal

pub returns-then-indexed : goal.returns-then-indexed
returns-then-indexed c =
    let args = c.args in
    sought_by args.register.now args.index.now args.key.now args.indexed 0 _ _ _ _ c.requires c.if-indexed.true c.entry_layout.ensures c.in_use-used.ensures c.search-ended.ensures c.names-there.ensures
