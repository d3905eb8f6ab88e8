-- `index::build` meets its contract: the index of the entries in use. Assumes nothing.
use mathlib.Core.Path.{◌∙◌}
use Rattle.index.proofs.Telling.{built_told}
use Rattle.index.proofs.build.Goals as goal

pub returns : goal.returns
returns c =
    let args = c.args in
    c.build.ensures ∙ built_told args.register.now args.index.now _ _ c.requires c.entry_layout.ensures c.in_use.ensures
