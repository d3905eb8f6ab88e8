-- `judging::build_index` meets its contract. Assumes nothing.
use Rattle.judging.proofs.Indices.{unformed_told, other_length_told, built_told}
use Rattle.judging.proofs.build_index.Goals as goal

pub returns-then-not-well_formed : goal.returns-then-not-well_formed
returns-then-not-well_formed c =
    let a = c.args in
    unformed_told a.register.now a.index.now _ c.well_formed-2.ensures (c.if-not-well_formed.true)

pub returns-then-index-length_for : goal.returns-then-index-length_for
returns-then-index-length_for c =
    let a = c.args in
    other_length_told a.register.now a.index.now _ _ c.well_formed-2.ensures (c.if-not-well_formed.false) c.length_for.ensures c.if-index-length_for.true

pub returns : goal.returns
returns c =
    let a = c.args in
    built_told a.register.now a.index.now _ _ c.well_formed-2.ensures (c.if-not-well_formed.false) c.length_for.ensures c.if-index-length_for.false _ c.build.ensures
