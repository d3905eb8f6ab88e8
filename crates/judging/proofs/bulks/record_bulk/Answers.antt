-- `judging::bulks::record_bulk` meets its contract. Assumes nothing.
use Rattle.judging.proofs.Sections.{recorded_some, recorded_none}
use Rattle.judging.proofs.bulks.record_bulk.Goals as goal

pub returns-then-accepted-ne0 : goal.returns-then-accepted-ne0
returns-then-accepted-ne0 c =
    let a = c.args in
    recorded_some a.indexed a.register.now a.index.now a.key.now a.accepted c.if-accepted-ne0.true _ _ _ c.enter_anew.ensures

pub returns : goal.returns
returns c =
    let a = c.args in
    recorded_none a.indexed a.register.now a.index.now a.key.now a.accepted c.if-accepted-ne0.false c.requires.ready.kept
