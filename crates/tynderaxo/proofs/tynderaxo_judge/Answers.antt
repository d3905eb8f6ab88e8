-- `tynderaxo::tynderaxo_judge` meets its contract: it passes on what the judge says. Assumes nothing.
use Rattle.tynderaxo.proofs.tynderaxo_judge.Goals as goal

pub returns : goal.returns
returns c = rw (c.number_of.ensures, c.length_of.ensures) c.judge-answer.ensures
