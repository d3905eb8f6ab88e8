-- `rules::marks_wrong` meets its contract. Assumes nothing.
use Rattle.rules.proofs.Laws.{marks_read}
use Rattle.rules.proofs.marks_wrong.Goals as goal

pub returns : goal.returns
returns c = rw (← c.from-mask.ensures) (marks_read _ _ _ _ c.shows.ensures c.shows-2.ensures c.shows-3.ensures)
