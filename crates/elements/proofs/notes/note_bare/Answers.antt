-- `elements::notes::note_bare` meets its contract: of nothing nothing is counted. Assumes nothing.
use mathlib.Core.Path.{◌∙◌}
use lib.ListN.{replicate}
use Rattle.elements.proofs.Contents.{counted_lacks, zeros_counted}
use Rattle.elements.specs.Forest.{none}
use Rattle.elements.proofs.notes.note_bare.Goals as goal

pub returns : goal.returns
returns c = c.note_group.ensures ∙ (rw (counted_lacks c.args.role (replicate 34 0) none zeros_counted))
