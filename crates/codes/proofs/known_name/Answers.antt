-- `codes::known_name` meets its contract. Assumes nothing.
use mathlib.Core.Bool.{or-false}
use Rattle.wording.specs.Wording.{one_of}
use Rattle.codes.proofs.known_name.Goals as goal

pub returns : goal.returns
unfolding one_of
returns c = rw (or-false, c.same.ensures, c.same-2.ensures)
