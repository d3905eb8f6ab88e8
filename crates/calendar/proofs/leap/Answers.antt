-- `calendar::leap` meets its contract: code and definition are the same tests.
-- Assumes nothing.
use mathlib.Core.Path.{refl}
use Rattle.calendar.specs.Date.{leap}
use Rattle.calendar.proofs.leap.Goals as goal

pub returns : goal.returns
unfolding leap
returns c = refl
