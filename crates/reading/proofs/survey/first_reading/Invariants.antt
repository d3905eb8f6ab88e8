-- `reading::survey::first_reading` meets its contract: what was seen so far, with what is left from place i on, comes to the whole. Assumes nothing.
use Prim.Native.Nat.{◌-◌}
use lib.ListN.{length}
use Rattle.reading.proofs.Surveys.{Surveying}
use Rattle.reading.proofs.survey.first_reading.Given as goal

abbrev pub invariant-loop-i : goal.invariant-loop-i
invariant-loop-i l = Surveying l.s l.space l.first l.i l.lack l.bulks l.room

abbrev pub decreases-loop-i : goal.decreases-loop-i
decreases-loop-i l = length l.s - l.i
