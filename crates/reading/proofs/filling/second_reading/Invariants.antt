-- `reading::filling::second_reading` meets its contract: the bulks so far are written, with those of what is left they are the sheet. Assumes nothing.
use mathlib.Core.Path.{◌≡◌}
use Prim.Native.Nat.{◌-◌}
use lib.ListN.{length}
use Rattle.reading.proofs.Fillings.{Writing}
use Rattle.reading.proofs.filling.second_reading.Given as goal

abbrev pub invariant-loop-i : goal.invariant-loop-i
invariant-loop-i l = (length l.d ≡ length l.initial.d) × Writing l.s l.first l.bulks l.i l.h l.m l.initial.d l.d

abbrev pub decreases-loop-i : goal.decreases-loop-i
decreases-loop-i l = length l.s - l.i
