-- `lines::put_shown` meets its contract: the bytes passed so far are shown. Assumes nothing.
use mathlib.Core.List.{map}
use lib.ListN.{take}
use Rattle.lines.specs.Lines.{shown}
use Rattle.decimals.specs.Printed.{Printed}
use Rattle.lines.proofs.put_shown.Given as goal

abbrev pub invariant-loop-c : goal.invariant-loop-c
invariant-loop-c l = Printed l.initial.out l.out l.at l.next (map shown (take l.c-index l.s))
