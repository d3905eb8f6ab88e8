-- `sections::put_positions` meets its contract: the rows passed so far are printed. Assumes nothing.
use Rattle.decimals.specs.Printed.{Printed}
use Rattle.sections.specs.Sections.{positions_from}
use Rattle.sections.proofs.put_positions.Given as goal

abbrev pub invariant-loop-i : goal.invariant-loop-i
invariant-loop-i l = Printed l.initial.out l.out l.at l.next (positions_from l.positions l.i 0)
