-- `sections::put_section` meets its contract: the lines passed so far are printed. Assumes nothing.
use Rattle.decimals.specs.Printed.{Printed}
use Rattle.sections.specs.Layout.{after_count}
use Rattle.sections.specs.Sections.{messages_text}
use Rattle.sections.proofs.put_section.Given as goal

abbrev pub invariant-loop-i : goal.invariant-loop-i
invariant-loop-i l = Printed l.initial.out l.out l.at l.next (messages_text l.i (after_count l.section))
