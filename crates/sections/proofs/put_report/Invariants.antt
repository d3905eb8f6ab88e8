-- `sections::put_report` meets its contract: the bulks passed so far are printed, each with its messages, and the next section begins at the place. Assumes nothing.
use mathlib.Core.Path.{◌≡◌}
use lib.ListN.{drop}
use Rattle.decimals.specs.Printed.{Printed}
use Rattle.report.specs.Line.{sections_place}
use Rattle.sections.specs.Layout.{after_count}
use Rattle.sections.specs.Sections.{bulks_text}
use Rattle.sections.proofs.Turns.{sections_after}
use Rattle.sections.proofs.put_report.Given as goal

abbrev pub invariant-loop-i : goal.invariant-loop-i
invariant-loop-i l =
    (drop l.place l.report ≡ sections_after l.i (drop (sections_place l.bulks) l.report))
    × Printed l.initial.out l.out l.at l.next (bulks_text l.i (after_count l.report) (drop (sections_place l.bulks) l.report))
