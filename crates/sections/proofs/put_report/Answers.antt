-- `sections::put_report` meets its contract: the bulks passed so far are printed, each with its messages, and the next section begins at the place. Assumes nothing.
use Rattle.decimals.proofs.Runs.{then, reading, nothing_printed, printed_length}
use native.Mathlib.Omega.{arith}
use Rattle.sections.proofs.Turns.{bulks_none, report_starts, report_turn, report_place, report_ends}
use Rattle.sections.proofs.put_report.Goals as goal

pub loop-i-init : goal.loop-i-init
loop-i-init c = (report_starts c.args.report.now c.count_in-bulks.result c.sections_place-place.result c.sections_place-place.ensures, reading (bulks_none _ _) (nothing_printed c.args.out.now c.args.at c.least-next.result c.least-next.ensures))

pub loop-i-preserved : goal.loop-i-preserved
loop-i-preserved c = (report_place c.args.report.now c.count_in-bulks.result c.loop-i.i c.loop-i.place c.loop-i.invariant.0 c.next_section-place.result c.next_section-place.ensures, reading (report_turn c.args.report.now c.count_in-bulks.result c.loop-i.i c.loop-i.place c.loop-i.invariant.0 c.bulk_line_at.result.now c.sections_from.result.now c.bulk_line_at.ensures c.sections_from.ensures) (then (then c.loop-i.invariant.1 c.put_bulk-told.ensures) c.put_section-next.ensures))

pub shape_of-out : goal.shape_of-out
shape_of-out c = printed_length c.loop-i.invariant.1

pub returns : goal.returns
returns c = reading (report_ends c.args.report.now c.count_in-bulks.result c.loop-i.i c.count_in-bulks.ensures (omega arith) c.loop-i-test.false) c.loop-i.invariant.1
