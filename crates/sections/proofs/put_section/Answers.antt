-- `sections::put_section` meets its contract: the lines passed so far are printed. Assumes nothing.
use Rattle.decimals.proofs.Runs.{then, reading, nothing_printed, printed_length}
use native.Mathlib.Omega.{arith}
use Rattle.sections.proofs.Turns.{messages_none, section_turn_lem, section_ends}
use Rattle.sections.proofs.put_section.Goals as goal

pub loop-i-init : goal.loop-i-init
loop-i-init c = reading (messages_none _) (nothing_printed c.args.out.now c.args.at c.least-next.result c.least-next.ensures)

pub loop-i-preserved : goal.loop-i-preserved
loop-i-preserved c = reading (section_turn_lem c.args.section.now c.loop-i.i c.message_line_at.result.now c.message_line_at.ensures) (then c.loop-i.invariant c.put_message-next.ensures)

pub shape_of-out : goal.shape_of-out
shape_of-out c = printed_length c.loop-i.invariant

pub returns : goal.returns
returns c = reading (section_ends c.args.section.now c.loop-i.i c.count_in-count.result c.count_in-count.ensures (omega arith) c.loop-i-test.false) c.loop-i.invariant
