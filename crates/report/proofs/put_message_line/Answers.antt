-- `report::put_message_line` meets its contract: the line is its head. Assumes nothing.
use native.Mathlib.Omega.{arith}
use Rattle.report.specs.Line.{message_line}
use Rattle.report.proofs.Laws.{head_in_message}
use borrow.Author.Rules.{rules}
use Rattle.report.proofs.put_message_line.Goals as goal

pub put_head-requires : goal.put_head-requires
put_head-requires c = (omega (arith, head_in_message), search rules)

pub returns : goal.returns
unfolding message_line
returns c = c.put_head.ensures
