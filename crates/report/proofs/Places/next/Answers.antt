-- `report::Places::next` meets its contract: the width in the code is the width of a line. Assumes nothing.
use Rattle.report.specs.Line.{message_line_width}
use borrow.Author.Rules.{rules}
use Rattle.report.proofs.Places.next.Goals as goal

pub overflow_mul-result : goal.overflow_mul-result
unfolding message_line_width
overflow_mul-result c = search rules

pub overflow_add-result-3 : goal.overflow_add-result-3
unfolding message_line_width
overflow_add-result-3 c = search rules

pub returns : goal.returns
unfolding message_line_width
returns c = search rules
