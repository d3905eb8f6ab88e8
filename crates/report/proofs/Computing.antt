-- On an `unfolding` line: a case computes with lines. Assumes nothing.
use Rattle.wire.proofs.Computing.{bytes_compute}
use Rattle.report.specs.Line.{message_line_width, bulk_line, message_line}

unfoldable pub lines_compute : Unit {0}
unfolding bytes_compute message_line_width bulk_line message_line
lines_compute = tt
