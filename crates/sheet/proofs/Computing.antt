-- On an `unfolding` line: a case computes with sheets. Assumes nothing.
use Rattle.wire.proofs.Computing.{bytes_compute}
use Rattle.sheet.specs.Sheet.{message_width, records_at, bulks_from, count_messages, end_from, messages_from, whole, shape, kinds_known, mixed}

unfoldable pub sheets_compute : Unit {0}
unfolding bytes_compute message_width records_at bulks_from count_messages end_from messages_from whole shape kinds_known mixed
sheets_compute = tt
