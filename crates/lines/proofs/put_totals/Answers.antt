-- `lines::put_totals` meets its contract: four pieces, one after the other. Assumes nothing.
use Rattle.decimals.proofs.Runs.{then, reading}
use Rattle.lines.proofs.Pieces.{totals_pieces}
use Rattle.lines.proofs.put_totals.Goals as goal

pub returns : goal.returns
returns c = reading (totals_pieces c.args.line.now _ _ _ _ c.accepted_number_in-accepted.ensures c.accepted_cents_in.ensures c.rejected_number_in-rejected.ensures c.rejected_cents_in-cents.ensures.0) (then (then (then c.put_field-first.ensures c.put_field-second.ensures) c.put_field-third.ensures) c.put_wide_field.ensures)
