-- `lines::put_bulk` meets its contract: four pieces, one after the other. Assumes nothing.
use Rattle.lines.specs.Lines.{bulk_text}
use Rattle.decimals.proofs.Runs.{then}
use Rattle.lines.proofs.put_bulk.Goals as goal

pub returns : goal.returns
unfolding bulk_text
returns c = then (then (then c.put_byte-begun.ensures c.put_head-headed.ensures) c.put_totals-counted.ensures) c.put_byte.ensures
