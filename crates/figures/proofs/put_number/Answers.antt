-- `figures::put_number` meets its contract: three pieces, one after the other. Assumes nothing.
use Rattle.figures.specs.Figures.{number_text}
use Rattle.decimals.proofs.Runs.{then}
use Rattle.figures.proofs.put_number.Goals as goal

pub returns : goal.returns
unfolding number_text
returns c = then (then c.put_byte-begun.ensures c.put_field-told.ensures) c.put_byte.ensures
