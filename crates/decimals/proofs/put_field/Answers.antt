-- `decimals::put_field` meets its contract: a space, then the number. Assumes nothing.
use Rattle.decimals.proofs.Runs.{then}
use Rattle.decimals.proofs.put_field.Goals as goal

pub returns : goal.returns
returns c = then c.put_byte-next.ensures c.put_decimal.ensures
