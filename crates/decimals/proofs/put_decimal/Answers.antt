-- `decimals::put_decimal` meets its contract: as many digits as the number has. Assumes nothing.
use Rattle.decimals.proofs.Decimals.{digits_decimal}
use Rattle.decimals.proofs.Runs.{reading}
use Rattle.decimals.proofs.put_decimal.Goals as goal

pub returns : goal.returns
returns c = reading (digits_decimal c.width.result c.args.v c.width.ensures) c.put_digits.ensures
