-- `positions::fit` meets its contract: the test without a product that could wrap. Assumes nothing.
use Rattle.positions.proofs.Laws.{fits_test}
use Rattle.positions.proofs.fit.Goals as goal

pub returns : goal.returns
returns c = fits_test c.args.positions.now c.args.rows
