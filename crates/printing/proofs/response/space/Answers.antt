-- `printing::response::space` meets its contract. Assumes nothing.
use mathlib.Core.Path.{refl}
use Rattle.printing.specs.Response.{zeros}
use Rattle.printing.proofs.response.space.Goals as goal

pub returns : goal.returns
unfolding zeros
returns c = refl
