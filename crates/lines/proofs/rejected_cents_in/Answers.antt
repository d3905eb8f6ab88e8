-- `lines::rejected_cents_in` meets its contract. Assumes nothing.
use Rattle.lines.proofs.Fields.{half_small}
use Rattle.lines.proofs.rejected_cents_in.Goals as goal

pub returns : goal.returns
returns c = (c.rejected_cents_in.ensures, half_small c.args.line.now (λ i. (c.type_inv.line i).fits) c.rejected_cents_in.result.0 c.rejected_cents_in.result.1 c.rejected_cents_in.ensures)
