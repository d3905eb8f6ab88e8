-- `wire::field` meets its contract: a field of at most eight bytes is read as a word. Assumes nothing.
use Rattle.wire.proofs.Numbers.{field_read}
use Rattle.wire.proofs.field.Goals as goal

pub returns : goal.returns
returns g c = field_read _ c.args.at g.row.N _ _ (λ i. (c.type_inv.s i).fits) c.requires c.text_at.ensures c.number.ensures
