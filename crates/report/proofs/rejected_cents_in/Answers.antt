-- `report::rejected_cents_in` meets its contract: the field without its last eight bytes, and its last eight. Assumes nothing.
use mathlib.Core.Path.{ap}
use lib.ListN.{length}
use native.Mathlib.Omega.{arith}
use Rattle.wire.specs.Field.{part}
use Rattle.wire.proofs.Texts.{part_bytes_lem, part_short}
use Rattle.wire.proofs.Numbers.{halves_read}
use Rattle.report.specs.Line.{rejected_cents_place, rejected_cents_width}
use Rattle.report.proofs.rejected_cents_in.Goals as goal

pub returns : goal.returns
returns c =
    let all = part c.args.line.now rejected_cents_place rejected_cents_width in
    let bytes = part_bytes_lem c.args.line.now rejected_cents_place rejected_cents_width (λ i. (c.type_inv.line i).fits) in
    let field = c.text_at-field.ensures in
    rw (c.number.ensures, c.number-2.ensures, field)
    (halves_read all _ bytes (part_short c.args.line.now rejected_cents_place rejected_cents_width) (omega (arith, c.saturating_sub-high.ensures, ap length field)))
