-- `report::put_bulk_line` meets its contract: the head, then four fields, one after the other. Assumes nothing.
use mathlib.Core.Path.{refl}
use Prim.Native.Nat.{◌<◌, ◌^◌}
use native.Mathlib.Omega.{arith}
use Rattle.tally.specs.Tally.{totals_of}
use Rattle.report.proofs.Laws.{bulk_written}
use Rattle.report.proofs.put_bulk_line.Goals as goal

pub returns : goal.returns
returns c =
    let tally = c.args.tally in
    let fits : tally.accepted.cents.1 < 2 ^ 64 = omega (arith, c.well_formed) in
    bulk_written c.args.out.now c.args.at c.args.identifier.now c.args.outcome c.args.faults c.requires.1 (totals_of tally) tally.accepted.cents.0 tally.accepted.cents.1 fits refl _ _ _ _ _ c.put_head.ensures c.put_number.ensures c.put_number-2.ensures c.put_number-3.ensures c.put_halves.ensures
