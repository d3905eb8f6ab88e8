-- `printing::response::put_judgement` meets its contract: what is lent is the register's copy, positions of 0 and an empty report.
-- Assumes nothing.
use mathlib.Core.Path.{sym}
use Prim.Native.Nat.{◌*◌}
use lib.ListN.{take}
use Rattle.positions.specs.Positions.{position_width}
use Rattle.printing.proofs.Runs.{within_reading, widen}
use Rattle.printing.proofs.Shapes.{copy_length, copy_is, places_length, places_are, same_call, answer_fits}
use Rattle.printing.proofs.response.put_judgement.Goals as goal

pub slice_bounds-put_answer-end : goal.slice_bounds-put_answer-end
slice_bounds-put_answer-end c =
    copy_length c.args.sheet.now c.args.table.now c.args.given.now c.space-register.result c.requires c.space-register.ensures _ c.put_text.ensures

pub slice_bounds-put_answer-end-2 : goal.slice_bounds-put_answer-end-2
slice_bounds-put_answer-end-2 c =
    places_length c.args.sheet.now c.args.table.now c.args.given.now c.space-positions.result c.requires c.space-positions.ensures c.rows-places.result c.rows-places.ensures

pub returns : goal.returns
returns c =
    let args = c.args in
    let rows = c.rows-places in
    let copied = copy_is args.sheet.now args.table.now args.given.now c.space-register.result c.requires c.space-register.ensures _ c.put_text.ensures in
    let placed = places_are args.sheet.now args.table.now args.given.now c.space-positions.result c.requires c.space-positions.ensures rows.result rows.ensures in
    let long = places_length args.sheet.now args.table.now args.given.now c.space-positions.result c.requires c.space-positions.ensures rows.result rows.ensures in
    widen (answer_fits args.sheet.now args.table.now args.given.now (take (position_width * rows.result) c.space-positions.result) rows.result c.requires rows.ensures (sym long))
    (within_reading (same_call args.date args.sheet.now args.table.now args.given.now _ _ _ copied placed c.space-report.ensures) c.put_answer.ensures)
