-- `frame::in_shape` meets its contract: the same tests. Assumes nothing.
use Rattle.frame.proofs.Parts.{shape_read}
use Rattle.frame.proofs.in_shape.Goals as goal

pub returns : goal.returns
returns c =
    shape_read c.args.input.now c.table_on-table.result.now c.register_on-register.result.now c.sheet_on-sheet.result.now c.after_part.result.now _ _ _
    c.table_on-table.ensures c.register_on-register.ensures c.sheet_on-sheet.ensures c.after_part.ensures c.fits.ensures c.fits-2.ensures c.fits-3.ensures
