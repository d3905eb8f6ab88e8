-- `printing::respond` meets its contract: the refusal of another shape, or the judgement's text. Assumes nothing.
use Rattle.printing.proofs.Runs.{within_reading, whole_answer}
use Rattle.printing.proofs.Shapes.{parts_fit, refusal_fits, response_else, response_is}
use Rattle.printing.proofs.respond.Goals as goal

pub returns-then-not-in_shape : goal.returns-then-not-in_shape
returns-then-not-in_shape c = whole_answer (within_reading (response_else c.args.input.now c.in_shape.result c.in_shape.ensures (c.if-not-in_shape.true)) (record { printed = c.put_refusal.ensures; short = refusal_fits }))

pub put_judgement-requires : goal.put_judgement-requires
put_judgement-requires c = parts_fit c.args.input.now c.sheet_in.result.now c.table_in.result.now c.register_in.result.now c.in_shape.result c.in_shape.ensures (c.if-not-in_shape.false) c.sheet_in.ensures c.table_in.ensures c.register_in.ensures

pub returns : goal.returns
returns c = whole_answer (within_reading (response_is c.args.input.now c.sheet_in.result.now c.table_in.result.now c.register_in.result.now c.date_in.result c.in_shape.result c.in_shape.ensures (c.if-not-in_shape.false) c.date_in.ensures c.sheet_in.ensures c.table_in.ensures c.register_in.ensures) c.put_judgement.ensures)
