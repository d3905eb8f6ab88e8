-- `sections::put_judged` meets its contract: three pieces, one after the other. Assumes nothing.
use Rattle.decimals.proofs.Runs.{then, reading}
use Rattle.sections.proofs.Turns.{judged_pieces}
use Rattle.sections.proofs.put_judged.Goals as goal

pub returns : goal.returns
returns c = reading (judged_pieces c.args.register.now c.args.positions.now c.args.report.now c.used.result c.used.ensures) (then (then c.put_report-reported.ensures c.put_positions-placed.ensures) c.put_used.ensures)
