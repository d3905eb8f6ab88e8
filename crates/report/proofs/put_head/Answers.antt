-- `report::put_head` meets its contract: three fields, one after the other. Assumes nothing.
use Rattle.report.proofs.Laws.{head_written}
use Rattle.report.proofs.put_head.Goals as goal

pub returns : goal.returns
returns c =
    head_written c.args.out.now c.args.at c.args.identifier.now c.args.outcome c.args.faults c.requires.1 _ _ _ c.put_text.ensures c.put_number.ensures c.put_number-2.ensures
