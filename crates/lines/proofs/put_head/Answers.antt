-- `lines::put_head` meets its contract: five pieces, one after the other. Assumes nothing.
use Rattle.decimals.proofs.Runs.{then, reading}
use Rattle.lines.proofs.Pieces.{head_pieces}
use Rattle.lines.proofs.put_head.Goals as goal

pub returns : goal.returns
returns c = reading (head_pieces c.args.letters.now c.args.line.now c.identifier_in.result.now c.text_at.result.now c.outcome_in-outcome.result c.faults_in-faults.result c.identifier_in.ensures c.outcome_in-outcome.ensures c.text_at.ensures c.faults_in-faults.ensures) (then (then (then (then c.put_byte-begun.ensures c.put_identifier-named.ensures) c.put_byte-apart.ensures) c.put-judged.ensures) c.put_field.ensures)
