-- On an `unfolding` line: a case computes with the judgement of messages. Assumes nothing.
use Rattle.positions.proofs.Computing.{positions_compute}
use Rattle.report.proofs.Computing.{lines_compute}
use Rattle.faults.proofs.Computing.{faults_compute}
use Rattle.messages.specs.Messages.{sum_of, after_message, line_of, counted, judge_messages}

unfoldable pub messages_compute : Unit {0}
unfolding positions_compute lines_compute faults_compute sum_of after_message line_of counted judge_messages
messages_compute = tt
