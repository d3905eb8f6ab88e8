-- On an `unfolding` line: a case computes with whole outcomes. Assumes nothing.
use Rattle.refusing.proofs.Computing.{refusals_compute}
use Rattle.messages.proofs.Computing.{messages_compute}
use Rattle.judging.specs.Judgement.{bulk_line_of, section_of, after_bulk, judge_bulks}
use Rattle.judging.specs.Outcome.{outcome}

unfoldable pub outcomes_compute : Unit {0}
unfolding refusals_compute messages_compute bulk_line_of section_of after_bulk judge_bulks outcome
outcomes_compute = tt
