-- The contract of each public function determines what a call of it comes to: the result, and every byte left in what was lent.
-- Here: the rules, the refusals, the judgement and the doors. There is a statement for each function, and `.ci/determined` asks that
-- none is missing. Of a slice that is handed back the bytes are read: no contract says where they lie. Assumes nothing.
use mathlib.Core.Path.{refl, sym, ◌∙◌}
use mathlib.Core.List.{is_set}
use native.Mathlib.Nat.{ℕ_set}
use seplogic.Ra.Ura.{Ura}
use base.Logic.{SProp}
use prog.Memory.{Memory}
use prog.Routine.{Routine}
use types.Logic.{Logic}
use contract.Monad.{Fun}
use Rattle.refusing.specs.declared.Refusal.TheVariants.{Date}
use Rattle.promises.specs.Determined.{Determined}
use Rattle.promises.proofs.Told.{results, both, same, number, truth}
use Rattle.promises.proofs.Readings.{cents_one, checked_one, outcomes, judged_one, door_one, way_one}
use Rattle.promises.proofs.IndexReadings.{counts_one, messages_left}
use Rattle.rules.specs.contracts as rules
use Rattle.faults.specs.contracts as faults
use Rattle.refusing.specs.contracts as refusing
use Rattle.messages.specs.contracts as messages
use Rattle.judging.specs.contracts as judging
use Rattle.tynderaxo.specs.contracts as tynderaxo

module _ {M : Type 1} {𝓤 : Ura M} (𝓛 : Logic 𝓤) (mem : Memory → SProp 𝓤) (run : Routine → Fun 𝓤) where
  -- ---- rules

  pub rules_marks_wrong : Determined 𝓛 mem run rules.marks_wrong.ended rules.marks_wrong.clauses
  rules_marks_wrong κs a g r r' ws ws' h h' = (truth 𝓤 _ h.told h'.told, refl)

  pub rules_no_participant : Determined 𝓛 mem run rules.no_participant.ended rules.no_participant.clauses
  rules_no_participant κs a g r r' ws ws' h h' = (truth 𝓤 _ h.told h'.told, refl)

  pub rules_date_wrong : Determined 𝓛 mem run rules.date_wrong.ended rules.date_wrong.clauses
  rules_date_wrong κs a g r r' ws ws' h h' = (truth 𝓤 _ h.told h'.told, refl)

  pub rules_date_closed : Determined 𝓛 mem run rules.date_closed.ended rules.date_closed.clauses
  rules_date_closed κs a g r r' ws ws' h h' = (truth 𝓤 _ h.told h'.told, refl)

  pub rules_empty : Determined 𝓛 mem run rules.empty.ended rules.empty.clauses
  rules_empty κs a g r r' ws ws' h h' = (truth 𝓤 _ h.told h'.told, refl)

  pub rules_number_wrong : Determined 𝓛 mem run rules.number_wrong.ended rules.number_wrong.clauses
  rules_number_wrong κs a g r r' ws ws' h h' = (truth 𝓤 _ h.told h'.told, refl)

  pub rules_sum_wrong : Determined 𝓛 mem run rules.sum_wrong.ended rules.sum_wrong.clauses
  rules_sum_wrong κs a g r r' ws ws' h h' = (truth 𝓤 _ h.told h'.told, refl)

  pub rules_receiver_badly_formed : Determined 𝓛 mem run rules.receiver_badly_formed.ended rules.receiver_badly_formed.clauses
  rules_receiver_badly_formed κs a g r r' ws ws' h h' = (truth 𝓤 _ h.told h'.told, refl)

  pub rules_unreachable : Determined 𝓛 mem run rules.unreachable.ended rules.unreachable.clauses
  rules_unreachable κs a g r r' ws ws' h h' = (truth 𝓤 _ h.told h'.told, refl)

  pub rules_amount_wrong : Determined 𝓛 mem run rules.amount_wrong.ended rules.amount_wrong.clauses
  rules_amount_wrong κs a g r r' ws ws' h h' = (truth 𝓤 _ h.told h'.told, refl)

  pub rules_tells_original : Determined 𝓛 mem run rules.tells_original.ended rules.tells_original.clauses
  rules_tells_original κs a g r r' ws ws' h h' = (truth 𝓤 _ h.told h'.told, refl)

  pub rules_reason_unknown : Determined 𝓛 mem run rules.reason_unknown.ended rules.reason_unknown.clauses
  rules_reason_unknown κs a g r r' ws ws' h h' = (truth 𝓤 _ h.told h'.told, refl)

  pub rules_name_unknown : Determined 𝓛 mem run rules.name_unknown.ended rules.name_unknown.clauses
  rules_name_unknown κs a g r r' ws ws' h h' = (truth 𝓤 _ h.told h'.told, refl)

  pub rules_returned_amount_wrong : Determined 𝓛 mem run rules.returned_amount_wrong.ended rules.returned_amount_wrong.clauses
  rules_returned_amount_wrong κs a g r r' ws ws' h h' = (truth 𝓤 _ h.told h'.told, refl)

  -- ---- faults

  pub faults_bulk_faults : Determined 𝓛 mem run faults.bulk_faults.ended faults.bulk_faults.clauses
  faults_bulk_faults κs a g r r' ws ws' h h' = (number 𝓤 _ h.told h'.told, refl)

  pub faults_message_faults : Determined 𝓛 mem run faults.message_faults.ended faults.message_faults.clauses
  faults_message_faults κs a g r r' ws ws' h h' = (number 𝓤 _ h.told h'.told, refl)

  -- ---- refusing

  pub refusing_check : Determined 𝓛 mem run refusing.check.ended refusing.check.clauses
  refusing_check κs a g r r' ws ws' h h' = (both 𝓤 (results refusing.check.ended κs) (λ t t'. checked_one Date _ _ r r' t t') h.told h'.told, refl)

  pub refusing_number_of : Determined 𝓛 mem run refusing.number_of.ended refusing.number_of.clauses
  refusing_number_of κs a g r r' ws ws' h h' = (number 𝓤 _ h.told h'.told, refl)

  -- ---- messages

  pub messages_sum_of : Determined 𝓛 mem run messages.sum_of.ended messages.sum_of.clauses
  messages_sum_of κs a g r r' ws ws' h h' = (both 𝓤 (results messages.sum_of.ended κs) (cents_one h.held h'.held) h.told h'.told, refl)

  pub messages_judge_messages : Determined 𝓛 mem run messages.judge_messages.ended messages.judge_messages.clauses
  messages_judge_messages κs a g r r' ws ws' h h' = (
    both 𝓤 (results messages.judge_messages.ended κs) (λ t t'. counts_one h.held h'.held t.totals t'.totals t.slots t'.slots) h.told h'.told,
    messages_left ws ws'
        (both 𝓤 (is_set ℕ_set) (λ t t'. t.register ∙ sym t'.register) h.told h'.told)
        (both 𝓤 (is_set ℕ_set) (λ t t'. t.kept ∙ sym t'.kept) h.told h'.told)
        (both 𝓤 (is_set ℕ_set) (λ t t'. t.positions ∙ sym t'.positions) h.told h'.told)
        (both 𝓤 (is_set ℕ_set) (λ t t'. t.lines ∙ sym t'.lines) h.told h'.told),
  )

  -- ---- judging

  pub judging_judge : Determined 𝓛 mem run judging.judge.ended judging.judge.clauses
  judging_judge κs a g r r' ws ws' h h' = judged_one ws ws' (same 𝓤 outcomes _ h.told h'.told)

  pub judging_number_of : Determined 𝓛 mem run judging.number_of.ended judging.number_of.clauses
  judging_number_of κs a g r r' ws ws' h h' = (number 𝓤 _ h.told h'.told, refl)

  pub judging_length_of : Determined 𝓛 mem run judging.length_of.ended judging.length_of.clauses
  judging_length_of κs a g r r' ws ws' h h' = (number 𝓤 _ h.told h'.told, refl)

  -- ---- tynderaxo

  pub tynderaxo_tynderaxo_judge : Determined 𝓛 mem run tynderaxo.tynderaxo_judge.ended tynderaxo.tynderaxo_judge.clauses
  tynderaxo_tynderaxo_judge κs a g r r' ws ws' h h' = door_one ws ws' (same 𝓤 outcomes _ h.told h'.told)

  pub tynderaxo_tynderaxo_lookup : Determined 𝓛 mem run tynderaxo.tynderaxo_lookup.ended tynderaxo.tynderaxo_lookup.clauses
  tynderaxo_tynderaxo_lookup κs a g r r' ws ws' h h' = (both 𝓤 (results tynderaxo.tynderaxo_lookup.ended κs) way_one h.told h'.told, refl)
