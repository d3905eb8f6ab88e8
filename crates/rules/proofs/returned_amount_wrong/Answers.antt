-- `rules::returned_amount_wrong` meets its contract: less than the original is asked for its reason, the rest for being more. Assumes nothing.
use Rattle.sheet.specs.Sheet.{return_kind}
use Rattle.wording.specs.Wording.{answers_cancellation}
use Rattle.rules.proofs.Laws.{of_kind, of_other_kind, less_returned, no_less_returned}
use Rattle.rules.proofs.returned_amount_wrong.Goals as goal

pub returns-then-amount-original : goal.returns-then-amount-original
returns-then-amount-original c =
    let a = c.args in
    of_kind a.kind return_kind _ _ c.if-kind-eq-RETURN.true
    (rw (← less_returned a.amount a.original (answers_cancellation a.reason.now) c.if-amount-original.true) (cc))

pub returns-else-amount-original : goal.returns-else-amount-original
returns-else-amount-original c =
    let a = c.args in
    of_kind a.kind return_kind _ _ c.if-kind-eq-RETURN.true
    (no_less_returned a.amount a.original (answers_cancellation a.reason.now) c.if-amount-original.false)

pub returns-else-kind-eq-RETURN : goal.returns-else-kind-eq-RETURN
returns-else-kind-eq-RETURN c = of_other_kind _ return_kind _ c.if-kind-eq-RETURN.false
