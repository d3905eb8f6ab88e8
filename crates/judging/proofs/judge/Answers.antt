-- `judging::judge` meets its contract: the one judgement without an index. Assumes nothing.
use mathlib.Core.Path.{ap, ◌∙◌}
use Rattle.std.proofs.lemmas.Result.{err_from_is_err_and}
use Rattle.refusing.specs.Checking.{call_of}
use Rattle.judging.specs.Indexed.{IndexedOutcome}
use Rattle.judging.proofs.Whole.{plain_outcome}
use Rattle.judging.proofs.judge.Goals as goal

pub returns-in_err-judged : goal.returns-in_err-judged
returns-in_err-judged c =
    let a = c.args in
    let call = call_of a.terms a.sheet.now a.table.now a.register.now a.positions.now a.report.now in
    let p = err_from_is_err_and c.from_residual.result c.from_residual.ensures.1 in
    rw (p.1, p.2) (ap (λ (o : IndexedOutcome). o.outcome) c.in_err-judged.ensures ∙ plain_outcome call _)

pub returns : goal.returns
returns c =
    let a = c.args in
    let call = call_of a.terms a.sheet.now a.table.now a.register.now a.positions.now a.report.now in
    ap (λ (o : IndexedOutcome). o.outcome) c.in_ok-judged.ensures ∙ plain_outcome call _
