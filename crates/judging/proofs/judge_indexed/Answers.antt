-- `judging::judge_indexed` meets its contract: the one judgement by an index. Assumes nothing.
use mathlib.Core.Path.{◌∙◌}
use Rattle.refusing.specs.Checking.{call_of}
use Rattle.judging.proofs.Whole.{by_index}
use Rattle.judging.proofs.judge_indexed.Goals as goal

pub returns : goal.returns
returns c =
    let a = c.args in
    c.judge_by.ensures ∙ by_index (call_of a.terms a.sheet.now a.table.now a.register.now a.positions.now a.report.now) a.index.now
