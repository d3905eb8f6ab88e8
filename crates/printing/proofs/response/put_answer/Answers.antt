-- `printing::response::put_answer` meets its contract: the judge's answer, as it is printed. Assumes nothing.
use mathlib.Core.Path.{◌≡◌}
use lib.ListN.{length}
use native.Mathlib.Omega.{arith}
use Rattle.judging.specs.Outcome.{outcome}
use Rattle.rules.specs.Terms.{dated}
use Rattle.refusing.specs.Checking.{call_of}
use Rattle.decimals.proofs.Runs.{reading}
use Rattle.printing.proofs.Bounds.{answer_short}
use Rattle.printing.proofs.Shapes.{refused_text, judged_text_lem}
use Rattle.printing.proofs.response.put_answer.Goals as goal

pub returns-in-Err : goal.returns-in-Err
returns-in-Err c =
    let args = c.args in
    let call = call_of (dated args.date) args.sheet.now args.table.now args.register.now args.positions.now args.report.now in
    let judge = c.judge in
    let same : length judge.new.positions ≡ length args.positions.now = judge.auto.positions in
    record {
      printed = reading (refused_text judge.result judge.new.register judge.new.positions judge.new.report (outcome call) judge.ensures c.in-Err.refusal c.number_of.result c.in-Err.is c.number_of.ensures) c.put_refusal.ensures;
      short = answer_short call judge.result judge.new.register judge.new.positions judge.new.report args.positions.now judge.ensures (λ i. (c.type_inv.sheet i).fits) (λ i. (c.type_inv.register i).fits) (λ i. (c.type_inv.positions i).fits) (λ i. (c.type_inv.report i).fits) same (omega (arith, c.well_formed));
    }

pub returns-in-Ok : goal.returns-in-Ok
returns-in-Ok c =
    let args = c.args in
    let call = call_of (dated args.date) args.sheet.now args.table.now args.register.now args.positions.now args.report.now in
    let judge = c.judge in
    let same : length judge.new.positions ≡ length args.positions.now = judge.auto.positions in
    record {
      printed = reading (judged_text_lem judge.result judge.new.register judge.new.positions judge.new.report (outcome call) judge.ensures c.in-Ok.length c.text_at.result.now c.in-Ok.is c.text_at.ensures) c.put_judged.ensures;
      short = answer_short call judge.result judge.new.register judge.new.positions judge.new.report args.positions.now judge.ensures (λ i. (c.type_inv.sheet i).fits) (λ i. (c.slice_known-5-1.given i).fits) (λ i. (c.slice_known-6-1.given i).fits) (λ i. (c.slice_known-7-1.given i).fits) same (omega (arith, c.well_formed));
    }
