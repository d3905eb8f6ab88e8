-- `routing::row_of` meets its contract: what is left of the search finds what the whole search finds. Assumes nothing.
use mathlib.Core.Path.{sym, ◌∙◌}
use native.Mathlib.Omega.{arith}
use Rattle.wire.proofs.Scans.{first_here, first_more, first_ends}
use Rattle.routing.specs.Lookup.{bears}
use Rattle.routing.proofs.Laws.{row_start}
use Rattle.routing.proofs.row_of.Goals as goal

pub loop-i-init : goal.loop-i-init
loop-i-init c = row_start _ _ _ _ c.rows-i-end.ensures

pub returns-then-bears : goal.returns-then-bears
returns-then-bears c =
    let args = c.args in
    let loop = c.loop-i in
    record {
      is = sym (first_here (bears args.date args.table.now args.bic.now) _ loop.i c.loop-i-test.true (sym c.bears.ensures ∙ c.if-bears.true)) ∙ loop.invariant;
      within = omega arith;
    }

pub loop-i-preserved : goal.loop-i-preserved
loop-i-preserved c =
    let args = c.args in
    let loop = c.loop-i in
    first_more (bears args.date args.table.now args.bic.now) _ loop.i c.loop-i-test.true (sym c.bears.ensures ∙ c.if-bears.false) ∙ loop.invariant

pub returns : goal.returns
returns c =
    let args = c.args in
    record { is = sym (first_ends (bears args.date args.table.now args.bic.now) _ c.loop-i.i c.loop-i-test.false) ∙ c.loop-i.invariant; within = tt }
