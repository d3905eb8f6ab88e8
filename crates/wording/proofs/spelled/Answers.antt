-- `wording::spelled` meets its contract: what is left of the two scans comes to what they come to in all. Assumes nothing.
use mathlib.Core.Path.{sym, ◌∙◌}
use Rattle.wording.proofs.Laws.{run_first, run_ends, run_other, run_second, run_more}
use Rattle.wording.proofs.spelled.Goals as goal

pub loop-i-init : goal.loop-i-init
loop-i-init c = run_first c.args.t.now

pub returns-then-not-allowed : goal.returns-then-not-allowed
returns-then-not-allowed c =
    let t = c.args.t.now in
    let loop = c.loop-i in
    run_other t loop.i c.loop-i-test.true (sym c.allowed.ensures ∙ c.if-not-allowed.true) ∙ loop.invariant

pub returns-then-doubled : goal.returns-then-doubled
returns-then-doubled c =
    let t = c.args.t.now in
    let loop = c.loop-i in
    run_second t loop.i c.loop-i-test.true (sym c.doubled.ensures ∙ c.if-doubled.true) ∙ loop.invariant

pub loop-i-preserved : goal.loop-i-preserved
loop-i-preserved c =
    let t = c.args.t.now in
    let loop = c.loop-i in
    let here = sym c.allowed.ensures ∙ c.if-not-allowed.false in
    run_more t loop.i c.loop-i-test.true here (sym c.doubled.ensures ∙ c.if-doubled.false) ∙ loop.invariant

pub returns : goal.returns
returns c =
    let t = c.args.t.now in
    let loop = c.loop-i in
    run_ends t loop.i c.loop-i-test.false ∙ loop.invariant
