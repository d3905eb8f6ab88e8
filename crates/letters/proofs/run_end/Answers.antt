-- `letters::run_end` meets its contract: what is left of the run ends where the whole does. Assumes nothing.
use mathlib.Core.Path.{◌≡◌, sym, ◌∙◌}
use native.Mathlib.Omega.{arith}
use lib.ListN.{length}
use Rattle.letters.proofs.Scans.{run_on, run_stops, run_ends}
use Rattle.letters.proofs.run_end.Goals as goal

pub returns-then-not-has : goal.returns-then-not-has
returns-then-not-has g c =
    let loop = c.loop-i in
    run_stops (g.B.Bytes.holds c.args.kind) c.args.s.now loop.i c.loop-i-test.true (sym c.has.ensures ∙ c.if-not-has.true) ∙ loop.invariant

pub loop-i-preserved : goal.loop-i-preserved
loop-i-preserved g c =
    let loop = c.loop-i in
    run_on (g.B.Bytes.holds c.args.kind) c.args.s.now loop.i c.loop-i-test.true (sym c.has.ensures ∙ c.if-not-has.false) ∙ loop.invariant

pub returns-then-s-at : goal.returns-then-s-at
returns-then-s-at g c = run_ends (g.B.Bytes.holds c.args.kind) c.args.s.now c.args.at c.if-s-at.true

pub returns : goal.returns
returns g c =
    let loop = c.loop-i in
    let all : loop.i ≡ length c.args.s.now = omega arith in
    rw (← all) (run_ends (g.B.Bytes.holds c.args.kind) c.args.s.now loop.i c.loop-i-test.false ∙ loop.invariant)
