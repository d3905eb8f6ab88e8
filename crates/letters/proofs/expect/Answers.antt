-- `letters::expect` meets its contract: what is left of the word, compared from the place reached on, comes to what the whole does. Assumes nothing.
use mathlib.Core.Path.{sym, ◌∙◌}
use Rattle.letters.proofs.Scans.{match_short, match_differs, match_on, match_ends}
use Rattle.letters.proofs.expect.Goals.{then-s-p-via-then-s-p, then-s-p-via-else-s-p+then-s-p-2}
use Rattle.letters.proofs.expect.Goals as goal

pub returns-then-s-p : goal.returns-then-s-p
returns-then-s-p c =
    let loop = c.loop-b in
    elim c.then-s-p.branch [
      | then-s-p-via-then-s-p w ↦ sym (match_short _ _ loop.p loop.b-index c.loop-b-test.true w.if-s-p.true) ∙ loop.invariant
      | then-s-p-via-else-s-p+then-s-p-2 w ↦ sym (match_differs _ _ loop.p loop.b-index c.loop-b-test.true w.if-s-p-2.true) ∙ loop.invariant
    ]

pub loop-b-preserved : goal.loop-b-preserved
loop-b-preserved c =
    let loop = c.loop-b in
    sym (match_on _ _ loop.p loop.b-index c.loop-b-test.true c.if-s-p.false c.if-s-p-2.false) ∙ loop.invariant

pub returns : goal.returns
returns c = sym (match_ends _ _ _ _ c.loop-b-test.false) ∙ c.loop-b.invariant
