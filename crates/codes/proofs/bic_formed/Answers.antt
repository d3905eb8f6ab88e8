-- `codes::bic_formed` meets its contract. Assumes nothing.
use mathlib.Core.Path.{sym}
use borrow.Author.Tests.{eq-eqb, ne_eqb}
use Rattle.wording.specs.Wording.{bic_formed}
use Rattle.codes.proofs.bic_formed.Goals as goal

pub returns-then-s-ne11 : goal.returns-then-s-ne11
unfolding bic_formed
returns-then-s-ne11 c = sym (rw (ne_eqb _ _ c.if-s-ne11.true))

pub returns : goal.returns
unfolding bic_formed
returns c =
    rw (eq-eqb _ _ c.if-s-ne11.false, c.letters.ensures, c.letters-2.ensures, c.letters-3.ensures)
