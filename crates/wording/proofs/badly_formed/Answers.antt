-- `wording::badly_formed` meets its contract. Assumes nothing.
use mathlib.Core.Path.{sym}
use native.Mathlib.Omega.{arith}
use lib.Seq.{length-take-le}
use Rattle.wording.specs.Wording.{badly_formed}
use Rattle.wording.proofs.Laws.{kept_within}
use Rattle.wording.proofs.badly_formed.Goals as goal

pub slice_bounds-formed-end : goal.slice_bounds-formed-end
slice_bounds-formed-end c =
    let s = c.args.s.now in
    sym (length-take-le c.kept-n.result s (omega (arith, c.kept-n.ensures, kept_within s)))

pub returns : goal.returns
unfolding badly_formed
returns c = rw (c.formed.ensures, c.kept-n.ensures)
