-- `wording::formed` meets its contract: its tests settle the size and both ends, and the rest is left to `spelled`. Assumes nothing.
use mathlib.Core.Path.{◌∙◌}
use lib.ListN.{length}
use Rattle.wording.proofs.Laws.{size_fits, formed_size, formed_edge, formed_rest}
use borrow.Author.Rules.{rules}
use Rattle.wording.proofs.formed.Goals as goal

pub returns-then-n : goal.returns-then-n
returns-then-n c = formed_size c.args.t.now c.if-n.true

pub bounds-t-0 : goal.bounds-t-0
bounds-t-0 c = let fits = size_fits (length c.args.t.now) c.if-n.false in search rules

pub overflow_sub-n : goal.overflow_sub-n
overflow_sub-n c = let fits = size_fits (length c.args.t.now) c.if-n.false in search rules

pub bounds-t-n : goal.bounds-t-n
bounds-t-n c = let fits = size_fits (length c.args.t.now) c.if-n.false in search rules

pub returns-then-first-t : goal.returns-then-first-t
returns-then-first-t c = formed_edge c.args.t.now c.if-first-t.true

pub returns : goal.returns
returns c =
    let t = c.args.t.now in
    let fits = size_fits (length t) c.if-n.false in
    c.spelled.ensures ∙ formed_rest t c.if-first-t.false fits.0 fits.1
