-- `meanings::put_filled` meets its contract: what is left to store, over what is stored already, comes to the whole text. Assumes nothing.
use mathlib.Core.Path.{sym, ◌∙◌}
use native.Mathlib.Nat.{add-zero}
use native.Mathlib.Omega.{arith}
use Rattle.meanings.proofs.Fills.{fill_more, fill_ends}
use borrow.Author.Rules.{rules}
use Rattle.meanings.proofs.put_filled.Goals as goal

pub loop-i-init : goal.loop-i-init
loop-i-init c = (search rules, rw add-zero)

pub loop-i-preserved : goal.loop-i-preserved
loop-i-preserved c =
    let args = c.args in
    let loop = c.loop-i in
    (search rules, fill_more loop.d args.at loop.i args.n args.t.now _ (omega arith) c.filled_at.ensures ∙ loop.invariant.1)

pub returns : goal.returns
returns c =
    let args = c.args in
    let loop = c.loop-i in
    sym (fill_ends loop.d args.at loop.i args.n args.t.now (omega arith)) ∙ loop.invariant.1
