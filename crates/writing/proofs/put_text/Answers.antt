-- `writing::put_text` meets its contract: what is left to store, over what is stored already, comes to the whole text.
-- Assumes nothing.
use mathlib.Core.Path.{sym, ◌∙◌}
use native.Mathlib.Nat.{add-zero}
use native.Mathlib.Omega.{arith}
use Rattle.wire.proofs.Stores.{text_first, text_ends}
use Rattle.writing.proofs.put_text.Goals as goal

pub loop-i-init : goal.loop-i-init
loop-i-init c = rw add-zero

pub loop-i-preserved : goal.loop-i-preserved
loop-i-preserved c =
    let loop = c.loop-i in
    text_first loop.d c.args.at loop.i c.args.s.now (omega arith) ∙ loop.invariant

pub returns : goal.returns
returns c =
    let loop = c.loop-i in
    sym (text_ends loop.d c.args.at loop.i c.args.s.now (omega arith)) ∙ loop.invariant
