-- `register::stands` meets its contract: a key of another length stands nowhere, any other in the first half or in the second.
-- Assumes nothing.
use mathlib.Core.Path.{sym}
use native.Mathlib.Omega.{arith}
use Rattle.register.proofs.Search.{half_finds, half_goes_on, stands_not}
use Rattle.register.proofs.stands.Goals as goal

pub returns-then-key-ne-KEY_WIDTH : goal.returns-then-key-ne-KEY_WIDTH
returns-then-key-ne-KEY_WIDTH c = sym (stands_not _ _ c.if-key-ne-KEY_WIDTH.true)

pub returns-then-stands_by_turns : goal.returns-then-stands_by_turns
returns-then-stands_by_turns c =
    let args = c.args in
    half_finds args.register.now args.key.now _ _ c.stands_by_turns.ensures _ c.in_use-n.ensures (omega arith) c.if-stands_by_turns.true

pub returns : goal.returns
returns c =
    let args = c.args in
    half_goes_on args.register.now args.key.now _ _ c.stands_by_turns.ensures _ c.in_use-n.ensures (omega arith) _ c.stands_by_turns-2.ensures c.if-stands_by_turns.false
