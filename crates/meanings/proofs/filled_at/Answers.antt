-- `meanings::filled_at` meets its contract. Assumes nothing.
use mathlib.Core.Path.{sym}
use lib.ListN.{get_or-eq_default}
use Rattle.meanings.proofs.Fills.{inside}
use Rattle.meanings.proofs.filled_at.Goals as goal

pub returns-then-at-t : goal.returns-then-at-t
returns-then-at-t c = let args = c.args in inside args.t.now args.at c.if-at-t.true

pub returns-else-at-t : goal.returns-else-at-t
returns-else-at-t c = sym (get_or-eq_default c.args.t.now 32 c.if-at-t.false)
