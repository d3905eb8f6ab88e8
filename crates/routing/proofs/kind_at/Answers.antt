-- `routing::kind_at` meets its contract: behind the last whole row, and what is left of one, no byte is a kind. Assumes nothing.
use mathlib.Core.Path.{sym}
use native.Mathlib.Omega.{arith}
use Rattle.routing.proofs.Laws.{kind_past}
use Rattle.routing.proofs.kind_at.Goals as goal

pub returns-then-rows-i : goal.returns-then-rows-i
returns-then-rows-i c = sym (kind_past c.args.table.now c.args.i (omega arith))
