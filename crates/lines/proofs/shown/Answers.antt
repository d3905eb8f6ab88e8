-- `lines::shown` meets its contract: the same tests in the same order. Assumes nothing.
use mathlib.Core.Path.{sym}
use Rattle.lines.proofs.Pieces.{shown_space, shown_allowed, shown_odd}
use Rattle.lines.proofs.shown.Goals as goal

pub returns-then-c-eq32 : goal.returns-then-c-eq32
returns-then-c-eq32 c = sym (shown_space c.args.c c.if-c-eq32.true)

pub returns-then-allowed : goal.returns-then-allowed
returns-then-allowed c = sym (shown_allowed c.args.c c.allowed.result c.if-c-eq32.false c.allowed.ensures c.if-allowed.true)

pub returns-else-allowed : goal.returns-else-allowed
returns-else-allowed c = sym (shown_odd c.args.c c.allowed.result c.if-c-eq32.false c.allowed.ensures c.if-allowed.false)
