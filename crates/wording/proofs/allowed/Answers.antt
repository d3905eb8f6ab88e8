-- `wording::allowed` meets its contract: the runs of codes are the set, at each of the 256 bytes. Assumes nothing.
use Rattle.wording.proofs.Laws.{first_allowed, letter_allowed, other_allowed}
use Rattle.wording.proofs.allowed.Goals as goal

pub returns-then-c : goal.returns-then-c
returns-then-c c = first_allowed c.args.c c.ranges.c.fits c.if-c.true

pub returns-then-c-2 : goal.returns-then-c-2
returns-then-c-2 c = letter_allowed c.args.c c.ranges.c.fits c.if-c.false c.if-c-2.true

pub returns : goal.returns
returns c = other_allowed c.args.c c.ranges.c.fits c.if-c.false c.if-c-2.false
