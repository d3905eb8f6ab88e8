-- `rules::sum_wrong` meets its contract: a sum past 64 bits is none that eight bytes state. Assumes nothing.
use Rattle.rules.proofs.Laws.{sum_low, sum_high}
use Rattle.rules.proofs.sum_wrong.Goals as goal

pub returns-then-sum-eq0 : goal.returns-then-sum-eq0
returns-then-sum-eq0 c = sum_low c.args.stated c.args.sum.0 c.args.sum.1 c.if-sum-eq0.true

pub returns-else-sum-eq0 : goal.returns-else-sum-eq0
returns-else-sum-eq0 c = sum_high c.args.stated c.args.sum.0 c.args.sum.1 c.ranges.stated.fits c.if-sum-eq0.false
