-- `tags::in_name` meets its contract: the order of the tests does not matter, at each of the 256 bytes. Assumes nothing.
use Rattle.tags.proofs.Names.{in_name_byte}
use Rattle.tags.proofs.in_name.Goals as goal

pub returns : goal.returns
returns c = in_name_byte c.args.b c.ranges.b.fits
