-- `masks::flag` meets its contract. Assumes nothing.
use Rattle.masks.proofs.Setting.{flag_set}
use Rattle.masks.proofs.flag.Goals as goal

pub returns : goal.returns
returns c = flag_set c.args.so_far c.args.k c.args.fact c.requires.0 c.requires.1
