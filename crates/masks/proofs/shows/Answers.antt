-- `masks::shows` meets its contract. Assumes nothing.
use Rattle.masks.proofs.Laws.{bit_read}
use Prim.Native.Nat.{◌/◌, ◌^◌}
use Rattle.masks.proofs.shows.Goals as goal

pub returns : goal.returns
returns c = bit_read (c.args.mask / 2 ^ c.args.k) 1
