-- `wire::four_at` meets its contract: four bytes, highest first. Assumes nothing.
use mathlib.Core.Path.{refl}
use native.Mathlib.Omega.{arith}
use Rattle.wire.proofs.Numbers.{four_read}
use Rattle.wire.proofs.four_at.Goals as goal

pub returns : goal.returns
returns c =
    let s = c.args.s.now in
    let at = c.args.at in
    (omega (arith, c.from.ensures, c.from_be_bytes.ensures, four_read s at _ _ _ _ c.requires refl refl refl refl), omega arith)
