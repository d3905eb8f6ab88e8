-- `decimals::width` meets its contract: the powers of ten that the number lies between tell its width. Assumes nothing.
use native.Mathlib.Omega.{arith}
use Rattle.decimals.proofs.Decimals.{width_one}
use Rattle.decimals.proofs.Lengths.{decimal_width}
use Rattle.decimals.proofs.width.Goals as goal

pub returns-in-Some : goal.returns-in-Some
returns-in-Some c =
    let told = c.in-Some.ensures in
    decimal_width c.in-Some.k c.args.v told.power_le told.next_power_gt

pub returns-in-None : goal.returns-in-None
returns-in-None c =
    let none = c.in-None.ensures.none in
    let one = width_one c.args.v (omega arith) in
    omega arith
