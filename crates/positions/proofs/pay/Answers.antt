-- `positions::pay` meets its contract: the one row loses what the other gains. Assumes nothing.
use Rattle.std.proofs.Common.{◌≡◌, arith}
use Rattle.positions.specs.Positions.{gains, loses}
use Rattle.positions.proofs.Laws.{loss_gained}
use Rattle.positions.proofs.pay.Goals as goal

pub returns : goal.returns
returns c =
    let a = c.args in
    let lost : gains a.positions.now a.from c.wrapping_neg.result ≡ loses a.positions.now a.from a.cents = loss_gained _ _ _ _ c.wrapping_neg.ensures (omega arith) (omega arith) in
    cc
