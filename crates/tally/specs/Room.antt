-- What the contracts ask and say besides a function's value: that a tally has room for a message more, and that it keeps it over all
-- messages of a file. Assumes nothing.
use Rattle.std.specs.Prelude.{◌≡◌, ℕ, ◌+◌, ◌*◌, ◌^◌, ◌<◌, ◌≤◌}
use Rattle.tally.specs.Tally.{Totals, cents_of}
use Rattle.tally.specs.declared.Side.{Side}

-- more messages than any file may have, and far fewer than a count holds
abbrev pub most_counted : ℕ
most_counted = 1000000

-- a side that can take a message more without passing its widths
pub record Room (number cents : ℕ) : Type 0 where
  pub few : number < most_counted
  pub small : cents + 2 ^ 64 ≤ 2 ^ 127

-- a side, told by its number and its cents
pub record SideTold (side : Side) (number cents : ℕ) : Type 0 where
  pub number_is : side.number.0 ≡ number
  pub cents_is : cents_of side.cents ≡ cents

-- what n messages may have come to: an amount is any number of eight bytes
pub record Within (n : ℕ) (t : Totals) : Type 0 where
  pub counted : t.accepted_number + t.rejected_number ≡ n
  pub accepted_small : t.accepted_cents ≤ n * 2 ^ 64
  pub rejected_small : t.rejected_cents ≤ n * 2 ^ 64
