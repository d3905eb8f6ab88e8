-- The laws of the tally that the crates above cite, and those that the proofs here share. Assumes nothing.
use Rattle.std.proofs.Common.{ℕ, suc, ◌+◌, ◌*◌, ◌^◌, ◌<◌, ◌≤◌, refl, le_trans, mul-le-mul_right, le_of_mul-le-mul_right, arith, lit<, lit≤}
use Rattle.tally.specs.Tally.{Totals, nothing, with_accepted, with_rejected}
use Rattle.tally.specs.Room.{Room, Within, most_counted}

-- ---- cents in two halves

-- where most words hold the cents and a word besides, the high half is below most
below : (high low word most : ℕ) → 0 < word → high * word + low + word ≤ most * word → suc high ≤ most
below high low word most some h = le_of_mul-le-mul_right (omega arith) some

pub carry_fits : (high low : ℕ) → high * 2 ^ 64 + low + 2 ^ 64 ≤ 2 ^ 127 → high + 1 < 2 ^ 64
carry_fits high low h = let few : suc high ≤ 2 ^ 63 = below high low (2 ^ 64) (2 ^ 63) (lit< tt) h in omega arith

-- ---- a tally over all messages of a file

pub room : (n cents : ℕ) → n < most_counted → cents ≤ n * 2 ^ 64 → cents + 2 ^ 64 ≤ 2 ^ 127
room n cents few small = le_trans (more (2 ^ 64) small) (le_trans (mul-le-mul_right {m = suc n} {n = most_counted} (2 ^ 64) few) (lit≤ tt))
  where
    more : (word : ℕ) → cents ≤ n * word → cents + word ≤ suc n * word
    more word h = omega arith

pub within_room : (n : ℕ) (t : Totals) → n < most_counted → Within n t
    → Room t.accepted_number t.accepted_cents × Room t.rejected_number t.rejected_cents
within_room n t few w = (
  record { few = omega arith; small = room n t.accepted_cents few w.accepted_small },
  record { few = omega arith; small = room n t.rejected_cents few w.rejected_small },
)

pub within_none : Within 0 nothing
within_none = record { counted = refl; accepted_small = lit≤ tt; rejected_small = lit≤ tt }

pub within_accepted : (n : ℕ) (t : Totals) (amount : ℕ) → amount < 2 ^ 64 → Within n t → Within (n + 1) (with_accepted t amount)
within_accepted n t amount small w = record { counted = omega arith; accepted_small = omega arith; rejected_small = omega arith }

pub within_rejected : (n : ℕ) (t : Totals) (amount : ℕ) → amount < 2 ^ 64 → Within n t → Within (n + 1) (with_rejected t amount)
within_rejected n t amount small w = record { counted = omega arith; accepted_small = omega arith; rejected_small = omega arith }
