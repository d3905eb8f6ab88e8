-- What a bulk comes to: messages and cents, accepted and rejected. A number of messages and a sum of cents are kept apart throughout.
-- Assumes nothing.
use Rattle.std.specs.Prelude.{ℕ, ◌+◌, ◌*◌, ◌^◌}
use Rattle.tally.specs.declared.Cents.{Cents}
use Rattle.tally.specs.declared.Tally.{Tally}

pub record Totals : Type 0 where
  pub accepted_number : ℕ
  pub accepted_cents : ℕ
  pub rejected_number : ℕ
  pub rejected_cents : ℕ

abbrev pub nothing : Totals
nothing = record { accepted_number = 0; accepted_cents = 0; rejected_number = 0; rejected_cents = 0 }

-- the cents that two halves stand for, and the totals that a running tally stands for
abbrev pub cents_of : Cents → ℕ
cents_of c = c.0 * 2 ^ 64 + c.1

abbrev pub totals_of : Tally → Totals
totals_of t =
    record {
      accepted_number = t.accepted.number.0;
      accepted_cents = cents_of t.accepted.cents;
      rejected_number = t.rejected.number.0;
      rejected_cents = cents_of t.rejected.cents;
    }

-- one message more
abbrev pub with_accepted : Totals → ℕ → Totals
with_accepted t amount =
    record {
      accepted_number = t.accepted_number + 1;
      accepted_cents = t.accepted_cents + amount;
      rejected_number = t.rejected_number;
      rejected_cents = t.rejected_cents;
    }

abbrev pub with_rejected : Totals → ℕ → Totals
with_rejected t amount =
    record {
      accepted_number = t.accepted_number;
      accepted_cents = t.accepted_cents;
      rejected_number = t.rejected_number + 1;
      rejected_cents = t.rejected_cents + amount;
    }
