-- The true sum of a section's amounts, message by message. Assumes nothing.
use mathlib.Core.Path.{◌≡◌, sym, ap, ◌∙◌}
use mathlib.Core.List.{List}
use Prim.Native.Nat.{ℕ, ◌+◌, ◌-◌, ◌*◌, ◌^◌, ◌≤◌, ◌<◌}
use native.Mathlib.Nat.{add-zero}
use native.Mathlib.Omega.{arith}
use Rattle.sheet.specs.Sheet.{message_width, message_at, records_at, amount_of}
use Rattle.sheet.proofs.Laws.{records_step, records_end}
use Rattle.messages.specs.Messages.{sum_of}

-- ---- a loop's counter stays a word

-- ---- the sum: so much so far, and what is left

pub record SumLeft (kind : ℕ) (sheet : List ℕ) (at n so_far place j : ℕ) : Type 0 where
  pub low : j ≤ n
  pub here : place ≡ at + message_width kind * j
  pub bounded : so_far ≤ j * 2 ^ 64
  pub total : so_far + sum_of (records_at sheet (message_width kind) (n - j) place) ≡ sum_of (records_at sheet (message_width kind) n at)

module _ (kind : ℕ) (sheet : List ℕ) (at n : ℕ) where
  module _ (so_far place j : ℕ) (left : SumLeft kind sheet at n so_far place j) where
    pub sum_more : j < n → (next amount after : ℕ) → amount ≡ amount_of (message_at sheet kind place) → amount < 2 ^ 64
        → next ≡ so_far + amount → after ≡ place + message_width kind → SumLeft kind sheet at n next after (j + 1)
    unfolding sum_of
    sum_more h next amount after ea below en ep =
        let split = ap (λ (ms : List (List ℕ)). so_far + sum_of ms) (sym (records_step (message_width kind) sheet n j place h)) ∙ left.total in
        record {
          low = omega arith;
          here = (let e = left.here in omega arith);
          bounded = (let e = left.bounded in omega arith);
          total = rw (ep, en, ea) (omega (arith, split));
        }

    pub sum_ends : n ≤ j → so_far ≡ sum_of (records_at sheet (message_width kind) n at)
    unfolding sum_of
    sum_ends h = sym (add-zero so_far) ∙ (rw (records_end (message_width kind) sheet n j place h) at left.total)
