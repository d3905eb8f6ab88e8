-- The digits of a number in a lent buffer, stored from the last one on. Assumes nothing.
use mathlib.Core.Path.{◌≡◌, refl}
use mathlib.Core.List.{List, [], ◌∷◌, ◌++◌}
use Prim.Native.Nat.{ℕ, suc, ◌+◌, ◌-◌, ◌/◌, ◌≤◌, ◌<◌, min}
use native.Mathlib.Omega.{arith}
use lib.ListN.{length, set}
use lib.Seq.{sets}
use Rattle.wire.proofs.Stores.{digit_last, digit_last_out}
use Rattle.decimals.specs.Decimal.{digit, digits_of}
use Rattle.decimals.specs.Printed.{Printed}
use Rattle.decimals.proofs.Decimals.{digits_length}

digits_more : (j x : ℕ) → digits_of (suc j) x ≡ digits_of j (x / 10) ++ (digit x ∷ [])
unfolding digits_of
digits_more j x = refl

pub digits_last : (d : List ℕ) (at i x : ℕ) → 0 < i
    → sets (set d (at + (i - 1)) (digit x)) at (digits_of (i - 1) (x / 10)) ≡ sets d at (digits_of i x)
digits_last = digit_last 10 digit digits_of digits_length digits_more

-- a digit that has no room is left out
pub digits_last_out : (d : List ℕ) (at i x : ℕ) → 0 < i → length d ≤ at + (i - 1)
    → sets d at (digits_of (i - 1) (x / 10)) ≡ sets d at (digits_of i x)
digits_last_out = digit_last_out 10 digit digits_of digits_length digits_more

pub digits_end : (before after : List ℕ) (at n v i x next : ℕ) → i ≤ 0 → length after ≡ length before
    → sets after at (digits_of i x) ≡ sets before at (digits_of n v) → next ≡ min (at + n) (length after)
    → Printed before after at next (digits_of n v)
unfolding digits_of
digits_end before after at n v i x next h same all place =
    let none : i ≡ 0 = omega arith in
    record {
      bytes = rw none at all;
      place = rw (digits_length n v, ← same) place;
    }
