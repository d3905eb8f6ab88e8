-- A bit set above all others adds its value. Assumes nothing.
use mathlib.Core.Path.{◌≡◌, sym, ◌∙◌}
use mathlib.Core.Bool.{Bool, true, false}
use Prim.Native.Nat.{ℕ, ◌+◌, ◌*◌, ◌%◌, ◌^◌, ◌<◌}
use native.Mathlib.Nat.{zero-mul, add-zero, add_comm, pow-suc}
use native.Mathlib.Numerals.{add-one}
use native.Mathlib.Omega.{arith}
use lib.Dec.{lit<}
use lib.Bits.{bit_or, or_zero_r, or_shifted_r}
use lib.Pow.{shl_exact}
use mir.Val.{bool_byte}
use Rattle.wire.specs.Field.{bit}

flag_is : (m k : ℕ) (fact : Bool) → m < 2 ^ k → k < 16 → bit_or m (bool_byte fact * 2 ^ k % 2 ^ 16) ≡ m + bit fact * 2 ^ k
flag_is m k true h w =
    rw (shl_exact {a = 1} 1 k 16 (lit< tt) (omega arith), or_shifted_r 1 k m h) (add_comm (1 * 2 ^ k) m)
flag_is m k false h w = rw (zero-mul (2 ^ k)) (or_zero_r m ∙ sym (add-zero m))

flag_below : (m k : ℕ) (fact : Bool) → m < 2 ^ k → m + bit fact * 2 ^ k < 2 ^ (k + 1)
flag_below m k true h = rw (add-one k, pow-suc 2 k) (omega arith)
flag_below m k false h = rw (add-one k, pow-suc 2 k) (omega arith)

pub flag_set : (m k : ℕ) (fact : Bool) → m < 2 ^ k → k < 16
    → (bit_or m (bool_byte fact * 2 ^ k % 2 ^ 16) ≡ m + bit fact * 2 ^ k) × (bit_or m (bool_byte fact * 2 ^ k % 2 ^ 16) < 2 ^ (k + 1))
flag_set m k fact h w = (flag_is m k fact h w, rw (flag_is m k fact h w) (flag_below m k fact h))
