-- How many digits a number can take. Assumes nothing.
use mathlib.Core.Path.{◌≡◌}
use mathlib.Core.Logic.{◌⊎◌, inl, inr, ⊎_elim}
use Prim.Native.Nat.{ℕ, zero, suc, ◌+◌, ◌*◌, ◌/◌, ◌^◌, ◌≤◌, ◌<◌}
use native.Mathlib.Nat.{pow-suc, pow-le-pow_right, div-lt_iff_lt-mul}
use native.Mathlib.Omega.{arith}
use lib.Dec.{lit<}
use lib.ListN.{length}
use Rattle.wire.proofs.Sides.{le_or_lt}
use Rattle.decimals.specs.Decimal.{decimal, field}
use Rattle.decimals.proofs.Decimals.{width_one, width_more}

pub decimal_short : (k n : ℕ) → n < 10 ^ suc k → length (decimal n) ≤ suc k
decimal_short zero n h = let one = width_one n h in omega arith
decimal_short (suc k) n h = ⊎_elim
    (λ (long : 10 ≤ n).
    let power : 10 ^ suc (suc k) ≡ 10 ^ suc k * 10 = pow-suc 10 (suc k) in
    let below : n / 10 < 10 ^ suc k = (div-lt_iff_lt-mul {k = 10} {x = n} {y = 10 ^ suc k} (lit< tt)).1 (rw power at h) in
    let rest = decimal_short k (n / 10) below in
    let more = width_more n long in
    omega arith)
    (λ (short : n < 10). let one = width_one n short in omega arith)
    (le_or_lt 10 n)

pub decimal_long : (k n : ℕ) → 10 ^ k ≤ n → suc k ≤ length (decimal n)
decimal_long zero n h = by_size (le_or_lt 10 n)
  where
    by_size : (10 ≤ n) ⊎ (n < 10) → 1 ≤ length (decimal n)
    by_size (inl long) = let more = width_more n long in omega arith
    by_size (inr short) = let one = width_one n short in omega arith
decimal_long (suc k) n h =
    let power : 10 ^ suc k ≡ 10 ^ k * 10 = pow-suc 10 k in
    let some : 1 ≤ 10 ^ k = pow-le-pow_right (lit< tt) {i = 0} {j = k} (omega arith) in
    let rest = decimal_long k (n / 10) (omega arith) in
    let more = width_more n (omega arith) in
    omega arith

-- as many digits as the powers of ten tell that it lies between
pub decimal_width : (k n : ℕ) → 10 ^ k ≤ n → n < 10 * 10 ^ k → k + 1 ≡ length (decimal n)
decimal_width k n low high =
    let power : 10 ^ suc k ≡ 10 ^ k * 10 = pow-suc 10 k in
    let least = decimal_long k n low in
    let most = decimal_short k n (omega arith) in
    omega arith

pub field_short : (k n : ℕ) → n < 10 ^ suc k → length (field n) ≤ suc (suc k)
field_short k n h = let short = decimal_short k n h in omega arith
