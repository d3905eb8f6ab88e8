-- The laws of printed numbers: the two equations that a reader expects, the width, and a number in two pieces. Assumes nothing.
use mathlib.Core.Path.{◌≡◌, refl, sym, ap, ◌∙◌}
use mathlib.Core.Bool.{Bool, true, false, cond}
use mathlib.Core.List.{[], ◌∷◌, ◌++◌, append-nil, append_assoc}
use Prim.Native.Nat.{ℕ, zero, suc, ◌+◌, ◌*◌, ◌/◌, ◌%◌, ◌^◌, ◌≤◌, ◌<◌}
use native.Mathlib.Nat.{pow-zero, pow-suc, pow-le-pow_right, mul-le-mul_right, mul_assoc, div-lt_iff_lt-mul, mul-add-div_right, mul-add-mod_self_right}
use native.Mathlib.Numerals.{add-one}
use native.Mathlib.Omega.{arith}
use lib.Dec.{ltb, lit<}
use lib.ListN.{length, length-append}
use borrow.Author.Tests.{lt-ltb, le-ltb, ltb-true, ltb-false}
use Rattle.decimals.specs.Decimal.{digit, digits_of, decimal_in, decimal}

-- ---- more digits than there are change nothing

enough : (k l n : ℕ) → n < k → n < l → decimal_in k n ≡ decimal_in l n
unfolding decimal_in
enough zero l n h g = absurd (omega arith)
enough (suc k) zero n h g = absurd (omega arith)
enough (suc k) (suc l) n h g = by_test (enough k l (n / 10)) (ltb n 10) refl
  where
    by_test : (n / 10 < k → n / 10 < l → decimal_in k (n / 10) ≡ decimal_in l (n / 10)) → (t : Bool) → ltb n 10 ≡ t → cond t (digit n ∷ []) (decimal_in k (n / 10) ++ (digit n ∷ [])) ≡ cond t (digit n ∷ []) (decimal_in l (n / 10) ++ (digit n ∷ []))
    by_test rest true e = refl
    by_test rest false e = let long : 10 ≤ n = ltb-false n 10 e in rw (rest (omega arith) (omega arith))

-- ---- the two equations

pub one_digit : (n : ℕ) → n < 10 → decimal n ≡ digit n ∷ []
unfolding decimal decimal_in
one_digit n h = rw (lt-ltb n 10 h)

pub more_digits : (n : ℕ) → 10 ≤ n → decimal n ≡ decimal (n / 10) ++ (digit n ∷ [])
unfolding decimal decimal_in
more_digits n h = rw (le-ltb n 10 h, enough n (suc (n / 10)) (n / 10) (omega arith) (omega arith))

-- ---- the width

pub width_one : (n : ℕ) → n < 10 → length (decimal n) ≡ 1
width_one n h = ap length (one_digit n h)

pub width_more : (n : ℕ) → 10 ≤ n → length (decimal n) ≡ length (decimal (n / 10)) + 1
width_more n h = ap length (more_digits n h) ∙ length-append (decimal (n / 10)) (digit n ∷ [])

-- a number's own width shows all of its digits
all_shown : (k n : ℕ) → n < k → digits_of (length (decimal n)) n ≡ decimal n
unfolding digits_of
all_shown zero n h = absurd (omega arith)
all_shown (suc k) n h = by_test (all_shown k (n / 10)) (ltb n 10) refl
  where
    by_test : (n / 10 < k → digits_of (length (decimal (n / 10))) (n / 10) ≡ decimal (n / 10)) → (t : Bool) → ltb n 10 ≡ t → digits_of (length (decimal n)) n ≡ decimal n
    by_test rest true e = let small : n < 10 = ltb-true n 10 e in rw (one_digit n small)
    by_test rest false e =
        let long : 10 ≤ n = ltb-false n 10 e in
        let width : length (decimal n) ≡ suc (length (decimal (n / 10))) = width_more n long ∙ add-one (length (decimal (n / 10))) in
        rw (width, rest (omega arith)) (sym (more_digits n long))

pub digits_decimal : (k n : ℕ) → k ≡ length (decimal n) → digits_of k n ≡ decimal n
digits_decimal k n e = rw e (all_shown (suc n) n (omega arith))

-- ---- a number in two pieces: the second with the zeros in front

pub digits_length : (k n : ℕ) → length (digits_of k n) ≡ k
unfolding digits_of
digits_length zero n = refl
digits_length (suc k) n = length-append (digits_of k (n / 10)) (digit n ∷ []) ∙ (rw (digits_length k (n / 10)) (add-one k))

pub decimal_split : (k q r : ℕ) → 0 < q → r < 10 ^ k → decimal (q * 10 ^ k + r) ≡ decimal q ++ digits_of k r
unfolding digits_of
decimal_split zero q r some h =
    let one : 10 ^ 0 ≡ 1 = pow-zero 10 in
    let none : q * 10 ^ 0 + r ≡ q = rw one (omega arith) in
    rw (none, append-nil)
decimal_split (suc k) q r some h =
    let power : 10 ^ suc k ≡ 10 ^ k * 10 = pow-suc 10 k in
    let regroup : q * 10 ^ suc k + r ≡ q * 10 ^ k * 10 + r = rw (power, mul_assoc q (10 ^ k) 10) in
    let below : r / 10 < 10 ^ k = (div-lt_iff_lt-mul {k = 10} {x = r} {y = 10 ^ k} (lit< tt)).1 (rw power at h) in
    let high : (q * 10 ^ k * 10 + r) / 10 ≡ q * 10 ^ k + r / 10 = mul-add-div_right {m = 10} (lit< tt) (q * 10 ^ k) r in
    let low : (q * 10 ^ k * 10 + r) % 10 ≡ r % 10 = mul-add-mod_self_right (q * 10 ^ k) 10 r in
    let least : 1 ≤ 10 ^ k = pow-le-pow_right (lit< tt) {i = 0} {j = k} (omega arith) in
    let more : 1 * 10 ^ k ≤ q * 10 ^ k = mul-le-mul_right {m = 1} {n = q} (10 ^ k) some in
    let long : 10 ≤ q * 10 ^ k * 10 + r = omega arith in
    rw (regroup)
    (more_digits (q * 10 ^ k * 10 + r) long
    ∙ (rw (high, low, decimal_split k q (r / 10) some below) (append_assoc (decimal q) (digits_of k (r / 10)) (digit r ∷ []))))
