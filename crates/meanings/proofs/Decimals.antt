-- The laws of decimal digits: which bytes they are, runs of them, and the number that they write. Assumes nothing.
use mathlib.Core.Path.{◌≡◌, refl, sym, ap, ◌∙◌}
use mathlib.Core.Bool.{Bool, true, false, cond, ◌&&◌, ◌||◌, and_assoc, and-eq-true_iff}
use mathlib.Core.List.{List, [], ◌∷◌, ◌++◌}
use Prim.Native.Nat.{ℕ, zero, suc, ◌+◌, ◌-◌, ◌*◌, ◌^◌, ◌≤◌, ◌<◌}
use native.Mathlib.Nat.{pow-zero, pow-suc, pow-le-pow_right, lt_of_lt_of_le, mul_comm, zero-mul, zero-add}
use native.Mathlib.Numerals.{add-one}
use native.Mathlib.Omega.{arith}
use lib.Arith.{digits_lt}
use lib.Dec.{leb, ltb, eqb, lit<, eqb-suc-suc, eqb-zero-suc}
use lib.ListN.{length, get_or, take}
use lib.Seq.{take-suc}
use borrow.Author.Tests.{lt-ltb, le-ltb, le-leb, lt-leb, ltb-true, ltb-false, leb-true}
use Rattle.std.specs.Char.{is_ascii_digit}
use Rattle.letters.specs.Places.{within, run}
use Rattle.letters.specs.References.{digit_of, numeral_from}
use Rattle.meanings.specs.Meanings.{digit, digits, decimal}

-- ---- which bytes

within_true : (low high b : ℕ) → within low high b ≡ true → (low ≤ b) × (b ≤ high)
within_true low high b e =
    let both = (and-eq-true_iff (leb low b) (leb b high)).0 e in
    (leb-true low b both.0, leb-true b high both.1)

-- what is no decimal digit counts ten or more
counts_more : (b : ℕ) → within 48 57 b ≡ false → 10 ≤ digit_of b
unfolding digit_of
counts_more b e = rw e (by_case (within 97 102 b) (within 65 70 b) refl refl)
  where
    by_case : (s u : Bool) → within 97 102 b ≡ s → within 65 70 b ≡ u → 10 ≤ cond s (b - 87) (cond u (b - 55) 99)
    by_case true u es eu = omega (arith, within_true 97 102 b es)
    by_case false true es eu = omega (arith, within_true 65 70 b eu)
    by_case false false es eu = omega arith

pub digit_counts : (b : ℕ) → 48 ≤ b → b ≤ 57 → digit_of b ≡ b - 48
unfolding digit_of
digit_counts b low high = rw (le-leb 48 b low, le-leb b 57 high)

pub digit_true : (b : ℕ) → 48 ≤ b → b ≤ 57 → digit b ≡ true
digit_true b low high = rw (digit_counts b low high) (lt-ltb (b - 48) 10 (omega arith))

pub digit_false : (b : ℕ) → (ltb b 48 || ltb 57 b) ≡ true → digit b ≡ false
digit_false b e = le-ltb (digit_of b) 10 (counts_more b (by_test (ltb b 48) refl e))
  where
    by_test : (u : Bool) → ltb b 48 ≡ u → (u || ltb 57 b) ≡ true → within 48 57 b ≡ false
    by_test true eu h = rw (lt-leb 48 b (ltb-true b 48 eu))
    by_test false eu h = rw (le-leb 48 b (ltb-false b 48 eu), lt-leb b 57 (ltb-true 57 b h))

-- std's digits are these
pub digit_ascii : (b : ℕ) → is_ascii_digit b ≡ digit b
digit_ascii b = by_test (within 48 57 b) refl
  where
    by_test : (t : Bool) → within 48 57 b ≡ t → is_ascii_digit b ≡ digit b
    by_test true e = let both = within_true 48 57 b e in e ∙ sym (digit_true b both.0 both.1)
    by_test false e = e ∙ sym (le-ltb (digit_of b) 10 (counts_more b e))

pub digit_bounds : (b : ℕ) → digit b ≡ true → (48 ≤ b) × (b ≤ 57)
digit_bounds b e = by_test (within 48 57 b) refl
  where
    by_test : (t : Bool) → within 48 57 b ≡ t → (48 ≤ b) × (b ≤ 57)
    by_test true h = within_true 48 57 b h
    by_test false h = let more = counts_more b h in let less = ltb-true (digit_of b) 10 e in absurd (omega arith)

-- ---- runs

pub digits_cons : (b : ℕ) (bs : List ℕ) → digits (b ∷ bs) ≡ (digit b && digits bs)
unfolding run
digits_cons b bs = by_test (digit b)
  where
    by_test : (t : Bool) → eqb (cond t (suc (run digit bs)) 0) (suc (length bs)) ≡ (t && digits bs)
    by_test true = eqb-suc-suc (run digit bs) (length bs)
    by_test false = eqb-zero-suc (length bs)

pub digits_none : digits [] ≡ true
unfolding run
digits_none = refl

pub digits_append : (xs ys : List ℕ) → digits (xs ++ ys) ≡ (digits xs && digits ys)
digits_append [] ys = rw digits_none
digits_append (x ∷ xs) ys = rw (digits_cons x (xs ++ ys), digits_cons x xs, digits_append xs ys) (sym (and_assoc (digit x) (digits xs) (digits ys)))

pub digits_both : (b : ℕ) (bs : List ℕ) → digits (b ∷ bs) ≡ true → (digit b ≡ true) × (digits bs ≡ true)
digits_both b bs e = (and-eq-true_iff (digit b) (digits bs)).0 (sym (digits_cons b bs) ∙ e)

pub digits_at : (t : List ℕ) (i : ℕ) → digits t ≡ true → i < length t → digit (get_or t i 0) ≡ true
digits_at [] i e h = absurd (omega arith)
digits_at (x ∷ xs) zero e h = (digits_both x xs e).0
digits_at (x ∷ xs) (suc i) e h = digits_at xs i (digits_both x xs e).1 (omega arith)

-- the run itself is all digits
pub run_digits : (t : List ℕ) → digits (take (run digit t) t) ≡ true
unfolding run
run_digits [] = refl
run_digits (x ∷ xs) = by_test (run_digits xs) (digit x) refl
  where
    by_test : digits (take (run digit xs) xs) ≡ true → (t : Bool) → digit x ≡ t → digits (take (cond t (suc (run digit xs)) 0) (x ∷ xs)) ≡ true
    by_test rest true e = digits_cons x (take (run digit xs) xs) ∙ (rw (e, rest))
    by_test rest false e = digits_none

-- ---- the number

from_append : (v : ℕ) (xs ys : List ℕ) → numeral_from 10 v (xs ++ ys) ≡ numeral_from 10 (numeral_from 10 v xs) ys
unfolding numeral_from
from_append v [] ys = refl
from_append v (x ∷ xs) ys = from_append (v * 10 + digit_of x) xs ys

-- what stands before digits counts ten times as much for each of them
from_zero : (v : ℕ) (s : List ℕ) → numeral_from 10 v s ≡ v * 10 ^ length s + decimal s
unfolding numeral_from
from_zero v [] = rw (pow-zero 10) (omega arith)
from_zero v (b ∷ bs) =
    let step : numeral_from 10 (v * 10 + digit_of b) bs ≡ (v * 10 + digit_of b) * 10 ^ length bs + decimal bs = from_zero (v * 10 + digit_of b) bs in
    let alone : numeral_from 10 (0 * 10 + digit_of b) bs ≡ (0 * 10 + digit_of b) * 10 ^ length bs + decimal bs = from_zero (0 * 10 + digit_of b) bs in
    let power : 10 ^ suc (length bs) ≡ 10 ^ length bs * 10 = pow-suc 10 (length bs) in
    rw power (omega arith)

pub decimal_append : (xs ys : List ℕ) → decimal (xs ++ ys) ≡ decimal xs * 10 ^ length ys + decimal ys
decimal_append xs ys = from_append 0 xs ys ∙ from_zero (decimal xs) ys

decimal_cons : (b : ℕ) (bs : List ℕ) → decimal (b ∷ bs) ≡ digit_of b * 10 ^ length bs + decimal bs
unfolding numeral_from
decimal_cons b bs = rw (zero-mul, zero-add) (from_zero (digit_of b) bs)

pub decimal_none : decimal [] ≡ 0
unfolding numeral_from
decimal_none = refl

pub decimal_snoc : (s : List ℕ) (b : ℕ) → decimal (s ++ (b ∷ [])) ≡ decimal s * 10 + digit_of b
unfolding numeral_from
decimal_snoc s b = from_append 0 s (b ∷ [])

-- one digit more
pub decimal_more : (s : List ℕ) (i : ℕ) → i < length s → decimal (take (i + 1) s) ≡ decimal (take i s) * 10 + digit_of (get_or s i 0)
decimal_more s i h = rw (add-one, take-suc s i 0) (decimal_snoc (take i s) (get_or s i 0))

pub decimal_below : (s : List ℕ) → digits s ≡ true → decimal s < 10 ^ length s
unfolding numeral_from
decimal_below [] e = lit< tt
decimal_below (b ∷ bs) e =
    let both = digits_both b bs e in
    rw (decimal_cons b bs, pow-suc 10 (length bs), mul_comm (10 ^ length bs) 10)
    (digits_lt {q = digit_of b} {m = 10} {c = 10 ^ length bs} (ltb-true (digit_of b) 10 both.0) (decimal_below bs both.1))

-- ---- a loop that reads digits

pub digit_there : (t : List ℕ) (i : ℕ) → digits t ≡ true → i < length t → (48 ≤ get_or t i 0) × (get_or t i 0 ≤ 57)
digit_there t i e h = digit_bounds (get_or t i 0) (digits_at t i e h)

-- before the last of eighteen digits there is room for one more
pub digit_room : (v i : ℕ) → v < 10 ^ i → i < 18 → v < 10 ^ 17
digit_room v i h few = lt_of_lt_of_le h (pow-le-pow_right (lit< tt) {i = i} {j = 17} (omega arith))

pub decimal_step : (t : List ℕ) (i v : ℕ) → digits t ≡ true → i < length t → v ≡ decimal (take i t) → v < 10 ^ i
    → (v * 10 + (get_or t i 0 - 48) ≡ decimal (take (i + 1) t)) × (v * 10 + (get_or t i 0 - 48) < 10 ^ (i + 1))
decimal_step t i v e h read small =
    let there = digit_there t i e h in
    let counts : digit_of (get_or t i 0) ≡ get_or t i 0 - 48 = digit_counts (get_or t i 0) there.0 there.1 in
    let power : 10 ^ (i + 1) ≡ 10 ^ i * 10 = ap (λ (k : ℕ). 10 ^ k) (add-one i) ∙ pow-suc 10 i in
    (rw (read, decimal_more t i h, counts), rw power (omega arith))
