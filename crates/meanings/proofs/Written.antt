-- A number that is written as a text is what the text means, and a text of a field is filled up from what its trailing spaces leave.
-- Assumes nothing.
use mathlib.Core.Path.{◌≡◌, refl, sym, ap, ◌∙◌}
use mathlib.Core.Logic.{◌⊎◌, inl, inr}
use mathlib.Core.Bool.{Bool, true, false, cond, ◌&&◌, or-true, and-eq-true_iff}
use mathlib.Core.List.{List, [], ◌∷◌, ◌++◌, append_assoc}
use Prim.Native.Nat.{ℕ, zero, suc, ◌+◌, ◌-◌, ◌/◌, ◌%◌, ◌^◌, ◌≤◌, ◌<◌}
use native.Mathlib.Nat.{pow-zero, pow-suc, pow-le-pow_right, sub-zero, suc-sub-suc}
use native.Mathlib.Omega.{arith}
use lib.Arith.{mod-mul}
use lib.Dec.{eqb, lit<}
use lib.ListN.{length, take, drop, replicate, length-append, replicate-append-replicate}
use lib.Seq.{take_at, get_or_at}
use borrow.Author.Tests.{lt-ltb, le-leb, eqb-true}
use Rattle.std.specs.Prelude.{Some}
use Rattle.wire.proofs.Sides.{le_or_lt}
use Rattle.letters.specs.Places.{byte_at, run}
use Rattle.letters.specs.References.{digit_of}
use Rattle.wording.specs.Wording.{is_space, kept, trimmed}
use Rattle.wording.proofs.Laws.{kept_within}
use Rattle.decimals.specs.Decimal.{digit as shown, digits_of, decimal as printed}
use Rattle.decimals.proofs.Decimals.{one_digit, more_digits, width_one, width_more, digits_length}
use Rattle.decimals.proofs.Lengths.{decimal_short}
use Rattle.meanings.specs.Meanings.{digit, digits, decimal, is_number, number_meant, wholes, parts, cents, amount_digits, is_amount, amount_meant, date_digits, is_date, date_number, date_meant, filled}
use Rattle.meanings.specs.Written.{decimal_text, amount_text, date_text}
use Rattle.meanings.proofs.Decimals.{digit_counts, digit_true, digit_false, digits_cons, digits_none, digits_both, digits_append, decimal_none, decimal_snoc, decimal_append}

-- ---- one digit

shown_digit : (n : ℕ) → digit (shown n) ≡ true
shown_digit n = digit_true (48 + n % 10) (omega arith) (omega arith)

shown_counts : (n : ℕ) → digit_of (shown n) ≡ n % 10
shown_counts n = digit_counts (48 + n % 10) (omega arith) (omega arith) ∙ omega arith

one_more_lem : (xs : List ℕ) (n : ℕ) → digits xs ≡ true → digits (xs ++ (shown n ∷ [])) ≡ true
one_more_lem xs n e = digits_append xs (shown n ∷ []) ∙ (rw (e, digits_cons (shown n) [], shown_digit n, digits_none))

-- ---- so many digits

pub shown_digits : (k n : ℕ) → digits (digits_of k n) ≡ true
unfolding digits_of
shown_digits zero n = digits_none
shown_digits (suc k) n = one_more_lem (digits_of k (n / 10)) n (shown_digits k (n / 10))

pub shown_number : (k n : ℕ) → decimal (digits_of k n) ≡ n % 10 ^ k
unfolding digits_of
shown_number zero n = decimal_none ∙ sym (rw (pow-zero 10) (omega arith))
shown_number (suc k) n =
    decimal_snoc (digits_of k (n / 10)) (shown n)
    ∙ (rw (shown_number k (n / 10), shown_counts n, pow-suc 10 k)
    (sym (mod-mul n {m = 10 ^ k} {c = 10} (pow-le-pow_right (lit< tt) {i = 0} {j = k} (omega arith)) (lit< tt))))

-- ---- all digits

-- a bound that the recursion on a tenth goes down by
printed_by : (k n : ℕ) → n < k → (digits (printed n) ≡ true) × (decimal (printed n) ≡ n) × (1 ≤ length (printed n))
printed_by zero n h = absurd (omega arith)
printed_by (suc k) n h = by_size (printed_by k (n / 10)) (le_or_lt 10 n)
  where
    by_size : (n / 10 < k → (digits (printed (n / 10)) ≡ true) × (decimal (printed (n / 10)) ≡ n / 10) × (1 ≤ length (printed (n / 10))))
        → (10 ≤ n) ⊎ (n < 10) → (digits (printed n) ≡ true) × (decimal (printed n) ≡ n) × (1 ≤ length (printed n))
    by_size rest (inl long) =
        let tenth = rest (omega arith) in
        let width = width_more n long in (
          rw (more_digits n long) (one_more_lem (printed (n / 10)) n tenth.0),
          rw (more_digits n long) (decimal_snoc (printed (n / 10)) (shown n) ∙ (rw (tenth.1, shown_counts n) (omega arith))),
          omega arith,
        )
    by_size rest (inr short) =
        let width = width_one n short in (
          rw (one_digit n short) (one_more_lem [] n digits_none),
          rw (one_digit n short) (decimal_snoc [] (shown n) ∙ (rw (decimal_none, shown_counts n) (omega arith))),
          omega arith,
        )

pub printed_digits : (n : ℕ) → digits (printed n) ≡ true
printed_digits n = (printed_by (suc n) n (omega arith)).0

pub printed_number : (n : ℕ) → decimal (printed n) ≡ n
printed_number n = (printed_by (suc n) n (omega arith)).1

pub printed_some : (n : ℕ) → 1 ≤ length (printed n)
printed_some n = (printed_by (suc n) n (omega arith)).2

-- ---- numbers

pub number_written : (n : ℕ) → n < 10 ^ 15 → number_meant (decimal_text n) ≡ Some n
unfolding is_number
number_written n h =
    let short = decimal_short 14 n h in
    rw (printed_digits n, le-leb 1 (length (printed n)) (printed_some n), le-leb (length (printed n)) 15 short, printed_number n)

-- ---- amounts

-- the run of digits goes up to the first byte that is none
run_upto : (xs : List ℕ) (b : ℕ) (ys : List ℕ) → digits xs ≡ true → digit b ≡ false → run digit (xs ++ (b ∷ ys)) ≡ length xs
unfolding run
run_upto [] b ys e stop = rw stop
run_upto (x ∷ xs) b ys e stop = let both = digits_both x xs e in rw (both.0, run_upto xs b ys both.1 stop)

drop_past : (xs : List ℕ) (b : ℕ) (ys : List ℕ) → drop (suc (length xs)) (xs ++ (b ∷ ys)) ≡ ys
drop_past [] b ys = refl
drop_past (x ∷ xs) b ys = drop_past xs b ys

amount_of_lem : (t : List ℕ) (n : ℕ) → byte_at t (run digit t) ≡ 46 → digits (parts t) ≡ true → length (parts t) ≤ 2 → 1 ≤ amount_digits t → amount_digits t ≤ 18
    → cents t ≡ n → n < 2 ^ 64 → amount_meant t ≡ Some n
unfolding is_amount
amount_of_lem t n point all few some short value fits =
    rw (point, or-true (digits t), all, le-leb (length (parts t)) 2 few, le-leb 1 (amount_digits t) some, le-leb (amount_digits t) 18 short, value, lt-ltb n (2 ^ 64) fits)

pub amount_written : (n : ℕ) → n < 10 ^ 18 → amount_meant (amount_text n) ≡ Some n
unfolding amount_text cents
amount_written n h =
    let t = amount_text n in
    let w = printed (n / 100) in
    let p = digits_of 2 n in
    let stops : run digit t ≡ length w = run_upto w 46 p (printed_digits (n / 100)) (digit_false 46 refl) in
    let front : wholes t ≡ w = ap (λ (k : ℕ). take k t) stops ∙ take_at w (46 ∷ p) (length w) refl in
    let back : parts t ≡ p = ap (λ (k : ℕ). drop (suc k) t) stops ∙ drop_past w 46 p in
    let point : byte_at t (run digit t) ≡ 46 = ap (byte_at t) stops ∙ get_or_at w 46 p 0 (length w) refl in
    let two : length p ≡ 2 = digits_length 2 n in
    let long : length w ≤ 16 = decimal_short 15 (n / 100) (omega arith) in
    let count : amount_digits t ≡ length w + 2 = rw (front, back, two) in
    let padded : take 2 (p ++ replicate 2 48) ≡ p = take_at p (replicate 2 48) 2 two in
    let value : cents t ≡ n = rw (front, back, padded, printed_number (n / 100), shown_number 2 n) (omega arith) in
    amount_of_lem t n point (rw back (shown_digits 2 n)) (rw back (omega arith)) (omega arith) (omega arith) value (omega arith)

-- ---- dates

date_of_lem : (t : List ℕ) (n : ℕ) → length t ≡ 10 → digits (date_digits t) ≡ true → byte_at t 4 ≡ 45 → byte_at t 7 ≡ 45 → date_number t ≡ n → date_meant t ≡ Some n
unfolding is_date
date_of_lem t n long all first second value = rw (long, all, first, second, value)

module _ (n : ℕ) where
  eight : date_digits (date_text n) ≡ digits_of 4 (n / 10000) ++ (digits_of 2 (n / 100) ++ digits_of 2 n)
  unfolding date_text digits_of
  eight = refl

  ten : length (date_text n) ≡ 10
  unfolding date_text digits_of
  ten = refl

  first_dash : byte_at (date_text n) 4 ≡ 45
  unfolding date_text digits_of
  first_dash = refl

  second_dash : byte_at (date_text n) 7 ≡ 45
  unfolding date_text digits_of
  second_dash = refl

pub date_written : (n : ℕ) → n < 10 ^ 8 → date_meant (date_text n) ≡ Some n
date_written n h =
    let y = digits_of 4 (n / 10000) in
    let m = digits_of 2 (n / 100) in
    let d = digits_of 2 n in
    let all : digits (date_digits (date_text n)) ≡ true =
    ap digits (eight n) ∙ digits_append y (m ++ d) ∙ (rw (digits_append m d, shown_digits 4 (n / 10000), shown_digits 2 (n / 100), shown_digits 2 n)) in
    let four : length (m ++ d) ≡ 4 = length-append m d ∙ (rw (digits_length 2 (n / 100), digits_length 2 n)) in
    let value : date_number (date_text n) ≡ n =
    ap decimal (eight n) ∙ decimal_append y (m ++ d)
    ∙ (rw (four, decimal_append m d, digits_length 2 n, shown_number 4 (n / 10000), shown_number 2 (n / 100), shown_number 2 n) (omega arith)) in
    date_of_lem (date_text n) n (ten n) all (first_dash n) (second_dash n) value

-- ---- texts

-- what is left, with the spaces that were dropped
spaces_back : (t : List ℕ) → trimmed t ++ replicate (length t - kept t) 32 ≡ t
unfolding kept
spaces_back [] = refl
spaces_back (c ∷ cs) = by_test (spaces_back cs) (eqb (kept cs) 0 && is_space c) refl
  where
    by_test : take (kept cs) cs ++ replicate (length cs - kept cs) 32 ≡ cs → (b : Bool) → (eqb (kept cs) 0 && is_space c) ≡ b
        → take (cond b 0 (suc (kept cs))) (c ∷ cs) ++ replicate (suc (length cs) - cond b 0 (suc (kept cs))) 32 ≡ c ∷ cs
    by_test rest true e =
        let both = (and-eq-true_iff (eqb (kept cs) 0) (is_space c)).0 e in
        let none : kept cs ≡ 0 = eqb-true (kept cs) 0 both.0 in
        let space : c ≡ 32 = eqb-true c 32 both.1 in
        let all : replicate (length cs) 32 ≡ cs = rw (none, sub-zero) at rest in
        rw (space, sub-zero) (ap (λ (r : List ℕ). 32 ∷ r) all)
    by_test rest false e = rw suc-sub-suc (ap (λ (r : List ℕ). c ∷ r) rest)

abbrev spaces : ℕ → List ℕ
spaces k = replicate k 32

pub filled_trimmed : (n : ℕ) (t : List ℕ) → length t ≡ n → filled n (trimmed t) ≡ t
filled_trimmed n t e =
    let within = kept_within t in
    let dropped = length t - kept t in
    let split : n ≡ dropped + kept t = omega arith in
    ap (λ (k : ℕ). take n (trimmed t ++ spaces k)) split
    ∙ (rw (← (replicate-append-replicate {A = ℕ} dropped (kept t) 32), ← (append_assoc (trimmed t) (spaces dropped) (spaces (kept t))), spaces_back t)
    (take_at t (spaces (kept t)) n e))
