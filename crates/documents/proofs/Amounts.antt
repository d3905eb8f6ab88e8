-- An amount that is written means itself, in each of its three forms. Assumes nothing.
use mathlib.Core.Path.{◌≡◌, refl, ap, ◌∙◌}
use mathlib.Core.Bool.{Bool, true, false, cond, ◌&&◌, ◌||◌, or-true, and-eq-true_iff}
use mathlib.Core.List.{List, [], ◌∷◌, ◌++◌}
use Prim.Native.Nat.{ℕ, suc, ◌+◌, ◌*◌, ◌/◌, ◌%◌, ◌^◌, ◌≤◌, ◌<◌}
use native.Mathlib.Omega.{arith}
use lib.Dec.{eqb, ltb}
use lib.ListN.{length, take, drop, replicate, drop_of_length-le}
use lib.Seq.{take_at, take-length, get_or_at}
use borrow.Author.Tests.{lt-ltb, le-leb, eqb-true, ltb-true}
use Rattle.std.specs.Prelude.{Some}
use Rattle.letters.specs.Places.{byte_at, run}
use Rattle.letters.specs.References.{digit_of, numeral_from}
use Rattle.decimals.specs.Decimal.{digits_of, decimal as printed}
use Rattle.decimals.proofs.Decimals.{digits_length}
use Rattle.decimals.proofs.Lengths.{decimal_short}
use Rattle.meanings.specs.Meanings.{digit, digits, decimal, wholes, parts, cents, amount_digits, is_amount, amount_meant}
use Rattle.meanings.specs.Written.{decimal_text, amount_text}
use Rattle.meanings.proofs.Decimals.{digit_false, digit_counts, digits_both, digits_none, decimal_snoc}
use Rattle.meanings.proofs.Written.{amount_written, shown_digits, shown_number, printed_digits, printed_number, printed_some}
use Rattle.documents.specs.Amounts.{carried_amount, tenths_text, euro_text}
use Rattle.documents.proofs.Here.{all, run_all}

-- ---- what makes a text an amount

amount_of_lem : (t : List ℕ) (n : ℕ) → (digits t || eqb (byte_at t (run digit t)) 46) ≡ true → digits (parts t) ≡ true → length (parts t) ≤ 2 → 1 ≤ amount_digits t → amount_digits t ≤ 18
    → cents t ≡ n → n < 2 ^ 64 → amount_meant t ≡ Some n
unfolding is_amount
amount_of_lem t n formed behind few some short value fits =
    rw (formed, behind, le-leb (length (parts t)) 2 few, le-leb 1 (amount_digits t) some, le-leb (amount_digits t) 18 short, value, lt-ltb n (2 ^ 64) fits)

-- ---- no digit behind the point

two_zeros : decimal (48 ∷ 48 ∷ []) ≡ 0
unfolding numeral_from digit_of
two_zeros = refl

whole_written : (n : ℕ) → n % 100 ≡ 0 → n < 2 ^ 64 → amount_meant (decimal_text (n / 100)) ≡ Some n
unfolding cents
whole_written n even small =
    let t = printed (n / 100) in
    let all_digits : digits t ≡ true = printed_digits (n / 100) in
    let stops : run digit t ≡ length t = eqb-true (run digit t) (length t) all_digits in
    let front : wholes t ≡ t = ap (λ (k : ℕ). take k t) stops ∙ take-length t in
    let past : length t ≤ suc (length t) = omega arith in
    let back : parts t ≡ [] = ap (λ (k : ℕ). drop (suc k) t) stops ∙ drop_of_length-le t past in
    let count : amount_digits t ≡ length t + 0 = rw (front, back) in
    let value : cents t ≡ n = rw (front, back, printed_number (n / 100), two_zeros) (omega arith) in
    amount_of_lem t n (rw all_digits) (rw back digits_none) (rw back (omega arith)) (omega (arith, printed_some (n / 100))) (omega (arith, decimal_short 17 (n / 100) (omega arith))) value small

-- ---- one digit behind it

drop_past : (xs : List ℕ) (b : ℕ) (ys : List ℕ) → drop (suc (length xs)) (xs ++ (b ∷ ys)) ≡ ys
drop_past [] b ys = refl
drop_past (x ∷ xs) b ys = drop_past xs b ys

digits_all : (t : List ℕ) → digits t ≡ true → all digit t ≡ true
unfolding all
digits_all [] e = refl
digits_all (b ∷ bs) e = let both = digits_both b bs e in rw both.0 (digits_all bs both.1)

-- a digit with a zero behind it
filled_up : (n : ℕ) → decimal (take 2 (digits_of 1 n ++ replicate 2 48)) ≡ n % 10 * 10
filled_up n =
    let one : length (digits_of 1 n) ≡ 1 = digits_length 1 n in
    ap decimal (two (digits_of 1 n) one) ∙ decimal_snoc (digits_of 1 n) 48 ∙ (rw (shown_number 1 n, zero_counts) (omega arith))
  where
    two : (xs : List ℕ) → length xs ≡ 1 → take 2 (xs ++ (48 ∷ 48 ∷ [])) ≡ xs ++ (48 ∷ [])
    two [] e = absurd (omega arith)
    two (x ∷ []) e = refl
    two (x ∷ y ∷ xs) e = absurd (omega arith)

    zero_counts : digit_of 48 ≡ 0
    zero_counts = digit_counts 48 (omega arith) (omega arith)

tenths_written : (n : ℕ) → n % 10 ≡ 0 → n < 10 ^ 19 → amount_meant (tenths_text n) ≡ Some n
unfolding tenths_text cents
tenths_written n even small =
    let t = tenths_text n in
    let w = printed (n / 100) in
    let p = digits_of 1 (n / 10) in
    let stops : run digit t ≡ length w = run_all digit w 46 p (digits_all w (printed_digits (n / 100))) (digit_false 46 refl) in
    let front : wholes t ≡ w = ap (λ (k : ℕ). take k t) stops ∙ take_at w (46 ∷ p) (length w) refl in
    let back : parts t ≡ p = ap (λ (k : ℕ). drop (suc k) t) stops ∙ drop_past w 46 p in
    let point : byte_at t (run digit t) ≡ 46 = ap (byte_at t) stops ∙ get_or_at w 46 p 0 (length w) refl in
    let one : length p ≡ 1 = digits_length 1 (n / 10) in
    let long : length w ≤ 17 = decimal_short 16 (n / 100) (omega arith) in
    let count : amount_digits t ≡ length w + 1 = rw (front, back, one) in
    let value : cents t ≡ n = rw (front, back, filled_up (n / 10), printed_number (n / 100)) (omega arith) in
    amount_of_lem t n (rw point (or-true (digits t))) (rw back (shown_digits 1 (n / 10))) (rw back (omega arith)) (omega arith) (omega arith) value (omega arith)

-- ---- whichever there is room for

module _ (n : ℕ) where
  pub euro_written : carried_amount n ≡ true → n < 2 ^ 64 → amount_meant (euro_text n) ≡ Some n
  unfolding euro_text
  euro_written carried small = by_form (ltb n (10 ^ 18)) refl (eqb (n % 100) 0) refl carried
    where
      first_held : (t : Bool) → (t || false) ≡ true → t ≡ true
      first_held true h = refl
      first_held false h = h

      by_form : (a : Bool) → ltb n (10 ^ 18) ≡ a → (c : Bool) → eqb (n % 100) 0 ≡ c → (a || (eqb (n % 10) 0 && ltb n (10 ^ 19)) || c) ≡ true
          → amount_meant (cond a (amount_text n) (cond c (decimal_text (n / 100)) (tenths_text n))) ≡ Some n
      by_form true e c f h = amount_written n (ltb-true n (10 ^ 18) e)
      by_form false e true f h = whole_written n (eqb-true (n % 100) 0 f) small
      by_form false e false f h =
          let both = (and-eq-true_iff (eqb (n % 10) 0) (ltb n (10 ^ 19))).0 (first_held (eqb (n % 10) 0 && ltb n (10 ^ 19)) h) in
          tenths_written n (eqb-true (n % 10) 0 both.0) (ltb-true n (10 ^ 19) both.1)
