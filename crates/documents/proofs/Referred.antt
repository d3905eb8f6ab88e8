-- A reference by number stands for its character, at any place of a text. Assumes nothing.
use mathlib.Core.Path.{◌≡◌, refl, sym, ap, ◌∙◌}
use mathlib.Core.Logic.{◌⊎◌, inl, inr}
use mathlib.Core.Bool.{Bool, true, false, cond, and-eq-true_iff, false≢true}
use mathlib.Core.List.{List, [], ◌∷◌, ◌++◌, append_assoc}
use Prim.Native.Nat.{ℕ, zero, suc, ◌+◌, ◌*◌, ◌/◌, ◌%◌, ◌^◌, ◌≤◌, ◌<◌}
use native.Mathlib.Nat.{pow-suc, pow-zero}
use native.Mathlib.Omega.{arith}
use lib.Dec.{eqb, ltb}
use lib.ListN.{length, take, drop, length-append}
use borrow.Author.Tests.{eqb-true, lt-ltb, le-ltb, ne_eqb}
use Rattle.wire.specs.Field.{same}
use Rattle.wire.specs.Places.{every_from}
use Rattle.wire.proofs.Scans.{every_holds}
use Rattle.wire.proofs.Sides.{le_or_lt}
use Rattle.letters.specs.Places.{byte_at, run_end, between}
use Rattle.letters.specs.Characters.{is_character}
use Rattle.letters.specs.References.{digit_of, digit_in, numeral_from, numeral, numbered_at, reference_at, refers}
use Rattle.letters.proofs.Characters.{character_high}
use Rattle.decimals.specs.Decimal.{decimal}
use Rattle.meanings.specs.Meanings.{digits}
use Rattle.meanings.proofs.Decimals.{digits_both}
use Rattle.meanings.proofs.Written.{printed_digits, printed_number, printed_some}
use Rattle.documents.specs.Spelling.{hexadecimal_digit, hexadecimal_in, decimal_reference, hexadecimal_reference}
use Rattle.documents.proofs.Here.{byte_here, skip_here, all, all_append, run_here, between_here}

-- ---- a number and a semicolon

module _ (base : ℕ) (s : List ℕ) (at : ℕ) (ds ys : List ℕ) (are : all (digit_in base) ds ≡ true) (stop : digit_in base 59 ≡ false) (some : 0 < length ds)
    (known : is_character (numeral base ds) ≡ true) (e : drop at s ≡ ds ++ (59 ∷ ys)) where
  numbered_here : numbered_at base s at ≡ refers (numeral base ds) (at + length ds + 1)
  unfolding numbered_at
  numbered_here =
      let ends : run_end (digit_in base) s at ≡ at + length ds = run_here (digit_in base) s at ds 59 ys are stop e in
      let there : between s at (run_end (digit_in base) s at) ≡ ds = between_here (digit_in base) s at ds 59 ys are stop e in
      let digits_there : between s at (at + length ds) ≡ ds = rw ends at there in
      let semicolon : byte_at s (at + length ds) ≡ 59 = byte_here s (at + length ds) 59 ys (skip_here s at ds (59 ∷ ys) e) in
      rw (ends, lt-ltb at (at + length ds) (omega arith), semicolon, digits_there, known)

-- ---- which reference it is

module _ (s : List ℕ) (at : ℕ) where
  by_third : (b : Bool) (left : List ℕ) → drop at s ≡ 38 ∷ 35 ∷ left → same (take 1 left) (120 ∷ []) ≡ b
      → reference_at s at ≡ cond b (numbered_at 16 s (at + 3)) (numbered_at 10 s (at + 2))
  unfolding reference_at same
  by_third b left e third = rw (e, third)

-- ---- in decimal digits

digits_all : (t : List ℕ) → digits t ≡ true → all (digit_in 10) t ≡ true
unfolding all
digits_all [] e = refl
digits_all (b ∷ bs) e = let both = digits_both b bs e in rw both.0 (digits_all bs both.1)

pub decimal_all : (c : ℕ) → all (digit_in 10) (decimal c) ≡ true
decimal_all c = digits_all (decimal c) (printed_digits c)

no_x : (ds ys : List ℕ) → all (digit_in 10) ds ≡ true → 0 < length ds → same (take 1 (ds ++ ys)) (120 ∷ []) ≡ false
unfolding all same digit_of
no_x [] ys e some = absurd (omega arith)
no_x (d ∷ ds) ys e some =
    let first = ((and-eq-true_iff (digit_in 10 d) (all (digit_in 10) ds)).0 e).0 in
    rw (ne_eqb d 120 (λ (z : d ≡ 120). false≢true (sym (ap (digit_in 10) z) ∙ first)))

module _ (s : List ℕ) (at c : ℕ) (ys : List ℕ) (known : is_character c ≡ true) where
  pub decimal_refers : drop at s ≡ decimal_reference c ++ ys → reference_at s at ≡ refers c (at + length (decimal_reference c))
  unfolding digit_of
  decimal_refers e =
      let ds = decimal c in
      let some : 0 < length ds = (let h = printed_some c in omega arith) in
      let here : drop at s ≡ 38 ∷ 35 ∷ (ds ++ (59 ∷ ys)) = e ∙ ap (λ (l : List ℕ). 38 ∷ 35 ∷ l) (append_assoc ds (59 ∷ []) ys) in
      let inside : drop (at + 2) s ≡ ds ++ (59 ∷ ys) = skip_here s at (38 ∷ 35 ∷ []) (ds ++ (59 ∷ ys)) here in
      let value : numeral 10 ds ≡ c = printed_number c in
      let long : length (ds ++ (59 ∷ [])) ≡ length ds + 1 = length-append ds (59 ∷ []) in
      let told = numbered_here 10 s (at + 2) ds ys (decimal_all c) refl some (rw value known) inside in
      let next : at + 2 + length ds + 1 ≡ at + length (decimal_reference c) = omega arith in
      by_third s at false (ds ++ (59 ∷ ys)) here (no_x ds (59 ∷ ys) (decimal_all c) some) ∙ told ∙ (rw (value, next))

-- ---- in hexadecimal ones

every_counts : every_from (λ d. eqb (digit_of (hexadecimal_digit d)) d) 16 0 ≡ true
unfolding every_from digit_of
every_counts = refl

hexadecimal_counts : (d : ℕ) → d < 16 → digit_of (hexadecimal_digit d) ≡ d
hexadecimal_counts d h = eqb-true (digit_of (hexadecimal_digit d)) d (every_holds (λ d. eqb (digit_of (hexadecimal_digit d)) d) 16 0 d every_counts (omega arith) (omega arith))

hexadecimal_in_lem : (d : ℕ) → d < 16 → digit_in 16 (hexadecimal_digit d) ≡ true
hexadecimal_in_lem d h = rw (hexadecimal_counts d h) (lt-ltb d 16 h)

numeral_snoc : (base v : ℕ) (xs : List ℕ) (b : ℕ) → numeral_from base v (xs ++ (b ∷ [])) ≡ numeral_from base v xs * base + digit_of b
unfolding numeral_from
numeral_snoc base v [] b = refl
numeral_snoc base v (x ∷ xs) b = numeral_snoc base (v * base + digit_of x) xs b

hexadecimal_told : (k n : ℕ) → n < 16 ^ k → (all (digit_in 16) (hexadecimal_in k n) ≡ true) × (numeral 16 (hexadecimal_in k n) ≡ n)
unfolding hexadecimal_in all numeral_from
hexadecimal_told zero n h = (refl, let one : 16 ^ 0 ≡ 1 = pow-zero 16 in omega arith)
hexadecimal_told (suc k) n h =
    let power : 16 ^ suc k ≡ 16 ^ k * 16 = pow-suc 16 k in
    by_size (hexadecimal_told k (n / 16) (omega arith)) (le_or_lt 16 n)
  where
    by_size : (all (digit_in 16) (hexadecimal_in k (n / 16)) ≡ true) × (numeral 16 (hexadecimal_in k (n / 16)) ≡ n / 16) → (16 ≤ n) ⊎ (n < 16)
        → (all (digit_in 16) (hexadecimal_in (suc k) n) ≡ true) × (numeral 16 (hexadecimal_in (suc k) n) ≡ n)
    by_size front (inl big) =
        let digit = hexadecimal_digit (n % 16) in
        let counts = hexadecimal_counts (n % 16) (omega arith) in
        let value : numeral 16 (hexadecimal_in k (n / 16) ++ (digit ∷ [])) ≡ n / 16 * 16 + n % 16 = numeral_snoc 16 0 (hexadecimal_in k (n / 16)) digit ∙ (rw (front.1, counts)) in
        let split : n / 16 * 16 + n % 16 ≡ n = omega arith in
        rw (le-ltb n 16 big) (
          all_append (digit_in 16) (hexadecimal_in k (n / 16)) (digit ∷ []) front.0 (rw (hexadecimal_in_lem (n % 16) (omega arith))),
          value ∙ split,
        )
    by_size front (inr small) = rw (lt-ltb n 16 small) (rw (hexadecimal_in_lem n small), (rw (hexadecimal_counts n small) (omega arith)))

hexadecimal_some : (k n : ℕ) → 0 < length (hexadecimal_in (suc k) n)
unfolding hexadecimal_in
hexadecimal_some k n = by_test (ltb n 16)
  where
    by_test : (t : Bool) → 0 < length (cond t (hexadecimal_digit n ∷ []) (hexadecimal_in k (n / 16) ++ (hexadecimal_digit (n % 16) ∷ [])))
    by_test true = omega arith
    by_test false = omega (arith, length-append (hexadecimal_in k (n / 16)) (hexadecimal_digit (n % 16) ∷ []))

module _ (c : ℕ) (known : is_character c ≡ true) where
  six : c < 16 ^ 6
  six = by_size (le_or_lt 1114112 c)
    where
      by_size : (1114112 ≤ c) ⊎ (c < 1114112) → c < 16 ^ 6
      by_size (inl h) = absurd (false≢true (sym (character_high c h) ∙ known))
      by_size (inr h) = omega arith

  pub hexadecimal_all : all (digit_in 16) (hexadecimal_in 6 c) ≡ true
  hexadecimal_all = (hexadecimal_told 6 c six).0

  pub hexadecimal_refers : (s : List ℕ) (at : ℕ) (ys : List ℕ) → drop at s ≡ hexadecimal_reference c ++ ys → reference_at s at ≡ refers c (at + length (hexadecimal_reference c))
  unfolding digit_of same
  hexadecimal_refers s at ys e =
      let ds = hexadecimal_in 6 c in
      let here : drop at s ≡ 38 ∷ 35 ∷ 120 ∷ (ds ++ (59 ∷ ys)) = e ∙ ap (λ (l : List ℕ). 38 ∷ 35 ∷ 120 ∷ l) (append_assoc ds (59 ∷ []) ys) in
      let inside : drop (at + 3) s ≡ ds ++ (59 ∷ ys) = skip_here s at (38 ∷ 35 ∷ 120 ∷ []) (ds ++ (59 ∷ ys)) here in
      let value : numeral 16 ds ≡ c = (hexadecimal_told 6 c six).1 in
      let long : length (ds ++ (59 ∷ [])) ≡ length ds + 1 = length-append ds (59 ∷ []) in
      let told = numbered_here 16 s (at + 3) ds ys hexadecimal_all refl (hexadecimal_some 5 c) (rw value known) inside in
      let next : at + 3 + length ds + 1 ≡ at + length (hexadecimal_reference c) = omega arith in
      by_third s at true (120 ∷ (ds ++ (59 ∷ ys))) here refl ∙ told ∙ (rw (value, next))
