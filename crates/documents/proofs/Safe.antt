-- What is spelled is made of bytes and holds no '>', so that the end of a section never stands in it. Assumes nothing.
use mathlib.Core.Path.{◌≡◌, refl, sym, ◌∙◌}
use mathlib.Core.Logic.{◌⊎◌, inl, inr}
use mathlib.Core.Bool.{Bool, true, false, cond, not, ◌&&◌, and-eq-true_iff, and-false, false≢true}
use mathlib.Core.List.{List, [], ◌∷◌, ◌++◌}
use Prim.Native.Nat.{ℕ, zero, suc, ◌-◌, ◌≤◌, ◌<◌}
use native.Mathlib.Omega.{arith}
use lib.Dec.{leb, ltb, eqb}
use lib.ListN.{length, take}
use lib.Seq.{take-append_seam, drop-append_seam}
use borrow.Author.Tests.{le-leb, lt-leb, le-ltb, lt-ltb, ltb-true, ne_eqb, not-true}
use Rattle.wire.specs.Field.{same}
use Rattle.wire.specs.Places.{every_from}
use Rattle.wire.proofs.Scans.{every_holds}
use Rattle.wire.proofs.Sides.{le_or_lt}
use Rattle.letters.specs.Places.{within}
use Rattle.letters.specs.Characters.{single, width_at}
use Rattle.letters.specs.References.{digit_of, digit_in}
use Rattle.letters.proofs.Characters.{within_true, width_first}
use Rattle.decimals.specs.Decimal.{digits_of, decimal_in, decimal}
use Rattle.documents.specs.Spelling.{Way, itself, decimally, hexadecimally, by_name, hexadecimal_in, number_in, spelled_by, long_by, Spelling, spelled_in}
use Rattle.documents.specs.Carried.{characters_by}
use Rattle.documents.proofs.Here.{all, all_append, all_weaker}
use Rattle.documents.proofs.Numbers.{Numbered}
use Rattle.documents.proofs.Referred.{decimal_all, hexadecimal_all}
use Rattle.documents.proofs.Firsts.{high, First, short, long, first_of}

-- ---- one character of a text that is spelled, and the others

pub single_small : (a : ℕ) → single a ≡ true → a < 128
single_small a e = by_size (le_or_lt 128 a)
  where
    by_size : (128 ≤ a) ⊎ (a < 128) → a < 128
    by_size (inl big) =
        absurd (false≢true (sym (rw (ne_eqb a 9 (λ z. omega arith), ne_eqb a 10 (λ z. omega arith), ne_eqb a 13 (λ z. omega arith), le-leb 32 a (omega arith), lt-leb a 127 (omega arith))) ∙ e))
    by_size (inr small) = small

module _ (how : Spelling) (n : ℕ) where
  pub short_spelled : (a : ℕ) (more : List ℕ) → single a ≡ true → spelled_in how (suc n) (a ∷ more) ≡ spelled_by (how (a ∷ more)) a ++ spelled_in how n more
  unfolding spelled_in
  short_spelled a more one = let width = width_first (a ∷ more) 0 one in rw (← width, lt-ltb a 128 (single_small a one))

  pub long_spelled : (a : ℕ) (bs more : List ℕ) → all high (a ∷ bs) ≡ true → width_at (a ∷ (bs ++ more)) 0 ≡ suc (length bs)
      → spelled_in how (suc n) (a ∷ (bs ++ more)) ≡ long_by (how (a ∷ (bs ++ more))) (a ∷ bs) ++ spelled_in how n more
  unfolding spelled_in all
  long_spelled a bs more highs wide =
      let big = (within_true 128 255 a ((and-eq-true_iff (high a) (all high bs)).0 highs).0).0 in
      rw (wide, le-ltb a 128 big, take-append_seam bs more, drop-append_seam bs more)

-- ---- bytes that are no '>'

abbrev pub safe : ℕ → Bool
safe b = leb b 255 && not (eqb b 62)

small_safe : (b : ℕ) → b ≤ 255 → (b ≡ 62 → ⊥) → safe b ≡ true
small_safe b h other = rw (le-leb b 255 h, ne_eqb b 62 other)

high_safe : (b : ℕ) → high b ≡ true → safe b ≡ true
high_safe b e = let is = within_true 128 255 b e in small_safe b is.1 (λ z. omega arith)

digit_safe : (b : ℕ) → digit_in 16 b ≡ true → safe b ≡ true
unfolding digit_of
digit_safe b e = by_test (within 48 57 b) (within 97 102 b) (within 65 70 b) refl refl refl e
  where
    by_test : (p q r : Bool) → within 48 57 b ≡ p → within 97 102 b ≡ q → within 65 70 b ≡ r → ltb (cond p (b - 48) (cond q (b - 87) (cond r (b - 55) 99))) 16 ≡ true → safe b ≡ true
    by_test true q r f g h e = let is = within_true 48 57 b f in small_safe b (omega arith) (λ z. omega arith)
    by_test false true r f g h e = let is = within_true 97 102 b g in small_safe b (omega arith) (λ z. omega arith)
    by_test false false true f g h e = let is = within_true 65 70 b h in small_safe b (omega arith) (λ z. omega arith)
    by_test false false false f g h e = absurd (false≢true e)

decimal_safe : (b : ℕ) → digit_in 10 b ≡ true → safe b ≡ true
decimal_safe b e = let h = ltb-true (digit_of b) 10 e in digit_safe b (lt-ltb (digit_of b) 16 (omega arith))

-- ---- one character

every_safe : (w : Way) → every_from (λ c. all safe (spelled_by w c)) 128 0 ≡ true
unfolding every_from all spelled_by decimal decimal_in digits_of hexadecimal_in
every_safe itself = refl
every_safe decimally = refl
every_safe hexadecimally = refl
every_safe by_name = refl

short_safe : (w : Way) (c : ℕ) → c < 128 → all safe (spelled_by w c) ≡ true
short_safe w c small = every_holds (λ c. all safe (spelled_by w c)) 128 0 c (every_safe w) (omega arith) (omega arith)

module _ (bytes : List ℕ) (highs : all high bytes ≡ true) (numbered : Numbered bytes) where
  long_safe : (w : Way) → all safe (long_by w bytes) ≡ true
  unfolding long_by all
  long_safe itself = all_weaker high safe high_safe bytes highs
  long_safe decimally =
      let ds = decimal (number_in bytes) in
      all_append safe ds (59 ∷ []) (all_weaker (digit_in 10) safe decimal_safe ds (decimal_all (number_in bytes))) refl
  long_safe hexadecimally =
      let ds = hexadecimal_in 6 (number_in bytes) in
      all_append safe ds (59 ∷ []) (all_weaker (digit_in 16) safe digit_safe ds (hexadecimal_all (number_in bytes) numbered.character)) refl
  long_safe by_name = all_weaker high safe high_safe bytes highs

-- ---- a text

pub spelled_safe : (how : Spelling) (n : ℕ) (t : List ℕ) → characters_by n t ≡ true → all safe (spelled_in how n t) ≡ true
unfolding spelled_in all
spelled_safe how zero t e = refl
spelled_safe how (suc n) t e = by_list (spelled_safe how n) t e
  where
    by_first : ((t : List ℕ) → characters_by n t ≡ true → all safe (spelled_in how n t) ≡ true) → (t : List ℕ) → First n t → all safe (spelled_in how (suc n) t) ≡ true
    by_first rest t (short a more is one behind) =
        rw (is, short_spelled how n a more one) (all_append safe (spelled_by (how (a ∷ more)) a) (spelled_in how n more) (short_safe (how (a ∷ more)) a (single_small a one)) (rest more behind))
    by_first rest t (long a bs more is highs wide numbered behind) =
        let way = how (a ∷ (bs ++ more)) in
        rw (is, long_spelled how n a bs more highs (wide (a ∷ (bs ++ more)) 0 more refl)) (all_append safe (long_by way (a ∷ bs)) (spelled_in how n more) (long_safe (a ∷ bs) highs numbered way) (rest more behind))

    by_list : ((t : List ℕ) → characters_by n t ≡ true → all safe (spelled_in how n t) ≡ true) → (t : List ℕ) → characters_by (suc n) t ≡ true → all safe (spelled_in how (suc n) t) ≡ true
    by_list rest [] e = refl
    by_list rest (a ∷ t) e = by_first rest (a ∷ t) (first_of n a t e)

unended : (xs ys : List ℕ) → all safe xs ≡ true → same (take 2 (xs ++ (60 ∷ ys))) (93 ∷ 62 ∷ []) ≡ false
unfolding all same
unended [] ys h = refl
unended (x ∷ []) ys h = and-false (eqb x 93)
unended (x ∷ y ∷ xs) ys h =
    let rest = ((and-eq-true_iff (safe x) (safe y && all safe xs)).0 h).1 in
    let second = ((and-eq-true_iff (safe y) (all safe xs)).0 rest).0 in
    let not_end : eqb y 62 ≡ false = not-true (eqb y 62) ((and-eq-true_iff (leb y 255) (not (eqb y 62))).0 second).1 in
    rw not_end (and-false (eqb x 93))

pub spelled_unended : (how : Spelling) (n : ℕ) (t ys : List ℕ) → characters_by n t ≡ true → same (take 2 (spelled_in how n t ++ (60 ∷ ys))) (93 ∷ 62 ∷ []) ≡ false
spelled_unended how n t ys e = unended (spelled_in how n t) ys (spelled_safe how n t e)
