-- The bytes of a character, as they stand in a text and by its number, are one character whatever follows. Assumes nothing.
use mathlib.Core.Path.{◌≡◌, refl, sym, ◌∙◌}
use mathlib.Core.Logic.{◌⊎◌, inl, inr}
use mathlib.Core.Bool.{Bool, true, false, cond, not, ◌&&◌, ◌||◌, or-true, and-eq-true_iff, false≢true}
use mathlib.Core.List.{List, [], ◌∷◌, ◌++◌}
use Prim.Native.Nat.{ℕ, suc, ◌+◌, ◌/◌, ◌%◌, ◌≤◌, ◌<◌}
use native.Mathlib.Omega.{arith}
use lib.Dec.{eqb, ltb, leb}
use lib.ListN.{length, take, drop, get_or}
use lib.Seq.{drop-append_seam, get_or-drop}
use borrow.Author.Tests.{eqb-true, ne_eqb, le-leb, lt-leb, leb-true, ltb-true}
use Rattle.wire.specs.Field.{part}
use Rattle.wire.proofs.Sides.{le_or_lt}
use Rattle.letters.specs.Characters.{is_character, encoded, single, double, triple, quadruple, width_of, width_at}
use Rattle.letters.proofs.Characters.{width_single, width_double, width_triple, width_quadruple, character_high, encoded_one, encoded_two, encoded_three, encoded_four}
use Rattle.documents.specs.Carried.{characters_by}
use Rattle.documents.proofs.Fields.{single_true}
use Rattle.documents.proofs.Firsts.{none_later, double_high, triple_high, quadruple_high}

-- ---- a character in front of others

-- these bytes are one, whatever follows
pub record Wide (xs : List ℕ) : Type 0 where
  pub some : 0 < length xs
  pub width : (ys : List ℕ) → width_at (xs ++ ys) 0 ≡ length xs

pub one_more_lem : (xs rest : List ℕ) (n : ℕ) → Wide xs → characters_by n rest ≡ true → characters_by (suc n) (xs ++ rest) ≡ true
unfolding characters_by
one_more_lem xs rest n w h =
    rw (w.width rest, ne_eqb (length xs) 0 (λ z. omega (arith, w.some)), drop-append_seam xs rest, h) (or-true (eqb (length (xs ++ rest)) 0))

module _ (a b c d : ℕ) where
  pub single_wide : single a ≡ true → Wide (a ∷ [])
  unfolding width_at
  single_wide e = record { some = omega arith; width = λ ys. sym (width_single a _ _ _ e) }

  double_wide : single a ≡ false → double a b ≡ true → Wide (a ∷ b ∷ [])
  unfolding width_at
  double_wide e f = record { some = omega arith; width = λ ys. sym (width_double a b _ _ e f) }

  triple_wide : single a ≡ false → double a b ≡ false → triple a b c ≡ true → Wide (a ∷ b ∷ c ∷ [])
  unfolding width_at
  triple_wide e f g = record { some = omega arith; width = λ ys. sym (width_triple a b c _ e f g) }

  quadruple_wide : single a ≡ false → double a b ≡ false → triple a b c ≡ false → quadruple a b c d ≡ true → Wide (a ∷ b ∷ c ∷ d ∷ [])
  unfolding width_at
  quadruple_wide e f g h = record { some = omega arith; width = λ ys. sym (width_quadruple a b c d e f g h) }

-- ---- one that stands in a text

module _ (a : ℕ) (not_one : single a ≡ false) where
  two_wide : (l : List ℕ) → double a (get_or l 0 0) ≡ true → Wide (take 2 (a ∷ l))
  two_wide [] e = absurd (none_later (double_high a 0 0 0 e).1)
  two_wide (b ∷ l) e = double_wide a b 0 0 not_one e

  three_wide : (l : List ℕ) → double a (get_or l 0 0) ≡ false → triple a (get_or l 0 0) (get_or l 1 0) ≡ true → Wide (take 3 (a ∷ l))
  three_wide [] d e = absurd (none_later (triple_high a 0 0 0 e).1)
  three_wide (b ∷ []) d e = absurd (none_later (triple_high a b 0 0 e).2)
  three_wide (b ∷ c ∷ l) d e = triple_wide a b c 0 not_one d e

  four_wide : (l : List ℕ) → double a (get_or l 0 0) ≡ false → triple a (get_or l 0 0) (get_or l 1 0) ≡ false
      → quadruple a (get_or l 0 0) (get_or l 1 0) (get_or l 2 0) ≡ true → Wide (take 4 (a ∷ l))
  four_wide [] d f e = absurd (none_later (quadruple_high a 0 0 0 e).1)
  four_wide (b ∷ []) d f e = absurd (none_later (quadruple_high a b 0 0 e).2)
  four_wide (b ∷ c ∷ []) d f e = absurd (none_later (quadruple_high a b c 0 e).3)
  four_wide (b ∷ c ∷ x ∷ l) d f e = quadruple_wide a b c x not_one d f e

front_wide : (l : List ℕ) → 0 < width_at l 0 → Wide (take (width_at l 0) l)
unfolding width_at width_of
front_wide [] some = absurd (omega arith)
front_wide (a ∷ l) some =
    by_tests_lem (single a) (double a (get_or l 0 0)) (triple a (get_or l 0 0) (get_or l 1 0)) (quadruple a (get_or l 0 0) (get_or l 1 0) (get_or l 2 0)) refl refl refl refl some
  where
    by_tests_lem : (p q r u : Bool) → single a ≡ p → double a (get_or l 0 0) ≡ q → triple a (get_or l 0 0) (get_or l 1 0) ≡ r → quadruple a (get_or l 0 0) (get_or l 1 0) (get_or l 2 0) ≡ u
        → 0 < cond p 1 (cond q 2 (cond r 3 (cond u 4 0))) → Wide (take (cond p 1 (cond q 2 (cond r 3 (cond u 4 0)))) (a ∷ l))
    by_tests_lem true q r u e f g h some = single_wide a 0 0 0 e
    by_tests_lem false true r u e f g h some = two_wide a e l f
    by_tests_lem false false true u e f g h some = three_wide a e l f g
    by_tests_lem false false false true e f g h some = four_wide a e l f g h
    by_tests_lem false false false false e f g h some = absurd (omega arith)

width_moved : (s : List ℕ) (at : ℕ) → width_at s at ≡ width_at (drop at s) 0
unfolding width_at
width_moved s at =
    let zero_on : at ≡ at + 0 = omega arith in
    rw (get_or-drop at s 0 0, get_or-drop at s 1 0, get_or-drop at s 2 0, get_or-drop at s 3 0, ← zero_on)

pub stands_wide : (s : List ℕ) (at : ℕ) → 0 < width_at s at → Wide (part s at (width_at s at))
stands_wide s at some = rw (width_moved s at) (front_wide (drop at s) (rw (width_moved s at) at some))

-- ---- one by its number

neither : (p q : Bool) → (p ≡ true → q ≡ true → ⊥) → not (p && q) ≡ true
neither true true h = absurd (h refl refl)
neither true false h = refl
neither false q h = refl

single_high : (a : ℕ) → 128 ≤ a → single a ≡ false
single_high a h = rw (ne_eqb a 9 (λ z. omega arith), ne_eqb a 10 (λ z. omega arith), ne_eqb a 13 (λ z. omega arith), le-leb 32 a (omega arith), lt-leb a 127 (omega arith))

module _ (a b c d : ℕ) (hb : 128 ≤ b) (kb : b ≤ 191) where
  double_high_not : 224 ≤ a → double a b ≡ false
  double_high_not h = rw (le-leb 194 a (omega arith), lt-leb a 223 (omega arith))

  triple_high_not : 240 ≤ a → triple a b c ≡ false
  triple_high_not h = rw (le-leb 224 a (omega arith), lt-leb a 239 (omega arith))

  is_double : 194 ≤ a → a ≤ 223 → double a b ≡ true
  is_double h k = rw (le-leb 194 a h, le-leb a 223 k, le-leb 128 b hb, le-leb b 191 kb)

  module _ (hc : 128 ≤ c) (kc : c ≤ 191) where
    is_triple : 224 ≤ a → a ≤ 239 → (a ≡ 224 → b < 160 → ⊥) → (a ≡ 237 → 160 ≤ b → ⊥) → (a ≡ 239 → b ≡ 191 → 190 ≤ c → ⊥) → triple a b c ≡ true
    is_triple h k p q r =
        rw (
          le-leb 224 a h,
          le-leb a 239 k,
          le-leb 128 b hb,
          le-leb b 191 kb,
          le-leb 128 c hc,
          le-leb c 191 kc,
          neither (eqb a 224) (ltb b 160) (λ e f. p (eqb-true a 224 e) (ltb-true b 160 f)),
          neither (eqb a 237) (leb 160 b) (λ e f. q (eqb-true a 237 e) (leb-true 160 b f)),
          neither (eqb a 239 && eqb b 191) (leb 190 c) (λ e f. (let both = (and-eq-true_iff (eqb a 239) (eqb b 191)).0 e in r (eqb-true a 239 both.0) (eqb-true b 191 both.1) (leb-true 190 c f))),
        )

    module _ (hd : 128 ≤ d) (kd : d ≤ 191) where
      is_quadruple : 240 ≤ a → a ≤ 244 → (a ≡ 240 → b < 144 → ⊥) → (a ≡ 244 → 144 ≤ b → ⊥) → quadruple a b c d ≡ true
      is_quadruple h k p q =
          rw (
            le-leb 240 a h,
            le-leb a 244 k,
            le-leb 128 b hb,
            le-leb b 191 kb,
            le-leb 128 c hc,
            le-leb c 191 kc,
            le-leb 128 d hd,
            le-leb d 191 kd,
            neither (eqb a 240) (ltb b 144) (λ e f. p (eqb-true a 240 e) (ltb-true b 144 f)),
            neither (eqb a 244) (leb 144 b) (λ e f. q (eqb-true a 244 e) (leb-true 144 b f)),
          )

module _ (c : ℕ) (e : is_character c ≡ true) where
  no_surrogate : 55296 ≤ c → c < 57344 → ⊥
  unfolding is_character
  no_surrogate h k =
      false≢true (sym (rw (ne_eqb c 9 (λ z. omega arith), ne_eqb c 10 (λ z. omega arith), ne_eqb c 13 (λ z. omega arith), le-leb 32 c (omega arith), lt-leb c 55295 (omega arith), lt-leb 57344 c k, lt-leb 65536 c (omega arith))) ∙ e)

  not_last : 65534 ≤ c → c < 65536 → ⊥
  unfolding is_character
  not_last h k =
      false≢true (sym (rw (ne_eqb c 9 (λ z. omega arith), ne_eqb c 10 (λ z. omega arith), ne_eqb c 13 (λ z. omega arith), le-leb 32 c (omega arith), lt-leb c 55295 (omega arith), le-leb 57344 c (omega arith), lt-leb c 65533 (omega arith), lt-leb 65536 c k)) ∙ e)

  not_high : 1114112 ≤ c → ⊥
  not_high h = false≢true (sym (character_high c h) ∙ e)

  is_single : c < 128 → single c ≡ true
  unfolding is_character
  is_single small = by_size (le_or_lt 32 c)
    where
      strip : (x : Bool) → (x || false || false || false) ≡ true → (x || false) ≡ true
      strip true h = refl
      strip false h = h

      by_size : (32 ≤ c) ⊎ (c < 32) → single c ≡ true
      by_size (inl low) = single_true c low (omega arith)
      by_size (inr h) = rw (lt-leb 32 c h) (strip (eqb c 9 || eqb c 10 || eqb c 13) (rw (lt-leb 32 c h, lt-leb 57344 c (omega arith), lt-leb 65536 c (omega arith)) at e))

  pub encoded_wide : Wide (encoded c)
  encoded_wide = by_size (le_or_lt 128 c) (le_or_lt 2048 c) (le_or_lt 65536 c)
    where
      by_high : (1114112 ≤ c) ⊎ (c < 1114112) → c < 1114112
      by_high (inl h) = absurd (not_high h)
      by_high (inr h) = h

      by_size : (128 ≤ c) ⊎ (c < 128) → (2048 ≤ c) ⊎ (c < 2048) → (65536 ≤ c) ⊎ (c < 65536) → Wide (encoded c)
      by_size (inr small) two three = rw (encoded_one c small) (single_wide c 0 0 0 (is_single small))
      by_size (inl over) (inr small) three =
          rw (encoded_two c over small)
          (double_wide (192 + c / 64) (128 + c / 1 % 64) 0 0 (single_high (192 + c / 64) (omega arith))
          (is_double (192 + c / 64) (128 + c / 1 % 64) 0 0 (omega arith) (omega arith) (omega arith) (omega arith)))
      by_size (inl over) (inl more) (inr small) =
          let a = 224 + c / 4096 in
          let b = 128 + c / 64 % 64 in
          let d = 128 + c / 1 % 64 in
          rw (encoded_three c more small)
          (triple_wide a b d 0 (single_high a (omega arith)) (double_high_not a b 0 0 (omega arith) (omega arith) (omega arith))
          (is_triple a b d 0 (omega arith) (omega arith) (omega arith) (omega arith) (omega arith) (omega arith)
          (λ x y. omega arith) (λ x y. no_surrogate (omega arith) (omega arith)) (λ x y z. not_last (omega arith) small)))
      by_size (inl over) (inl more) (inl most) =
          let a = 240 + c / 262144 % 8 in
          let b = 128 + c / 4096 % 64 in
          let d = 128 + c / 64 % 64 in
          let f = 128 + c / 1 % 64 in
          let high : c < 1114112 = by_high (le_or_lt 1114112 c) in
          rw (encoded_four c most)
          (quadruple_wide a b d f (single_high a (omega arith)) (double_high_not a b 0 0 (omega arith) (omega arith) (omega arith)) (triple_high_not a b d 0 (omega arith) (omega arith) (omega arith))
          (is_quadruple a b d f (omega arith) (omega arith) (omega arith) (omega arith) (omega arith) (omega arith) (omega arith) (omega arith) (λ x y. omega arith) (λ x y. omega arith)))
