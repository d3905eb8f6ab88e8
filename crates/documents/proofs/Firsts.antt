-- The first character of a text: one byte, or several that are high. Assumes nothing.
use mathlib.Core.Path.{◌≡◌, refl, sym, ◌∙◌}
use mathlib.Core.Bool.{Bool, true, false, cond, not, ◌&&◌, false≢true}
use mathlib.Core.List.{List, [], ◌∷◌, ◌++◌}
use Prim.Native.Nat.{ℕ, suc, ◌≤◌}
use native.Mathlib.Omega.{arith}
use lib.Dec.{eqb, leb, ltb}
use lib.ListN.{length, drop, get_or}
use borrow.Author.Tests.{ne_eqb, le-leb}
use Rattle.letters.specs.Places.{within}
use Rattle.letters.specs.Characters.{single, double, triple, quadruple, later, width_of, width_at}
use Rattle.letters.proofs.Characters.{front_true, back_true, within_true, width_double, width_triple, width_quadruple, width_bytes}
use Rattle.documents.specs.Carried.{characters_by}
use Rattle.documents.proofs.Here.{byte_here, byte_further, all}
use Rattle.documents.proofs.Numbers.{Numbered, double_numbered, triple_numbered, quadruple_numbered}

-- the bytes of longer characters
abbrev pub high : ℕ → Bool
high b = within 128 255 b

-- a text begins with a character, which takes one byte or has a number, and at most n are behind it
pub data First (n : ℕ) (t : List ℕ) : Type 0 where
  short : (a : ℕ) (rest : List ℕ) → t ≡ a ∷ rest → single a ≡ true → characters_by n rest ≡ true → First n t
  long : (a : ℕ) (more rest : List ℕ) → t ≡ a ∷ (more ++ rest) → all high (a ∷ more) ≡ true
      → ((s : List ℕ) (at : ℕ) (ys : List ℕ) → drop at s ≡ a ∷ (more ++ ys) → width_at s at ≡ suc (length more))
      → Numbered (a ∷ more) → characters_by n rest ≡ true → First n t

between_high : (low top b : ℕ) → 128 ≤ low → top ≤ 255 → within low top b ≡ true → high b ≡ true
between_high low top b h k e = let is = within_true low top b e in rw (le-leb 128 b (omega arith), le-leb b 255 (omega arith))

later_high : (b : ℕ) → later b ≡ true → high b ≡ true
later_high b e = between_high 128 191 b (omega arith) (omega arith) e

pub none_later : later 0 ≡ true → ⊥
none_later e = false≢true e

module _ (a b c d : ℕ) where
  pub double_high : double a b ≡ true → (high a ≡ true) × (later b ≡ true)
  double_high e = (between_high 194 223 a (omega arith) (omega arith) (front_true (within 194 223 a) (later b) e), back_true (within 194 223 a) (later b) e)

  abbrev led : Bool
  led = within 224 239 a && later b && later c

  pub triple_high : triple a b c ≡ true → (high a ≡ true) × (later b ≡ true) × (later c ≡ true)
  triple_high e =
      let p = not (eqb a 224 && ltb b 160) in
      let q = not (eqb a 237 && leb 160 b) in
      let three = front_true led p (front_true (led && p) q (front_true (led && p && q) _ e)) in
      let two = front_true (within 224 239 a && later b) (later c) three in
      (between_high 224 239 a (omega arith) (omega arith) (front_true (within 224 239 a) (later b) two), back_true (within 224 239 a) (later b) two, back_true (within 224 239 a && later b) (later c) three)

  abbrev lead : Bool
  lead = within 240 244 a && later b && later c && later d

  pub quadruple_high : quadruple a b c d ≡ true → (high a ≡ true) × (later b ≡ true) × (later c ≡ true) × (later d ≡ true)
  quadruple_high e =
      let p = not (eqb a 240 && ltb b 144) in
      let four = front_true lead p (front_true (lead && p) _ e) in
      let three = front_true (within 240 244 a && later b && later c) (later d) four in
      let two = front_true (within 240 244 a && later b) (later c) three in
      (between_high 240 244 a (omega arith) (omega arith) (front_true (within 240 244 a) (later b) two), back_true (within 240 244 a) (later b) two, back_true (within 240 244 a && later b) (later c) three, back_true (within 240 244 a && later b && later c) (later d) four)

module _ (n a : ℕ) (not_one : single a ≡ false) where
  two_first : (t : List ℕ) → double a (get_or t 0 0) ≡ true → characters_by n (drop 2 (a ∷ t)) ≡ true → First n (a ∷ t)
  unfolding all
  two_first [] e more = absurd (none_later (double_high a 0 0 0 e).1)
  two_first (b ∷ t) e more =
      let is = double_high a b 0 0 e in
      long a (b ∷ []) t refl (rw (is.0, later_high b is.1))
      (λ s at ys h. sym (width_bytes s at) ∙ (rw (byte_here s at a (b ∷ ys) h, byte_further s at 1 (a ∷ b ∷ ys) h) (sym (width_double a b _ _ not_one e))))
      (double_numbered a b e) more

  three_first : (t : List ℕ) → double a (get_or t 0 0) ≡ false → triple a (get_or t 0 0) (get_or t 1 0) ≡ true → characters_by n (drop 3 (a ∷ t)) ≡ true → First n (a ∷ t)
  unfolding all
  three_first [] d e more = absurd (none_later (triple_high a 0 0 0 e).1)
  three_first (b ∷ []) d e more = absurd (none_later (triple_high a b 0 0 e).2)
  three_first (b ∷ c ∷ t) d e more =
      let is = triple_high a b c 0 e in
      long a (b ∷ c ∷ []) t refl (rw (is.0, later_high b is.1, later_high c is.2))
      (λ s at ys h. sym (width_bytes s at)
      ∙ (rw (byte_here s at a (b ∷ c ∷ ys) h, byte_further s at 1 (a ∷ b ∷ c ∷ ys) h, byte_further s at 2 (a ∷ b ∷ c ∷ ys) h) (sym (width_triple a b c _ not_one d e))))
      (triple_numbered a b c e) more

  four_first : (t : List ℕ) → double a (get_or t 0 0) ≡ false → triple a (get_or t 0 0) (get_or t 1 0) ≡ false
      → quadruple a (get_or t 0 0) (get_or t 1 0) (get_or t 2 0) ≡ true → characters_by n (drop 4 (a ∷ t)) ≡ true → First n (a ∷ t)
  unfolding all
  four_first [] d f e more = absurd (none_later (quadruple_high a 0 0 0 e).1)
  four_first (b ∷ []) d f e more = absurd (none_later (quadruple_high a b 0 0 e).2)
  four_first (b ∷ c ∷ []) d f e more = absurd (none_later (quadruple_high a b c 0 e).3)
  four_first (b ∷ c ∷ x ∷ t) d f e more =
      let is = quadruple_high a b c x e in
      long a (b ∷ c ∷ x ∷ []) t refl (rw (is.0, later_high b is.1, later_high c is.2, later_high x is.3))
      (λ s at ys h. sym (width_bytes s at)
      ∙ (rw (byte_here s at a (b ∷ c ∷ x ∷ ys) h, byte_further s at 1 (a ∷ b ∷ c ∷ x ∷ ys) h, byte_further s at 2 (a ∷ b ∷ c ∷ x ∷ ys) h, byte_further s at 3 (a ∷ b ∷ c ∷ x ∷ ys) h)
      (sym (width_quadruple a b c x not_one d f e))))
      (quadruple_numbered a b c x e) more

pub first_of : (n a : ℕ) (t : List ℕ) → characters_by (suc n) (a ∷ t) ≡ true → First n (a ∷ t)
unfolding characters_by width_at width_of
first_of n a t e =
    by_tests_lem (single a) (double a (get_or t 0 0)) (triple a (get_or t 0 0) (get_or t 1 0)) (quadruple a (get_or t 0 0) (get_or t 1 0) (get_or t 2 0)) refl refl refl refl
    (rw (ne_eqb (suc (length t)) 0 (λ z. omega arith)) at e)
  where
    by_tests_lem : (p q r u : Bool) → single a ≡ p → double a (get_or t 0 0) ≡ q → triple a (get_or t 0 0) (get_or t 1 0) ≡ r → quadruple a (get_or t 0 0) (get_or t 1 0) (get_or t 2 0) ≡ u
        → (not (eqb (cond p 1 (cond q 2 (cond r 3 (cond u 4 0)))) 0) && characters_by n (drop (cond p 1 (cond q 2 (cond r 3 (cond u 4 0)))) (a ∷ t))) ≡ true
        → First n (a ∷ t)
    by_tests_lem true q r u e f g h more = short a t refl e more
    by_tests_lem false true r u e f g h more = two_first n a e t f more
    by_tests_lem false false true u e f g h more = three_first n a e t f g more
    by_tests_lem false false false true e f g h more = four_first n a e t f g h more
    by_tests_lem false false false false e f g h more = absurd (false≢true more)
