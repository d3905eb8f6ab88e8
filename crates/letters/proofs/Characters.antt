-- The laws of characters: each way to a width, the room that a character takes, and what an encoding comes to. Assumes nothing.
use mathlib.Core.Path.{◌≡◌, refl}
use mathlib.Core.Bool.{Bool, true, false, cond, ◌&&◌, not, false≢true}
use mathlib.Core.Logic.{⊎_elim}
use mathlib.Core.List.{List, [], ◌∷◌}
use Prim.Native.Nat.{ℕ, zero, suc, ◌+◌, ◌/◌, ◌%◌, ◌≤◌, ◌<◌}
use native.Mathlib.Omega.{arith}
use lib.Dec.{leb, ltb, eqb, lit≤}
use lib.ListN.{length}
use borrow.Author.Tests.{leb-true, lt-ltb, le-ltb, le-leb, lt-leb, ne_eqb}
use Rattle.wire.proofs.Sides.{le_or_lt}
use Rattle.letters.specs.Places.{byte_at, within}
use Rattle.letters.specs.Characters.{is_character, single, double, triple, quadruple, later, width_of, width_at, encoded}
use Rattle.letters.proofs.Scans.{byte_there}

-- ---- tests

pub front_true : (a b : Bool) → (a && b) ≡ true → a ≡ true
front_true true b e = refl
front_true false b e = absurd (false≢true e)

pub back_true : (a b : Bool) → (a && b) ≡ true → b ≡ true
back_true true b e = e
back_true false b e = absurd (false≢true e)

pub within_true : (low high b : ℕ) → within low high b ≡ true → (low ≤ b) × (b ≤ high)
within_true low high b e = (leb-true low b (front_true (leb low b) (leb b high) e), leb-true b high (back_true (leb low b) (leb b high) e))

-- ---- each way to a width

module _ (a b c d : ℕ) where
  pub width_single : single a ≡ true → 1 ≡ width_of a b c d
  unfolding width_of
  width_single e = rw e

  pub width_double : single a ≡ false → double a b ≡ true → 2 ≡ width_of a b c d
  unfolding width_of
  width_double e f = rw (e, f)

  pub width_triple : single a ≡ false → double a b ≡ false → triple a b c ≡ true → 3 ≡ width_of a b c d
  unfolding width_of
  width_triple e f g = rw (e, f, g)

  pub width_quadruple : single a ≡ false → double a b ≡ false → triple a b c ≡ false → quadruple a b c d ≡ true → 4 ≡ width_of a b c d
  unfolding width_of
  width_quadruple e f g h = rw (e, f, g, h)

pub width_first : (s : List ℕ) (at : ℕ) → single (byte_at s at) ≡ true → 1 ≡ width_at s at
unfolding width_at
width_first s at e = width_single (byte_at s at) (byte_at s (at + 1)) (byte_at s (at + 2)) (byte_at s (at + 3)) e

pub width_bytes : (s : List ℕ) (at : ℕ) → width_of (byte_at s at) (byte_at s (at + 1)) (byte_at s (at + 2)) (byte_at s (at + 3)) ≡ width_at s at
unfolding width_at
width_bytes s at = refl

-- ---- the room that a character takes

-- the last of its bytes is over 0
single_over : (a : ℕ) → single a ≡ true → 0 < a
single_over zero e = absurd (false≢true e)
single_over (suc a) e = omega arith

later_over : (b : ℕ) → later b ≡ true → 0 < b
later_over zero e = absurd (false≢true e)
later_over (suc b) e = omega arith

lost : (t p q : Bool) → (t && false && p && q) ≡ true → ⊥
lost true p q e = false≢true e
lost false p q e = false≢true e

triple_over : (a b c : ℕ) → triple a b c ≡ true → 0 < c
triple_over a b zero e =
    let p = not (eqb a 224 && ltb b 160) in
    let q = not (eqb a 237 && leb 160 b) in
    let r = not (eqb a 239 && eqb b 191 && leb 190 0) in
    absurd (lost (within 224 239 a && later b) p q (front_true (within 224 239 a && later b && false && p && q) r e))
triple_over a b (suc c) e = omega arith

quadruple_over : (a b c d : ℕ) → quadruple a b c d ≡ true → 0 < d
quadruple_over a b c zero e =
    absurd (lost (within 240 244 a && later b && later c) (not (eqb a 240 && ltb b 144)) (not (eqb a 244 && leb 144 b)) e)
quadruple_over a b c (suc d) e = omega arith

module _ (s : List ℕ) (at w : ℕ) (told : width_at s at ≡ w) where
  by_tests_lem : (t u v x : Bool)
      → single (byte_at s at) ≡ t
      → double (byte_at s at) (byte_at s (at + 1)) ≡ u
      → triple (byte_at s at) (byte_at s (at + 1)) (byte_at s (at + 2)) ≡ v
      → quadruple (byte_at s at) (byte_at s (at + 1)) (byte_at s (at + 2)) (byte_at s (at + 3)) ≡ x
      → cond t 1 (cond u 2 (cond v 3 (cond x 4 0))) ≡ w → (w ≤ 4) × (0 < w → at + w ≤ length s)
  by_tests_lem true u v x e f g h size =
      let over = byte_there s at (single_over (byte_at s at) e) in
      (omega arith, λ _. omega arith)
  by_tests_lem false true v x e f g h size =
      let over = byte_there s (at + 1) (later_over (byte_at s (at + 1)) (back_true (within 194 223 (byte_at s at)) (later (byte_at s (at + 1))) f)) in
      (omega arith, λ _. omega arith)
  by_tests_lem false false true x e f g h size =
      let over = byte_there s (at + 2) (triple_over (byte_at s at) (byte_at s (at + 1)) (byte_at s (at + 2)) g) in
      (omega arith, λ _. omega arith)
  by_tests_lem false false false true e f g h size =
      let over = byte_there s (at + 3) (quadruple_over (byte_at s at) (byte_at s (at + 1)) (byte_at s (at + 2)) (byte_at s (at + 3)) h) in
      (omega arith, λ _. omega arith)
  by_tests_lem false false false false e f g h size = (omega arith, λ (over : 0 < w). omega arith)

  both : (w ≤ 4) × (0 < w → at + w ≤ length s)
  unfolding width_at width_of
  both = by_tests_lem _ _ _ _ refl refl refl refl told

  pub width_small : w ≤ 4
  width_small = both.0

  pub width_there : 0 < w → at + w ≤ length s
  width_there = both.1

-- past the end there is none
pub width_past : (s : List ℕ) (at : ℕ) → length s ≤ at → width_at s at ≡ 0
width_past s at h = ⊎_elim
    (λ (k : width_at s at ≤ 0). omega arith)
    (λ (k : 0 < width_at s at). absurd (omega (arith, width_there s at (width_at s at) refl k)))
    (le_or_lt (width_at s at) 0)

-- ---- what is too high for a character

pub character_high : (c : ℕ) → 1114112 ≤ c → is_character c ≡ false
unfolding is_character
character_high c h =
    rw (ne_eqb c 9 (λ e. omega arith), ne_eqb c 10 (λ e. omega arith), ne_eqb c 13 (λ e. omega arith), le-leb 32 c (omega arith), lt-leb c 55295 (omega arith), le-leb 57344 c (omega arith), lt-leb c 65533 (omega arith), le-leb 65536 c (omega arith), lt-leb c 1114111 (omega arith))

-- ---- what an encoding comes to

module _ (c : ℕ) where
  pub encoded_one : c < 128 → encoded c ≡ c ∷ []
  unfolding encoded
  encoded_one h = rw (lt-ltb c 128 h)

  pub encoded_two : 128 ≤ c → c < 2048 → encoded c ≡ (192 + c / 64) ∷ (128 + c / 1 % 64) ∷ []
  unfolding encoded
  encoded_two l h = rw (le-ltb c 128 l, lt-ltb c 2048 h)

  pub encoded_three : 2048 ≤ c → c < 65536 → encoded c ≡ (224 + c / 4096) ∷ (128 + c / 64 % 64) ∷ (128 + c / 1 % 64) ∷ []
  unfolding encoded
  encoded_three l h = let over : 128 ≤ c = omega arith in rw (le-ltb c 128 over, le-ltb c 2048 l, lt-ltb c 65536 h)

  pub encoded_four : 65536 ≤ c → encoded c ≡ (240 + c / 262144 % 8) ∷ (128 + c / 4096 % 64) ∷ (128 + c / 64 % 64) ∷ (128 + c / 1 % 64) ∷ []
  unfolding encoded
  encoded_four l =
      let over : 128 ≤ c = omega arith in
      let more : 2048 ≤ c = omega arith in
      rw (le-ltb c 128 over, le-ltb c 2048 more, le-ltb c 65536 l)

pub encoded_small : (c : ℕ) → length (encoded c) ≤ 4
unfolding encoded
encoded_small c = by_tests_lem (ltb c 128) (ltb c 2048) (ltb c 65536)
  where
    by_tests_lem : (t u v : Bool)
        → length (cond t (c ∷ []) (cond u ((192 + c / 64) ∷ (128 + c / 1 % 64) ∷ []) (cond v ((224 + c / 4096) ∷ (128 + c / 64 % 64) ∷ (128 + c / 1 % 64) ∷ []) ((240 + c / 262144 % 8) ∷ (128 + c / 4096 % 64) ∷ (128 + c / 64 % 64) ∷ (128 + c / 1 % 64) ∷ [])))) ≤ 4
    by_tests_lem true u v = lit≤ tt
    by_tests_lem false true v = lit≤ tt
    by_tests_lem false false true = lit≤ tt
    by_tests_lem false false false = lit≤ tt
