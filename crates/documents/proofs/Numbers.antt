-- The number of a longer character, from its bytes: it is a character's, and in UTF-8 it is those bytes again. Assumes nothing.
use mathlib.Core.Path.{◌≡◌, ◌∙◌}
use mathlib.Core.Logic.{◌⊎◌, inl, inr}
use mathlib.Core.Bool.{Bool, true, false, not, ◌&&◌, ◌||◌, or-true, false≢true}
use mathlib.Core.List.{List, [], ◌∷◌}
use Prim.Native.Nat.{ℕ, ◌+◌, ◌*◌, ◌/◌, ◌%◌, ◌≤◌, ◌<◌}
use native.Mathlib.Omega.{arith}
use lib.Dec.{eqb, leb, ltb}
use borrow.Author.Tests.{eq-eqb, le-leb, lt-ltb}
use Rattle.wire.proofs.Sides.{le_or_lt}
use Rattle.letters.specs.Places.{within}
use Rattle.letters.specs.Characters.{is_character, encoded, double, triple, quadruple, later}
use Rattle.letters.proofs.Characters.{front_true, back_true, within_true, encoded_two, encoded_three, encoded_four}
use Rattle.documents.specs.Spelling.{number_in}

pub record Numbered (bytes : List ℕ) : Type 0 where
  pub character : is_character (number_in bytes) ≡ true
  pub back : encoded (number_in bytes) ≡ bytes

-- ---- which numbers are characters

module _ (n : ℕ) where
  low_character : 32 ≤ n → n ≤ 55295 → is_character n ≡ true
  unfolding is_character
  low_character h k = rw (le-leb 32 n h, le-leb n 55295 k, or-true (eqb n 9 || eqb n 10 || eqb n 13))

  middle_character : 57344 ≤ n → n ≤ 65533 → is_character n ≡ true
  unfolding is_character
  middle_character h k = rw (le-leb 57344 n h, le-leb n 65533 k, or-true (eqb n 9 || eqb n 10 || eqb n 13 || within 32 55295 n))

  high_character : 65536 ≤ n → n ≤ 1114111 → is_character n ≡ true
  unfolding is_character
  high_character h k = rw (le-leb 65536 n h, le-leb n 1114111 k, or-true (eqb n 9 || eqb n 10 || eqb n 13 || within 32 55295 n || within 57344 65533 n))

-- ---- two bytes

unless : (p q : Bool) → not (p && q) ≡ true → p ≡ true → q ≡ true → ⊥
unless true true e f g = false≢true e
unless true false e f g = false≢true g
unless false q e f g = false≢true f

pub double_numbered : (a b : ℕ) → double a b ≡ true → Numbered (a ∷ b ∷ [])
unfolding number_in
double_numbered a b e =
    let first = within_true 194 223 a (front_true (within 194 223 a) (later b) e) in
    let second = within_true 128 191 b (back_true (within 194 223 a) (later b) e) in
    let n = a % 32 * 64 + b % 64 in
    let one : 192 + n / 64 ≡ a = omega arith in
    let two : 128 + n / 1 % 64 ≡ b = omega arith in
    record { character = low_character n (omega arith) (omega arith); back = encoded_two n (omega arith) (omega arith) ∙ (rw (one, two)) }

-- ---- three

pub triple_numbered : (a b c : ℕ) → triple a b c ≡ true → Numbered (a ∷ b ∷ c ∷ [])
unfolding number_in
triple_numbered a b c e =
    let led = within 224 239 a && later b && later c in
    let p = not (eqb a 224 && ltb b 160) in
    let q = not (eqb a 237 && leb 160 b) in
    let r = not (eqb a 239 && eqb b 191 && leb 190 c) in
    let four = front_true (led && p && q) r e in
    let three = front_true (led && p) q four in
    let two = front_true led p three in
    let one = front_true (within 224 239 a && later b) (later c) two in
    let first = within_true 224 239 a (front_true (within 224 239 a) (later b) one) in
    let second = within_true 128 191 b (back_true (within 224 239 a) (later b) one) in
    let third = within_true 128 191 c (back_true (within 224 239 a && later b) (later c) two) in
    by_bytes first.0 first.1 second.0 second.1 third.0 third.1
    (λ is low. unless (eqb a 224) (ltb b 160) (back_true led p three) (eq-eqb a 224 is) (lt-ltb b 160 low))
    (λ is high. unless (eqb a 237) (leb 160 b) (back_true (led && p) q four) (eq-eqb a 237 is) (le-leb 160 b high))
    (λ is top high. unless (eqb a 239 && eqb b 191) (leb 190 c) (back_true (led && p && q) r e) (rw (eq-eqb a 239 is, eq-eqb b 191 top)) (le-leb 190 c high))
  where
    by_bytes : 224 ≤ a → a ≤ 239 → 128 ≤ b → b ≤ 191 → 128 ≤ c → c ≤ 191 → (a ≡ 224 → b < 160 → ⊥) → (a ≡ 237 → 160 ≤ b → ⊥) → (a ≡ 239 → b ≡ 191 → 190 ≤ c → ⊥) → Numbered (a ∷ b ∷ c ∷ [])
    by_bytes ha ka hb kb hc kc long surrogate last = record { character = by_size (le_or_lt n 55295); back = encoded_three n (by_long (le_or_lt 2048 n)) (omega arith) ∙ (rw (one, two, three)) }
      where
        n : ℕ
        n = a % 16 * 4096 + b % 64 * 64 + c % 64

        one : 224 + n / 4096 ≡ a
        one = omega arith

        two : 128 + n / 64 % 64 ≡ b
        two = omega arith

        three : 128 + n / 1 % 64 ≡ c
        three = omega arith

        by_long : (2048 ≤ n) ⊎ (n < 2048) → 2048 ≤ n
        by_long (inl h) = h
        by_long (inr h) = absurd (long (omega arith) (omega arith))

        over : (57344 ≤ n) ⊎ (n < 57344) → 55295 < n → 57344 ≤ n
        over (inl h) k = h
        over (inr h) k = absurd (surrogate (omega arith) (omega arith))

        under : (n ≤ 65533) ⊎ (65533 < n) → n ≤ 65533
        under (inl h) = h
        under (inr h) = absurd (last (omega arith) (omega arith) (omega arith))

        by_size : (n ≤ 55295) ⊎ (55295 < n) → is_character n ≡ true
        by_size (inl h) = low_character n (omega (arith, by_long (le_or_lt 2048 n))) h
        by_size (inr h) = middle_character n (over (le_or_lt 57344 n) h) (under (le_or_lt n 65533))

-- ---- four

pub quadruple_numbered : (a b c d : ℕ) → quadruple a b c d ≡ true → Numbered (a ∷ b ∷ c ∷ d ∷ [])
unfolding number_in
quadruple_numbered a b c d e =
    let led = within 240 244 a && later b && later c && later d in
    let p = not (eqb a 240 && ltb b 144) in
    let q = not (eqb a 244 && leb 144 b) in
    let four = front_true (led && p) q e in
    let three = front_true led p four in
    let two = front_true (within 240 244 a && later b && later c) (later d) three in
    let one = front_true (within 240 244 a && later b) (later c) two in
    let first = within_true 240 244 a (front_true (within 240 244 a) (later b) one) in
    let second = within_true 128 191 b (back_true (within 240 244 a) (later b) one) in
    let third = within_true 128 191 c (back_true (within 240 244 a && later b) (later c) two) in
    let fourth = within_true 128 191 d (back_true (within 240 244 a && later b && later c) (later d) three) in
    by_bytes first.0 first.1 second.0 second.1 third.0 third.1 fourth.0 fourth.1
    (λ is low. unless (eqb a 240) (ltb b 144) (back_true led p four) (eq-eqb a 240 is) (lt-ltb b 144 low))
    (λ is high. unless (eqb a 244) (leb 144 b) (back_true (led && p) q e) (eq-eqb a 244 is) (le-leb 144 b high))
  where
    by_bytes : 240 ≤ a → a ≤ 244 → 128 ≤ b → b ≤ 191 → 128 ≤ c → c ≤ 191 → 128 ≤ d → d ≤ 191 → (a ≡ 240 → b < 144 → ⊥) → (a ≡ 244 → 144 ≤ b → ⊥) → Numbered (a ∷ b ∷ c ∷ d ∷ [])
    by_bytes ha ka hb kb hc kc hd kd long high = record {
      character = high_character n (over (le_or_lt 65536 n)) (under (le_or_lt n 1114111));
      back = encoded_four n (over (le_or_lt 65536 n)) ∙ (rw (one, two, three, four));
    }
      where
        n : ℕ
        n = a % 8 * 262144 + b % 64 * 4096 + c % 64 * 64 + d % 64

        one : 240 + n / 262144 % 8 ≡ a
        one = omega arith

        two : 128 + n / 4096 % 64 ≡ b
        two = omega arith

        three : 128 + n / 64 % 64 ≡ c
        three = omega arith

        four : 128 + n / 1 % 64 ≡ d
        four = omega arith

        over : (65536 ≤ n) ⊎ (n < 65536) → 65536 ≤ n
        over (inl h) = h
        over (inr h) = absurd (long (omega arith) (omega arith))

        under : (n ≤ 1114111) ⊎ (1114111 < n) → n ≤ 1114111
        under (inl h) = h
        under (inr h) = absurd (high (omega arith) (omega arith))
