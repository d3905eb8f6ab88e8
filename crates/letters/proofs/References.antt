-- The laws of references: numerals that are clipped, and what a reference at a place shows of the text. Assumes nothing.
use mathlib.Core.Path.{◌≡◌, refl, sym, ap, ◌∙◌}
use mathlib.Core.Logic.{⊎_elim}
use mathlib.Core.Bool.{Bool, true, false, cond, false≢true}
use mathlib.Core.List.{List, [], ◌∷◌}
use Prim.Native.Nat.{ℕ, suc, ◌+◌, ◌*◌, ◌-◌, ◌≤◌, ◌<◌, min}
use native.Mathlib.Nat.{min-eq_left, mul-le-mul_left}
use native.Mathlib.Numerals.{add-one}
use native.Mathlib.Omega.{arith}
use lib.Dec.{ltb, eqb}
use lib.ListN.{length, drop, get_or, drop_of_length-le, length-take, length-drop}
use lib.Seq.{drop-cons}
use borrow.Author.Tests.{lt-ltb, le-ltb, eq-eqb, ne_eqb, eqb-true}
use Rattle.wire.specs.Field.{text, part}
use Rattle.wire.proofs.Texts.{same_equal}
use Rattle.wire.proofs.Sides.{le_or_lt}
use Rattle.letters.specs.Places.{byte_at, run_end, between}
use Rattle.letters.specs.Characters.{is_character}
use Rattle.letters.proofs.Scans.{byte_there}
use Rattle.letters.proofs.Characters.{character_high}
use Rattle.std.specs.Prelude.{Option, Some, None}
use Rattle.letters.specs.declared.Reference.{Reference}
use Rattle.letters.specs.References.{digit_of, digit_in, numeral_from, numeral, numbered, numbered_at, stands, reference_at, refers}

-- ---- a reference is its two numbers

abbrev character_of : Option Reference → ℕ
character_of (Some r) = r.character
character_of None = 0

abbrev next_of : Option Reference → ℕ
next_of (Some r) = r.next
next_of None = 0

module _ {c next d after : ℕ} (e : refers c next ≡ refers d after) where
  pub refers_same : c ≡ d
  refers_same = ap character_of e

  pub refers_next : next ≡ after
  refers_next = ap next_of e

-- ---- numerals

-- clipped before or after a digit more
clipped : (limit v base d : ℕ) → 0 < base → min (min v limit * base + d) limit ≡ min (v * base + d) limit
clipped limit v base d h = ⊎_elim
    (λ (l : v ≤ limit). rw (min-eq_left l))
    (λ (l : limit < v).
    let least : min v limit ≡ limit = omega arith in
    rw least (omega (arith, mul-le-mul_left limit h, mul-le-mul_left v h)))
    (le_or_lt v limit)

numeral_clipped : (limit base : ℕ) → 0 < base → (v : ℕ) (s : List ℕ) → min (numeral_from base (min v limit) s) limit ≡ min (numeral_from base v s) limit
unfolding numeral_from
numeral_clipped limit base h v [] = omega arith
numeral_clipped limit base h v (b ∷ bs) =
    sym (numeral_clipped limit base h (min v limit * base + digit_of b) bs)
    ∙ ap (λ (k : ℕ). min (numeral_from base k bs) limit) (clipped limit v base (digit_of b) h)
    ∙ numeral_clipped limit base h (v * base + digit_of b) bs

pub numeral_more : (base v : ℕ) (s : List ℕ) (i : ℕ) → 0 < base → i < length s
    → min (numeral_from base (min (v * base + digit_of (get_or s i 0)) 1114112) (drop (i + 1) s)) 1114112 ≡ min (numeral_from base v (drop i s)) 1114112
unfolding numeral_from
numeral_more base v s i h k =
    numeral_clipped 1114112 base h (v * base + digit_of (get_or s i 0)) (drop (i + 1) s) ∙ (rw (drop-cons s i 0 k, add-one i))

pub numeral_ends : (base v : ℕ) (s : List ℕ) (i : ℕ) → length s ≤ i → numeral_from base v (drop i s) ≡ v
unfolding numeral_from
numeral_ends base v s i h = rw (drop_of_length-le s h)

-- ---- a number at a place

-- one that is clipped is a character if the whole is, and then it is the whole
module _ (v c : ℕ) (e : c ≡ min v 1114112) where
  clipped_false : is_character c ≡ false → is_character v ≡ false
  clipped_false f = ⊎_elim
      (λ (h : 1114112 ≤ v). character_high v h)
      (λ (h : v < 1114112). let whole : c ≡ v = omega arith in rw whole at f)
      (le_or_lt 1114112 v)

  clipped_true : is_character c ≡ true → c ≡ v
  clipped_true f = ⊎_elim
      (λ (h : 1114112 ≤ v). let high : 1114112 ≤ c = omega arith in absurd (false≢true (sym (character_high c high) ∙ f)))
      (λ (h : v < 1114112). omega arith)
      (le_or_lt 1114112 v)

module _ (base : ℕ) (s : List ℕ) (from to : ℕ) (e : to ≡ run_end (digit_in base) s from) where
  pub numbered_empty : to ≤ from → None ≡ numbered_at base s from
  unfolding numbered_at
  numbered_empty h = rw (← e, le-ltb from to h)

  pub numbered_open : from < to → (byte_at s to ≡ 59 → ⊥) → None ≡ numbered_at base s from
  unfolding numbered_at
  numbered_open h f = rw (← e, lt-ltb from to h, ne_eqb (byte_at s to) 59 f)

  module _ (h : from < to) (f : byte_at s to ≡ 59) (c : ℕ) (g : c ≡ min (numeral base (part s from (to - from))) 1114112) where
    pub numbered_other : is_character c ≡ false → None ≡ numbered_at base s from
    unfolding numbered_at
    numbered_other k = rw (← e, lt-ltb from to h, eq-eqb (byte_at s to) 59 f, clipped_false (numeral base (part s from (to - from))) c g k)

    pub numbered_stands : is_character c ≡ true → refers c (to + 1) ≡ numbered_at base s from
    unfolding numbered_at
    numbered_stands k =
        let whole = clipped_true (numeral base (part s from (to - from))) c g k in
        rw (← e, lt-ltb from to h, eq-eqb (byte_at s to) 59 f, ← whole, k)

-- ---- a word at a place

module _ (s : List ℕ) (at : ℕ) where
  -- one of a byte or more ends in the text
  pub stands_there : (word : List ℕ) → stands s at word ≡ true → 0 < length word → at + length word ≤ length s
  stands_there word e h =
      let long : min (length word) (length s - at) ≡ length word = sym (simp (length-take, length-drop)) ∙ ap length (same_equal (part s at (length word)) word e) in
      omega arith

  pub stands_first : (b : ℕ) (word : List ℕ) → stands s at (b ∷ word) ≡ true → byte_at s at ≡ b
  stands_first b word e =
      let one : part s at (suc (length word)) ≡ b ∷ word = same_equal (part s at (suc (length word))) (b ∷ word) e in
      let there : at < length s = omega (arith, stands_there (b ∷ word) e (omega arith)) in
      ap (λ (l : List ℕ). get_or l 0 0) (rw (drop-cons s at 0 there) at one)

  pub stands_differs : (b : ℕ) (word : List ℕ) → (byte_at s at ≡ b → ⊥) → stands s at (b ∷ word) ≡ false
  stands_differs b word h = by_test (stands s at (b ∷ word)) refl
    where
      by_test : (t : Bool) → stands s at (b ∷ word) ≡ t → t ≡ false
      by_test true e = absurd (h (stands_first b word e))
      by_test false e = refl

-- ---- what a reference shows

pub record Shown (s : List ℕ) (at c next : ℕ) : Type 0 where
  pub forward : at < next
  pub inside : next ≤ length s
  pub sign : byte_at s at ≡ 38
  pub character : is_character c ≡ true

module _ (s : List ℕ) (at c next : ℕ) where
  -- one of the names
  named : (word : List ℕ) (k : ℕ) → is_character k ≡ true → stands s at (38 ∷ word) ≡ true → refers k (at + suc (length word)) ≡ refers c next → Shown s at c next
  named word k e t told =
      let there = stands_there s at (38 ∷ word) t (omega arith) in
      let same : k ≡ c = refers_same told in
      let ends : at + suc (length word) ≡ next = refers_next told in
      record { forward = omega arith; inside = omega arith; sign = stands_first s at 38 word t; character = rw same at e }

  -- a number
  numbered_shown : (base from to : ℕ) → from ≤ to → numbered base s from to ≡ refers c next → (from < next) × (next ≤ length s) × (is_character c ≡ true)
  numbered_shown base from to h told = by_tests_lem (ltb from to) (eqb (byte_at s to) 59) (is_character (numeral base (between s from to))) refl refl told
    where
      by_tests_lem : (t u v : Bool) → eqb (byte_at s to) 59 ≡ u → is_character (numeral base (between s from to)) ≡ v
          → cond t (cond u (cond v (refers (numeral base (between s from to)) (to + 1)) None) None) None ≡ refers c next
          → (from < next) × (next ≤ length s) × (is_character c ≡ true)
      by_tests_lem true true true e f told =
          let there = byte_there s to (omega (arith, eqb-true (byte_at s to) 59 e)) in
          let same : numeral base (between s from to) ≡ c = refers_same told in
          let ends : to + 1 ≡ next = refers_next told in
          (omega arith, omega arith, rw same at f)
      by_tests_lem true true false e f told = absurd (let z : ◌≡◌ {A = ℕ} 0 1 = cc in omega arith)
      by_tests_lem true false v e f told = absurd (let z : ◌≡◌ {A = ℕ} 0 1 = cc in omega arith)
      by_tests_lem false u v e f told = absurd (let z : ◌≡◌ {A = ℕ} 0 1 = cc in omega arith)

  signed : (base : ℕ) (word : List ℕ) → stands s at (38 ∷ word) ≡ true → numbered_at base s (at + suc (length word)) ≡ refers c next → Shown s at c next
  unfolding numbered_at
  signed base word t told =
      let shown = numbered_shown base (at + suc (length word)) _ (omega arith) told in
      record { forward = omega arith; inside = shown.1; sign = stands_first s at 38 word t; character = shown.2 }

  step : (t : Bool) (x y : Option Reference) → (t ≡ true → x ≡ refers c next → Shown s at c next) → (y ≡ refers c next → Shown s at c next)
      → cond t x y ≡ refers c next → Shown s at c next
  step true x y f g e = f refl e
  step false x y f g e = g e

  none : None ≡ refers c next → Shown s at c next
  none e = absurd (let z : ◌≡◌ {A = ℕ} 0 1 = cc in omega arith)

  pub reference_shows : reference_at s at ≡ refers c next → Shown s at c next
  unfolding reference_at is_character
  reference_shows =
      step (stands s at (text "&lt;")) (refers 60 (at + 4)) _ (named (text "lt;") 60 refl)
      (step (stands s at (text "&gt;")) (refers 62 (at + 4)) _ (named (text "gt;") 62 refl)
      (step (stands s at (text "&amp;")) (refers 38 (at + 5)) _ (named (text "amp;") 38 refl)
      (step (stands s at (text "&apos;")) (refers 39 (at + 6)) _ (named (text "apos;") 39 refl)
      (step (stands s at (text "&quot;")) (refers 34 (at + 6)) _ (named (text "quot;") 34 refl)
      (step (stands s at (text "&#x")) (numbered_at 16 s (at + 3)) _ (signed 16 (text "#x"))
      (step (stands s at (text "&#")) (numbered_at 10 s (at + 2)) None (signed 10 (text "#"))
      none))))))

  pub reference_forward : reference_at s at ≡ refers c next → (at < next) × (next ≤ length s) × (byte_at s at ≡ 38)
  reference_forward e = let shown = reference_shows e in (shown.forward, shown.inside, shown.sign)

  pub reference_character : reference_at s at ≡ refers c next → is_character c ≡ true
  reference_character e = (reference_shows e).character
