-- Counting the numbers of a stretch that a test picks. Nothing is said here of days. Assumes nothing.
use mathlib.Core.Path.{◌≡◌, refl, sym, ap, ◌∙◌}
use mathlib.Core.Logic.{⊎_elim}
use mathlib.Core.Bool.{Bool, true, false, ◌&&◌, ◌||◌}
use mathlib.Core.List.{List, [], ◌∷◌}
use Prim.Native.Nat.{ℕ, zero, suc, ◌+◌, ◌*◌, ◌-◌, ◌≤◌, ◌<◌}
use native.Mathlib.Nat.{add-zero, zero-add, add-suc, suc-add, add_assoc, zero-mul, suc-mul, add-mul, eq-or-lt_of_le}
use native.Mathlib.Omega.{arith}
use borrow.Author.Tests.{eq-eqb, ne_eqb, eqb-true, le-leb, lt-leb, lt-ltb, le-ltb}
use lib.Dec.{leb, ltb, eqb}
use Rattle.wire.specs.Field.{bit}
use Rattle.opendays.specs.OpenDay.{among}
use Rattle.opendays.specs.Counting.{total, over}

-- those of the n numbers from a on
unfoldable pub count_of : (ℕ → Bool) → ℕ → ℕ → ℕ
count_of p a zero = 0
count_of p a (suc n) = bit (p a) + count_of p (suc a) n

-- ---- stretches

pub count_split : (p : ℕ → Bool) (a m n : ℕ) → count_of p a (m + n) ≡ count_of p a m + count_of p (a + m) n
unfolding count_of
count_split p a zero n = rw (zero-add n, add-zero a) (sym (zero-add _))
count_split p a (suc m) n =
    rw (suc-add m n, count_split p (suc a) m n, add-suc a m, suc-add a m) (sym (add_assoc (bit (p a)) _ _))

-- from a to b and on to c
pub count_over : (p : ℕ → Bool) (a b c : ℕ) → a ≤ b → b ≤ c → count_of p a (c - a) ≡ count_of p a (b - a) + count_of p b (c - b)
count_over p a b c low high =
    let whole : c - a ≡ (b - a) + (c - b) = omega arith in
    let middle : a + (b - a) ≡ b = omega arith in
    ap (count_of p a) whole ∙ count_split p a (b - a) (c - b) ∙ ap (λ x. count_of p a (b - a) + count_of p x (c - b)) middle

-- ---- tests

pub count_same : (p q : ℕ → Bool) (a n : ℕ) → ((k : ℕ) → a ≤ k → k < a + n → p k ≡ q k) → count_of p a n ≡ count_of q a n
unfolding count_of
count_same p q a zero e = refl
count_same p q a (suc n) e = rw (e a (omega arith) (omega arith), count_same p q (suc a) n (λ k low high. e k (omega arith) (omega arith)))

pub count_none : (p : ℕ → Bool) (a n : ℕ) → ((k : ℕ) → a ≤ k → k < a + n → p k ≡ false) → count_of p a n ≡ 0
unfolding count_of
count_none p a zero e = refl
count_none p a (suc n) e = rw (e a (omega arith) (omega arith), count_none p (suc a) n (λ k low high. e k (omega arith) (omega arith)))

-- two tests that share a third between them
pub count_sum : (p q r : ℕ → Bool) → ((k : ℕ) → bit (p k) ≡ bit (q k) + bit (r k)) → (a n : ℕ) → count_of p a n ≡ count_of q a n + count_of r a n
unfolding count_of
count_sum p q r e a zero = refl
count_sum p q r e a (suc n) = omega (arith, e a, count_sum p q r e (suc a) n)

-- ---- a list of numbers

pub count_one : (p : ℕ → Bool) (h a n : ℕ) → a ≤ h → h < a + n → count_of (λ k. eqb k h && p k) a n ≡ bit (p h)
unfolding count_of
count_one p h a zero low high = absurd (omega arith)
count_one p h a (suc n) low high =
    ⊎_elim
    (λ (e : a ≡ h).
    rw (eq-eqb a h e, count_none (λ k. eqb k h && p k) (suc a) n (λ k l m. rw (ne_eqb k h (λ q. omega arith)))) (rw e (add-zero _)))
    (λ (l : a < h).
    rw (ne_eqb a h (λ q. omega arith), count_one p h (suc a) n l (omega arith)) (zero-add _))
    (eq-or-lt_of_le low)

-- a list that rises, from lo up to below hi
abbrev pub Rises : ℕ → ℕ → List ℕ → Type 0
Rises lo hi [] = Unit {0}
Rises lo hi (h ∷ hs) = (lo ≤ h) × (h < hi) × Rises (suc h) hi hs

rises_above : (k lo hi : ℕ) (hs : List ℕ) → Rises lo hi hs → k < lo → among k hs ≡ false
rises_above k lo hi [] r l = refl
rises_above k lo hi (h ∷ hs) r l = rw (ne_eqb k h (λ q. omega (arith, r.0)), rises_above k (suc h) hi hs r.2 (omega (arith, r.0)))

-- each of them counts once
pub count_list : (p : ℕ → Bool) (a n lo hi : ℕ) (hs : List ℕ) → a ≤ lo → hi ≤ a + n → Rises lo hi hs
    → count_of (λ k. among k hs && p k) a n ≡ total (λ h. bit (p h)) hs
count_list p a n lo hi [] low high r = count_none (λ k. false && p k) a n (λ k l m. refl)
count_list p a n lo hi (h ∷ hs) low high r =
    count_sum (λ k. (eqb k h || among k hs) && p k) (λ k. eqb k h && p k) (λ k. among k hs && p k) apart a n
    ∙ (rw (count_one p h a n (omega (arith, r.0)) (omega (arith, r.1)), count_list p a n (suc h) hi hs (omega (arith, r.0)) high r.2))
  where
    apart : (k : ℕ) → bit ((eqb k h || among k hs) && p k) ≡ bit (eqb k h && p k) + bit (among k hs && p k)
    apart k = by (eqb k h) refl
      where
        by : (t : Bool) → eqb k h ≡ t → bit ((t || among k hs) && p k) ≡ bit (t && p k) + bit (among k hs && p k)
        by false e = sym (zero-add _)
        by true e = rw (rises_above k (suc h) hi hs r.2 (omega (arith, eqb-true k h e))) (sym (add-zero _))

-- ---- blocks of w numbers, as the years are

pub count_blocks : (p : ℕ → Bool) (f : ℕ → ℕ) (w y n : ℕ) → ((z : ℕ) → y ≤ z → z < y + n → count_of p (z * w) w ≡ f z) → count_of p (y * w) (n * w) ≡ over f y n
unfolding over count_of
count_blocks p f w y zero each = rw (zero-mul w)
count_blocks p f w y (suc n) each =
    rw (suc-mul n w, count_split p (y * w) (n * w) w, ← add-mul y n w, each (y + n) (omega arith) (omega arith), count_blocks p f w y n (λ z low high. each z low (omega arith)))

-- ---- a test that asks for the stretch itself

pub count_inside : (p q : ℕ → Bool) (from to a n : ℕ) → a ≤ from → from ≤ to → to ≤ a + n
    → count_of (λ k. q k && (leb from k && ltb k to && p k)) a n ≡ count_of (λ k. p k && q k) from (to - from)
count_inside p q from to a n low middle high =
    ap (count_of test a) whole
    ∙ count_over test a from (a + n) low (omega arith)
    ∙ (rw (count_none test a (from - a) before, zero-add (count_of test from (a + n - from))) (
    count_over test from to (a + n) middle high
    ∙ (rw (count_none test to (a + n - to) after, add-zero (count_of test from (to - from)))
    (count_same test (λ k. p k && q k) from (to - from) inside))))
  where
    test : ℕ → Bool
    test k = q k && (leb from k && ltb k to && p k)

    whole : n ≡ a + n - a
    whole = omega arith

    falls : (b : Bool) → (b && false) ≡ false
    falls true = refl
    falls false = refl

    turns : (b c : Bool) → (b && c) ≡ (c && b)
    turns true c = sym (keeps c)
      where
        keeps : (c : Bool) → (c && true) ≡ c
        keeps true = refl
        keeps false = refl
    turns false c = sym (falls c)

    before : (k : ℕ) → a ≤ k → k < a + (from - a) → test k ≡ false
    before k l h = rw (lt-leb from k (omega arith)) (falls (q k))

    after : (k : ℕ) → to ≤ k → k < to + (a + n - to) → test k ≡ false
    after k l h = rw (le-leb from k (omega arith), le-ltb k to l) (falls (q k))

    inside : (k : ℕ) → from ≤ k → k < from + (to - from) → test k ≡ (p k && q k)
    inside k l h = rw (le-leb from k l, lt-ltb k to (omega arith)) (turns (q k) (p k))
