-- The laws of text fields: what the test of equality means, and what a part of a slice is. Assumes nothing.
use mathlib.Core.Path.{◌≡◌, refl, sym, ap, ap₂, ◌∙◌}
use mathlib.Core.Bool.{Bool, true, false, ◌&&◌, false≢true, and-eq-true_iff}
use mathlib.Core.List.{List, [], ◌∷◌, ◌++◌}
use Prim.Native.Nat.{ℕ, zero, suc, ◌+◌, ◌-◌, ◌≤◌, ◌<◌, min}
use native.Mathlib.Nat.{add-sub_cancel_left, zero-min, min-zero, suc-min-suc, zero-add}
use native.Mathlib.Numerals.{add-one}
use native.Mathlib.Omega.{arith}
use lib.Dec.{eqb, lit<}
use lib.ListN.{length, get_or, take, drop, length-take, length-drop, drop_of_length-le}
use lib.Seq.{drop-cons, get_or-drop, take-take, take_all, drop-drop, take-nil, drop-append-le, take-append-le, drop-append-add}
use borrow.Author.Tests.{eq-eqb, ne_eqb, eqb-true}
use Rattle.wire.specs.Field.{Bytes, part, same}

-- ---- equality

pub same_itself : (s : List ℕ) → same s s ≡ true
unfolding same
same_itself [] = refl
same_itself (x ∷ xs) = rw (eq-eqb x x refl, same_itself xs)

pub same_equal : (s t : List ℕ) → same s t ≡ true → s ≡ t
unfolding same
same_equal [] [] e = refl
same_equal [] (y ∷ ys) e = absurd (false≢true e)
same_equal (x ∷ xs) [] e = absurd (false≢true e)
same_equal (x ∷ xs) (y ∷ ys) e =
    let both = (and-eq-true_iff (eqb x y) (same xs ys)).0 e in
    ap₂ (λ (b : ℕ) (bs : List ℕ). b ∷ bs) (eqb-true x y both.0) (same_equal xs ys both.1)

pub same_short : (s t : List ℕ) → (length s ≡ length t → ⊥) → same s t ≡ false
unfolding same
same_short [] [] h = absurd (h refl)
same_short [] (y ∷ ys) h = refl
same_short (x ∷ xs) [] h = refl
same_short (x ∷ xs) (y ∷ ys) h =
    let tails : same xs ys ≡ false = same_short xs ys (λ e. h (ap suc e)) in
    rw tails (none (eqb x y))
  where
    none : (b : Bool) → (b && false) ≡ false
    none true = refl
    none false = refl

-- from place i on: the bytes there, and what follows them
pub same_from : (s t : List ℕ) (i : ℕ) → i < length s → i < length t
    → same (drop i s) (drop i t) ≡ (eqb (get_or s i 0) (get_or t i 0) && same (drop (i + 1) s) (drop (i + 1) t))
unfolding same
same_from s t i hs ht = rw (add-one i, drop-cons s i 0 hs, drop-cons t i 0 ht)

-- ---- parts

pub take_bytes : (n : ℕ) (s : List ℕ) → Bytes s → Bytes (take n s)
take_bytes zero s h i = lit< tt
take_bytes (suc n) [] h i = lit< tt
take_bytes (suc n) (x ∷ xs) h zero = h 0
take_bytes (suc n) (x ∷ xs) h (suc i) = take_bytes n xs (λ k. h (suc k)) i

pub drop_bytes : (n : ℕ) (s : List ℕ) → Bytes s → Bytes (drop n s)
drop_bytes n s h i = rw (get_or-drop n s i 0) (h (n + i))

pub part_bytes_lem : (s : List ℕ) (at n : ℕ) → Bytes s → Bytes (part s at n)
part_bytes_lem s at n h = take_bytes n (drop at s) (drop_bytes at s h)

pub part_short : (s : List ℕ) (at n : ℕ) → length (part s at n) ≤ n
part_short s at n = simp (length-take, length-drop) (omega arith)

pub part_length : (s : List ℕ) (at n : ℕ) → at + n ≤ length s → length (part s at n) ≡ n
part_length s at n h = simp (length-take, length-drop) (omega arith)

take_clipped : (n : ℕ) (s : List ℕ) → take (min n (length s)) s ≡ take n s
take_clipped zero s = rw zero-min
take_clipped (suc n) [] = rw min-zero
take_clipped (suc n) (x ∷ xs) = rw suc-min-suc (ap (λ (r : List ℕ). x ∷ r) (take_clipped n xs))

drop_clipped : (n : ℕ) (s : List ℕ) → drop (min n (length s)) s ≡ drop n s
drop_clipped zero s = rw zero-min
drop_clipped (suc n) [] = rw min-zero
drop_clipped (suc n) (x ∷ xs) = rw suc-min-suc (drop_clipped n xs)

-- a part that is clipped to the slice is the part
pub part_clipped : (s : List ℕ) (at n : ℕ)
    → part s (min at (length s)) (min n (length s - min at (length s))) ≡ part s at n
part_clipped s at n =
    rw (← (length-drop (min at (length s)) s), take_clipped n (drop (min at (length s)) s))
    (ap (take n) (drop_clipped at s))

-- a part between two places that were clipped
pub part_between : (s : List ℕ) (at n from more : ℕ) → from ≡ min at (length s) → more ≡ min n (length s - from)
    → take (from + more - from) (drop from s) ≡ part s at n
part_between s at n from more ef em =
    rw (add-sub_cancel_left, em, ef) (part_clipped s at n)

-- ---- a comparison that goes on from place i

module _ (s t : List ℕ) (i : ℕ) (together : length s ≡ length t) (so_far : same (drop i s) (drop i t) ≡ same s t) where
  pub same_differs : i < length s → (get_or s i 0 ≡ get_or t i 0 → ⊥) → false ≡ same s t
  same_differs h differ = sym (sym so_far ∙ same_from s t i h (omega arith) ∙ (rw (ne_eqb _ _ differ)))

  pub same_more : i < length s → get_or s i 0 ≡ get_or t i 0 → same (drop (i + 1) s) (drop (i + 1) t) ≡ same s t
  same_more h equal = sym (sym so_far ∙ same_from s t i h (omega arith) ∙ (rw (eq-eqb _ _ equal)))

  pub same_ends : length s ≤ i → true ≡ same s t
  unfolding same
  same_ends h = (let h' : length t ≤ i = omega arith in rw (drop_of_length-le s h, drop_of_length-le t h') at so_far)

-- ---- a part of a part

pub drop_take : (o k : ℕ) (s : List ℕ) → drop o (take (o + k) s) ≡ take k (drop o s)
drop_take zero k s = rw zero-add
drop_take (suc o) k [] = rw (take-nil k, take-nil (suc o + k))
drop_take (suc o) k (x ∷ xs) = let next : suc o + k ≡ suc (o + k) = omega arith in rw next (drop_take o k xs)

pub part_part : (s : List ℕ) (at w o n : ℕ) → o + n ≤ w → part (part s at w) o n ≡ part s (at + o) n
part_part s at w o n h =
    let more : w ≡ o + (w - o) = omega arith in
    ap (λ (k : ℕ). take n (drop o (take k (drop at s)))) more
    ∙ ap (take n) (drop_take o (w - o) (drop at s))
    ∙ take-take n (w - o) (drop o (drop at s)) (omega arith)
    ∙ ap (take n) (drop-drop o at s)

-- two texts that differ in a part differ
pub part_differs : (s t : List ℕ) (at n : ℕ) → same (part s at n) (part t at n) ≡ false → false ≡ same s t
part_differs s t at n differ = by_test (same s t) refl
  where
    by_test : (b : Bool) → same s t ≡ b → false ≡ same s t
    by_test false e = sym e
    by_test true e =
        let alike : same (part s at n) (part t at n) ≡ true = rw (same_equal s t e) (same_itself (part t at n)) in
        absurd (false≢true (sym differ ∙ alike))

-- ---- a part of two lists one after the other

pub part_front : (xs ys : List ℕ) (o n : ℕ) → o + n ≤ length xs → part (xs ++ ys) o n ≡ part xs o n
part_front xs ys o n h =
    ap (take n) (drop-append-le o xs ys (omega arith)) ∙ take-append-le n (drop o xs) ys (rw (length-drop o xs) (omega arith))

pub part_back : (xs ys : List ℕ) (k o n : ℕ) → length xs ≡ k → part (xs ++ ys) (k + o) n ≡ part ys o n
part_back xs ys k o n e = rw (← e) (ap (take n) (drop-append-add xs ys o))

-- all that is left from a place on
pub rest_read : (s r : List ℕ) (at : ℕ) → r ≡ part s at (length s) → r ≡ drop at s
rest_read s r at e =
    let short : length (drop at s) ≤ length s = rw (length-drop at s) (omega arith) in
    e ∙ take_all (length s) (drop at s) short
