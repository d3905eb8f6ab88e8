-- A search over slots as a list: where it starts, how many slots it passes in two runs, which slot comes after so many others, what it
-- holds and how it is set, and where a search stops. Assumes nothing.
use mathlib.Core.Path.{◌≡◌, refl, sym, ap, ◌∙◌}
use mathlib.Core.Logic.{⊎_elim}
use mathlib.Core.Bool.{Bool, true, false, cond, not, ◌&&◌, false≢true, and-eq-true_iff}
use mathlib.Core.List.{List, [], ◌∷◌, ◌++◌}
use Prim.Native.Nat.{ℕ, zero, suc, ◌+◌, ◌-◌, ◌%◌, ◌≤◌, ◌<◌}
use native.Mathlib.Nat.{mod-lt, zero-add, suc-add}
use native.Mathlib.Omega.{arith}
use lib.Dec.{leb, eqb}
use lib.ListN.{length, take, drop, get_or, set, length-take, length-drop, length-append, get_or-append}
use lib.Seq.{get_or-append-add, get_or-take, get_or-drop, set-append_left, drop-set-add, drop-set-lt, take-set-le, take-set-lt}
use borrow.Author.Tests.{lt-ltb, le-ltb, eq-eqb, ne_eqb, le-leb, lt-leb, leb-true}
use Rattle.wire.specs.Field.{same}
use Rattle.wire.proofs.Sides.{le_or_lt}
use Rattle.slots.specs.Slots.{start_at, turned, place_after, passed, names, stops_at}

-- ---- the start

pub start_rest : (v n : ℕ) → 0 < n → start_at v n ≡ v % n
unfolding start_at
start_rest v zero h = absurd (omega arith)
start_rest v (suc n) h = refl

pub start_within : (v n : ℕ) → start_at v n ≤ n
unfolding start_at
start_within v zero = omega arith
start_within v (suc n) = let below : v % suc n < suc n = mod-lt v (omega arith) in omega arith

-- ---- the slots passed, in all and in two runs

module _ (stops : ℕ → Bool) where
  pub passed_within : (xs : List ℕ) → passed stops xs ≤ length xs
  unfolding passed
  passed_within [] = omega arith
  passed_within (x ∷ xs) = either (passed_within xs) (stops x)
    where
      either : passed stops xs ≤ length xs → (t : Bool) → cond t 0 (suc (passed stops xs)) ≤ suc (length xs)
      either rest true = omega arith
      either rest false = omega arith

  -- it stops in the first run
  pub passed_first : (xs ys : List ℕ) → passed stops xs < length xs → passed stops (xs ++ ys) ≡ passed stops xs
  unfolding passed
  passed_first [] ys h = absurd (omega arith)
  passed_first (x ∷ xs) ys h = either (passed_first xs ys) (stops x) h
    where
      either : (passed stops xs < length xs → passed stops (xs ++ ys) ≡ passed stops xs) → (t : Bool)
          → cond t 0 (suc (passed stops xs)) < suc (length xs)
          → cond t 0 (suc (passed stops (xs ++ ys))) ≡ cond t 0 (suc (passed stops xs))
      either rest true h = refl
      either rest false h = ap suc (rest (omega arith))

  -- it passes all of the first run
  pub passed_second : (xs ys : List ℕ) → length xs ≤ passed stops xs → passed stops (xs ++ ys) ≡ length xs + passed stops ys
  unfolding passed
  passed_second [] ys h = sym (zero-add (passed stops ys))
  passed_second (x ∷ xs) ys h = either (passed_second xs ys) (stops x) h
    where
      either : (length xs ≤ passed stops xs → passed stops (xs ++ ys) ≡ length xs + passed stops ys) → (t : Bool)
          → suc (length xs) ≤ cond t 0 (suc (passed stops xs))
          → cond t 0 (suc (passed stops (xs ++ ys))) ≡ suc (length xs) + passed stops ys
      either rest true h = absurd (omega arith)
      either rest false h = ap suc (rest (omega arith)) ∙ sym (suc-add (length xs) (passed stops ys))

-- ---- the slot after so many others

module _ (s p n : ℕ) where
  pub place_near : s + p < n → place_after s p n ≡ s + p
  unfolding place_after
  place_near h = rw (lt-ltb p n (omega arith), lt-ltb (s + p) n h)

  pub place_far : p < n → n ≤ s + p → place_after s p n ≡ s + p - n
  unfolding place_after
  place_far l h = rw (lt-ltb p n l, le-ltb (s + p) n h)

  pub place_none : n ≤ p → place_after s p n ≡ n
  unfolding place_after
  place_none h = rw (le-ltb p n h)

  pub place_within : s ≤ n → p < n → place_after s p n < n
  place_within h l = ⊎_elim
      (λ (far : n ≤ s + p). rw (place_far l far) (omega arith))
      (λ (near : s + p < n). rw (place_near near) near)
      (le_or_lt n (s + p))

-- ---- the slots in the order in which they are read

set_behind : (xs ys : List ℕ) (j v : ℕ) → set (xs ++ ys) (length xs + j) v ≡ xs ++ set ys j v
set_behind [] ys j v = rw (zero-add j)
set_behind (x ∷ xs) ys j v = rw (suc-add (length xs) j) (ap (λ (l : List ℕ). x ∷ l) (set_behind xs ys j v))

module _ (s : ℕ) (xs : List ℕ) (h : s ≤ length xs) where
  pub turned_length : length (turned s xs) ≡ length xs
  turned_length = simp (length-append, length-drop, length-take) (omega arith)

  module _ (p : ℕ) where
    -- from slot s to the end, and before it
    in_front : s + p < length xs → p < length (drop s xs)
    in_front near = rw (length-drop s xs) (omega arith)

    behind : length xs ≤ s + p → p ≡ length (drop s xs) + (s + p - length xs)
    behind far = rw (length-drop s xs) (omega arith)

    pub turned_get : p < length xs → get_or (turned s xs) p 0 ≡ get_or xs (place_after s p (length xs)) 0
    turned_get l = ⊎_elim
        (λ (far : length xs ≤ s + p).
        rw (place_far s p (length xs) l far)
        (ap (λ (i : ℕ). get_or (turned s xs) i 0) (behind far)
        ∙ get_or-append-add (drop s xs) (take s xs) (s + p - length xs) 0
        ∙ get_or-take s xs (s + p - length xs) 0 (omega arith)))
        (λ (near : s + p < length xs).
        rw (place_near s p (length xs) near)
        (get_or-append (drop s xs) (take s xs) 0 p (in_front near) ∙ get_or-drop s xs p 0))
        (le_or_lt (length xs) (s + p))

    pub turned_set : (v : ℕ) → p < length xs → turned s (set xs (place_after s p (length xs)) v) ≡ set (turned s xs) p v
    turned_set v l = ⊎_elim
        (λ (far : length xs ≤ s + p).
        let low : s + p - length xs < s = omega arith in
        rw (place_far s p (length xs) l far, drop-set-lt s xs (s + p - length xs) v low, take-set-lt s xs (s + p - length xs) v low)
        (sym (ap (λ (i : ℕ). set (turned s xs) i v) (behind far) ∙ set_behind (drop s xs) (take s xs) (s + p - length xs) v)))
        (λ (near : s + p < length xs).
        rw (
          place_near s p (length xs) near,
          drop-set-add s xs p v,
          take-set-le s xs (s + p) v (omega arith),
          set-append_left (drop s xs) (take s xs) p v (in_front near),
        ))
        (le_or_lt (length xs) (s + p))

-- ---- what a slot names

module _ (bound x : ℕ) where
  pub names_true : (x ≡ 0 → ⊥) → x ≤ bound → names bound x ≡ true
  unfolding names
  names_true some h = rw (ne_eqb x 0 some, le-leb x bound h)

  pub names_told : names bound x ≡ true → (x ≡ 0 → ⊥) × (x ≤ bound)
  unfolding names
  names_told e =
      let both = (and-eq-true_iff (not (eqb x 0)) (leb x bound)).0 e in
      (λ zero. false≢true (ap not (sym (eq-eqb x 0 zero)) ∙ both.0), leb-true x bound both.1)

  pub names_least : names bound x ≡ true → 1 ≤ x
  names_least e = ⊎_elim (λ (low : x ≤ 0). absurd ((names_told e).0 (omega arith))) (λ (h : 0 < x). h) (le_or_lt x 0)

  pub names_later : bound < x → names bound x ≡ false
  unfolding names
  names_later h = rw (lt-leb x bound h) (none (not (eqb x 0)))
    where
      none : (t : Bool) → (t && false) ≡ false
      none true = refl
      none false = refl

pub names_none_lem : (bound : ℕ) → names bound 0 ≡ false
unfolding names
names_none_lem bound = refl

-- ---- where a search stops

module _ (keys : ℕ → List ℕ) (bound : ℕ) (looked : List ℕ) (x : ℕ) where
  pub stops_empty : names bound x ≡ false → stops_at keys bound looked x ≡ true
  unfolding stops_at
  stops_empty e = rw e

  pub stops_named : names bound x ≡ true → stops_at keys bound looked x ≡ same (keys (x - 1)) looked
  unfolding stops_at
  stops_named e = rw e
