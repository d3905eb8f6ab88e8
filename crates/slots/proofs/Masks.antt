-- An index as it was when only the first k keys had been added: every later name masked, as if its slot were empty. A search among the
-- first k keys ends at the same slot in both. Assumes nothing.
use mathlib.Core.Path.{◌≡◌, refl, sym, ap, ap₂, ◌∙◌}
use mathlib.Core.Logic.{⊎_elim}
use mathlib.Core.Bool.{cond}
use mathlib.Core.List.{List, [], ◌∷◌, ◌++◌, map, map-append}
use Prim.Native.Nat.{ℕ, zero, suc, ◌+◌, ◌≤◌, ◌<◌}
use native.Mathlib.Omega.{arith}
use lib.Dec.{leb}
use lib.ListN.{length, take, drop, get_or, set, replicate, length-map, get_or-eq_default}
use lib.Seq.{map-set_same}
use borrow.Author.Tests.{le-leb, lt-leb}
use Rattle.wire.proofs.Sides.{le_or_lt}
use Rattle.slots.specs.Slots.{turned, passed, stops_at, searched}
use Rattle.slots.proofs.Walks.{names_later, turned_length, stops_empty}
use Rattle.slots.proofs.Under.{Under, nothing, blank, equal, Most}
use Rattle.slots.proofs.Filled.{origin, steps, origin_within, stops_zero, searched_name, searched_place, place_holds}

-- ---- one slot

abbrev pub seen : ℕ → ℕ → ℕ
seen k x = cond (leb x k) x 0

pub seen_low : (k x : ℕ) → x ≤ k → seen k x ≡ x
seen_low k x h = rw (le-leb x k h)

pub seen_high : (k x : ℕ) → k < x → seen k x ≡ 0
seen_high k x h = rw (lt-leb x k h)

seen_zero : (k : ℕ) → seen k 0 ≡ 0
seen_zero k = seen_low k 0 (omega arith)

-- a name that is seen is there
pub seen_is : (k x y : ℕ) → seen k x ≡ y → (y ≡ 0 → ⊥) → (x ≡ y) × (x ≤ k)
seen_is k x y e some = ⊎_elim
    (λ (l : x ≤ k). (sym (seen_low k x l) ∙ e, l))
    (λ (g : k < x). absurd (some (sym e ∙ seen_high k x g)))
    (le_or_lt x k)

seen_stops : (keys : ℕ → List ℕ) (k : ℕ) (looked : List ℕ) (x : ℕ) → stops_at keys k looked (seen k x) ≡ stops_at keys k looked x
seen_stops keys k looked x = ⊎_elim
    (λ (l : x ≤ k). rw (seen_low k x l))
    (λ (g : k < x). rw (seen_high k x g) (stops_zero keys k looked ∙ sym (stops_empty keys k looked x (names_later k x g))))
    (le_or_lt x k)

-- ---- all slots

abbrev pub masked : ℕ → List ℕ → List ℕ
masked k xs = map (seen k) xs

pub masked_length : (k : ℕ) (xs : List ℕ) → length (masked k xs) ≡ length xs
masked_length k xs = length-map xs (seen k)

pub masked_get : (k : ℕ) (xs : List ℕ) (p : ℕ) → get_or (masked k xs) p 0 ≡ seen k (get_or xs p 0)
masked_get k [] p = sym (seen_zero k)
masked_get k (x ∷ xs) zero = refl
masked_get k (x ∷ xs) (suc p) = masked_get k xs p

masked_front : (k s : ℕ) (xs : List ℕ) → masked k (take s xs) ≡ take s (masked k xs)
masked_front k zero xs = refl
masked_front k (suc s) [] = refl
masked_front k (suc s) (x ∷ xs) = ap (λ (l : List ℕ). seen k x ∷ l) (masked_front k s xs)

masked_back : (k s : ℕ) (xs : List ℕ) → masked k (drop s xs) ≡ drop s (masked k xs)
masked_back k zero xs = refl
masked_back k (suc s) [] = refl
masked_back k (suc s) (x ∷ xs) = masked_back k s xs

masked_turned : (k s : ℕ) (xs : List ℕ) → masked k (turned s xs) ≡ turned s (masked k xs)
masked_turned k s xs = map-append (seen k) (drop s xs) (take s xs) ∙ ap₂ ◌++◌ (masked_back k s xs) (masked_front k s xs)

pub masked_most : (k : ℕ) (xs : List ℕ) → Most k xs → masked k xs ≡ xs
masked_most k [] m = refl
masked_most k (x ∷ xs) m = ap₂ {A = ℕ} ◌∷◌ (seen_low k x (m 0)) (masked_most k xs (λ i. m (suc i)))

-- before any key all slots are empty
pub masked_all : (xs : List ℕ) → masked 0 xs ≡ replicate (length xs) 0
masked_all [] = refl
masked_all (x ∷ xs) = ap₂ {A = ℕ} ◌∷◌ empty (masked_all xs)
  where
    empty : seen 0 x ≡ 0
    empty = ⊎_elim (λ (l : x ≤ 0). let z : x ≡ 0 = omega arith in seen_low 0 x l ∙ z) (λ (g : 0 < x). seen_high 0 x g) (le_or_lt x 0)

-- a later name put at an empty slot is not seen
pub masked_later : (k : ℕ) (xs : List ℕ) (p v : ℕ) → k < v → get_or xs p 0 ≡ 0 → masked k (set xs p v) ≡ masked k xs
masked_later k xs p v h e = map-set_same (seen k) xs p v 0 (seen_high k v h ∙ sym (ap (seen k) e ∙ seen_zero k))

-- ---- masked slots lie under the others

pub masked_under : (k : ℕ) (xs : List ℕ) → Under (masked k xs) xs
masked_under k [] = nothing
masked_under k (x ∷ xs) = ⊎_elim
    (λ (l : x ≤ k). equal (seen_low k x l) (masked_under k xs))
    (λ (g : k < x). blank (seen_high k x g) (masked_under k xs))
    (le_or_lt x k)

module _ (k : ℕ) where
  one_over : (x : ℕ) {us vs : List ℕ} → Under us vs → Under (seen k x ∷ us) (seen (suc k) x ∷ vs)
  one_over x u = ⊎_elim
      (λ (l : x ≤ k). equal (seen_low k x l ∙ sym (seen_low (suc k) x (omega arith))) u)
      (λ (g : k < x). blank (seen_high k x g) u)
      (le_or_lt x k)

  pub masked_more : (xs : List ℕ) → Under (masked k xs) (masked (suc k) xs)
  masked_more [] = nothing
  masked_more (x ∷ xs) = one_over x (masked_more xs)

  -- also with key k named where it is
  pub masked_put : (xs : List ℕ) (p : ℕ) → get_or xs p 0 ≡ k + 1 → Under (set (masked k xs) p (k + 1)) (masked (suc k) xs)
  masked_put [] p e = nothing
  masked_put (x ∷ xs) zero e = equal (let l : x ≤ suc k = omega (arith, e) in sym (seen_low (suc k) x l ∙ e)) (masked_more xs)
  masked_put (x ∷ xs) (suc p) e = one_over x (masked_put xs p e)

-- ---- a search among the first k keys

masked_passed : (keys : ℕ → List ℕ) (k : ℕ) (looked ts : List ℕ) → passed (stops_at keys k looked) (masked k ts) ≡ passed (stops_at keys k looked) ts
unfolding passed
masked_passed keys k looked [] = refl
masked_passed keys k looked (x ∷ ts) = rw (seen_stops keys k looked x, masked_passed keys k looked ts)

module _ (number : List ℕ → ℕ) (keys : ℕ → List ℕ) (k : ℕ) (looked xs : List ℕ) where
  pub masked_steps : steps number keys k looked (masked k xs) ≡ steps number keys k looked xs
  masked_steps = rw (masked_length k xs, ← (masked_turned k (origin number looked xs) xs)) (masked_passed keys k looked (turned (origin number looked xs) xs))

  pub masked_place : (searched number keys k looked (masked k xs)).place ≡ (searched number keys k looked xs).place
  masked_place = searched_place number keys k looked (masked k xs) ∙ (rw (masked_steps, masked_length k xs)) ∙ sym (searched_place number keys k looked xs)

  pub masked_name : (searched number keys k looked (masked k xs)).name ≡ seen k (searched number keys k looked xs).name
  masked_name = searched_name number keys k looked (masked k xs)
      ∙ (rw (masked_steps, masked_length k xs, ← (masked_turned k (origin number looked xs) xs)) (masked_get k (turned (origin number looked xs) xs) (steps number keys k looked xs)))
      ∙ ap (seen k) (sym (searched_name number keys k looked xs))

  -- a name that was met stands at the slot
  pub place_met : ((searched number keys k looked xs).name ≡ 0 → ⊥) → get_or xs (searched number keys k looked xs).place 0 ≡ (searched number keys k looked xs).name
  place_met some = ⊎_elim
      (λ (past : length xs ≤ steps number keys k looked xs).
      let out : length (turned (origin number looked xs) xs) ≤ steps number keys k looked xs = rw (turned_length (origin number looked xs) xs (origin_within number keys k looked xs)) past in
      absurd (some (searched_name number keys k looked xs ∙ get_or-eq_default (turned (origin number looked xs) xs) 0 out)))
      (λ (l : steps number keys k looked xs < length xs). place_holds number keys k looked xs l)
      (le_or_lt (length xs) (steps number keys k looked xs))
