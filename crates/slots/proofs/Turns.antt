-- A turn of each loop over slots in bytes, and the steps that have none: passing slots, clearing, adding, building, counting.
-- Assumes nothing.
use mathlib.Core.Path.{◌≡◌, refl, sym, ap, ◌∙◌}
use mathlib.Core.Bool.{Bool, true, false, cond}
use mathlib.Core.List.{List}
use Prim.Native.Nat.{ℕ, suc, ◌+◌, ◌-◌, ◌≤◌, ◌<◌}
use native.Mathlib.Nat.{add-zero}
use native.Mathlib.Numerals.{add-one}
use native.Mathlib.Omega.{arith}
use lib.Dec.{eqb}
use lib.ListN.{length}
use borrow.Author.Tests.{eq-eqb, ne_eqb}
use Rattle.slots.specs.Slots.{End, names, passed}
use Rattle.slots.specs.Stored.{slot_at, slots_from, put, key_in, searched_in, added, built_in}
use Rattle.slots.specs.Asked.{taken}
use Rattle.slots.specs.declared.Layout.{Layout}
use Rattle.slots.proofs.Stored.{put_length}

-- ---- passing slots, up to a place

module _ (stops : ℕ → Bool) (index : List ℕ) (to : ℕ) where
  -- where a search from a place on stops
  abbrev pub stop_from : ℕ → ℕ
  stop_from at = at + passed stops (slots_from index (to - at) at)

  module _ (at : ℕ) where
    pass_one : at < to
        → passed stops (slots_from index (to - at) at) ≡ cond (stops (slot_at index at)) 0 (suc (passed stops (slots_from index (to - (at + 1)) (at + 1))))
    unfolding slots_from passed
    pass_one h = let left : to - at ≡ suc (to - (at + 1)) = omega arith in rw (left, add-one at)

    pub stop_here : at < to → stops (slot_at index at) ≡ true → stop_from at ≡ at
    stop_here h e = rw (pass_one h, e) (add-zero at)

    pub stop_later : at < to → stops (slot_at index at) ≡ false → stop_from (at + 1) ≡ stop_from at
    stop_later h e = rw (pass_one h, e) (omega arith)

    pub stop_ends : to ≤ at → stop_from at ≡ at
    unfolding slots_from passed
    stop_ends h = let left : to - at ≡ 0 = omega arith in rw left (add-zero at)

-- ---- adding

module _ (e : End) (k : ℕ) (index : List ℕ) where
  pub added_length : length (added e k index) ≡ length index
  added_length = either (names k e.name)
    where
      either : (t : Bool) → length (cond t index (put index e.place (k + 1))) ≡ length index
      either true = refl
      either false = put_length index e.place (k + 1)

-- ---- building

module _ (layout : Layout) (records : List ℕ) (bytes : ℕ) where
  build_one : (k : ℕ)
      → added (searched_in layout records k (key_in layout records k) (built_in layout records bytes k)) k (built_in layout records bytes k)
      ≡ built_in layout records bytes (k + 1)
  unfolding built_in
  build_one k = sym (ap (built_in layout records bytes) (add-one k))

  pub build_more : (k : ℕ) (index looked : List ℕ) (e : End) → index ≡ built_in layout records bytes k → looked ≡ key_in layout records k
      → e ≡ searched_in layout records k looked index → added e k index ≡ built_in layout records bytes (k + 1)
  build_more k index looked e ei el ee = rw (ee, el, ei) (build_one k)

-- ---- counting

module _ (index : List ℕ) (n : ℕ) where
  -- the slots taken from a place on
  abbrev pub taken_from : ℕ → ℕ
  taken_from i = taken (slots_from index (n - i) i)

  module _ (i : ℕ) where
    take_one : i < n → taken_from i ≡ cond (eqb (slot_at index i) 0) (taken_from (i + 1)) (suc (taken_from (i + 1)))
    unfolding taken slots_from
    take_one h = let left : n - i ≡ suc (n - (i + 1)) = omega arith in rw (left, add-one i)

    pub taken_not : i < n → slot_at index i ≡ 0 → taken_from i ≡ taken_from (i + 1)
    taken_not h e = take_one h ∙ (rw (eq-eqb (slot_at index i) 0 e))

    pub taken_one : i < n → (slot_at index i ≡ 0 → ⊥) → taken_from i ≡ suc (taken_from (i + 1))
    taken_one h e = take_one h ∙ (rw (ne_eqb (slot_at index i) 0 e))

    pub taken_ends : n ≤ i → taken_from i ≡ 0
    unfolding taken slots_from
    taken_ends h = let left : n - i ≡ 0 = omega arith in rw left
