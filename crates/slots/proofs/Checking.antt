-- The check in place over bytes tells whether an index is the one built; and a turn of its loop: k records were checked, some of which are
-- named where their search ended, and what remains comes to what all comes to. Assumes nothing.
use mathlib.Core.Path.{◌≡◌, refl, sym, ap, ◌∙◌}
use mathlib.Core.Bool.{Bool, true, false, cond, ◌&&◌}
use mathlib.Core.List.{List}
use Prim.Native.Nat.{ℕ, zero, suc, ◌+◌, ◌-◌, ◌≤◌, ◌<◌}
use native.Mathlib.Numerals.{add-one}
use native.Mathlib.Omega.{arith}
use lib.Dec.{eqb}
use lib.ListN.{length}
use borrow.Author.Tests.{eq-eqb, ne_eqb}
use Rattle.wire.specs.Field.{Bytes, same}
use Rattle.wire.specs.Places.{every_from}
use Rattle.wire.proofs.Texts.{same_itself, same_equal}
use Rattle.wire.proofs.Scans.{every_fails, every_more, every_ends}
use Rattle.slots.specs.Slots.{End, names, built_to}
use Rattle.slots.specs.Stored.{digits, slot_count, slots_of, key_in, searched_in, built_in}
use Rattle.slots.specs.Asked.{Sized, end_of, taken}
use Rattle.slots.specs.declared.Layout.{Layout}
use Rattle.slots.specs.declared.Ended.{Ended}
use Rattle.slots.proofs.Stored.{slots_many, slots_same}
use Rattle.slots.proofs.Checks.{count_from, name_of, fits_at, new_at, checked, checked_built, built_checked}
use Rattle.slots.proofs.Laws.{built_length, built_bytes, built_slots}

-- ---- the check in place

both : (a b : Bool) → (a ≡ true → b ≡ true) → (b ≡ true → a ≡ true) → a ≡ b
both true b p q = sym (p refl)
both false true p q = q refl
both false false p q = refl

is_checked : (layout : Layout) (records index : List ℕ) (m : ℕ) → Bytes index → Sized index m
    → checked digits (key_in layout records) (slots_of index) m ≡ same index (built_in layout records (length index) m)
is_checked layout records index m b sized = both _ _ there back
  where
    slots_built : slots_of (built_in layout records (length index) m) ≡ built_to digits (key_in layout records) (slot_count index) m
    slots_built = built_slots layout records (length index) (slot_count index) sized.whole (omega arith) m sized.enough

    there : checked digits (key_in layout records) (slots_of index) m ≡ true → same index (built_in layout records (length index) m) ≡ true
    there e =
        let slotted : slots_of index ≡ slots_of (built_in layout records (length index) m) =
        checked_built digits (key_in layout records) (slot_count index) (slots_of index) m (slots_many index) e ∙ sym slots_built in
        let long : length (built_in layout records (length index) m) ≡ length index = built_length layout records (length index) m in
        let is : index ≡ built_in layout records (length index) m =
        slots_same index (built_in layout records (length index) m) b (built_bytes layout records (length index) m) sized.whole (rw long sized.whole) slotted in
        ap (same index) (sym is) ∙ same_itself index

    back : same index (built_in layout records (length index) m) ≡ true → checked digits (key_in layout records) (slots_of index) m ≡ true
    back e =
        built_checked digits (key_in layout records) (slot_count index) m (slots_of index) sized.enough
        (ap slots_of (same_equal index (built_in layout records (length index) m) e) ∙ slots_built)

-- ---- counting

module _ (f : ℕ → Bool) where
  count_most : (n i : ℕ) → count_from f n i ≤ n
  unfolding count_from
  count_most zero i = omega arith
  count_most (suc n) i = by_test (count_most n (suc i)) (f i)
    where
      by_test : count_from f n (suc i) ≤ n → (t : Bool) → cond t (suc (count_from f n (suc i))) (count_from f n (suc i)) ≤ suc n
      by_test h true = omega arith
      by_test h false = omega arith

  module _ (n i : ℕ) where
    count_turn : i < n → count_from f (n - i) i ≡ cond (f i) (suc (count_from f (n - (i + 1)) (i + 1))) (count_from f (n - (i + 1)) (i + 1))
    unfolding count_from
    count_turn h = let left : n - i ≡ suc (n - (i + 1)) = omega arith in rw (left, add-one i)

    count_more : i < n → f i ≡ true → count_from f (n - i) i ≡ suc (count_from f (n - (i + 1)) (i + 1))
    count_more h e = count_turn h ∙ (rw e)

    count_same : i < n → f i ≡ false → count_from f (n - i) i ≡ count_from f (n - (i + 1)) (i + 1)
    count_same h e = count_turn h ∙ (rw e)

    count_ends : n ≤ i → count_from f (n - i) i ≡ 0
    unfolding count_from
    count_ends h = let left : n - i ≡ 0 = omega arith in rw left

-- ---- a turn

module _ (layout : Layout) (records index : List ℕ) (m : ℕ) where
  abbrev fits : ℕ → Bool
  fits = fits_at digits (key_in layout records) (slots_of index)

  abbrev new : ℕ → Bool
  new = new_at digits (key_in layout records) (slots_of index)

  pub record Checking (count k : ℕ) : Type 0 where
    pub within : k ≤ m
    pub few : count ≤ k
    pub well : every_from fits (m - k) k ≡ every_from fits m 0
    pub counted : count + count_from new (m - k) k ≡ count_from new m 0

  module _ (count k : ℕ) (c : Checking count k) (looked : List ℕ) (ended : Ended) (key : looked ≡ key_in layout records k)
      (told : end_of ended ≡ searched_in layout records k looked index) (h : k < m) where
    name_is : ended.name ≡ name_of digits (key_in layout records) (slots_of index) k
    name_is =
        let here : end_of ended ≡ searched_in layout records k (key_in layout records k) index = rw key at told in
        ap (λ (e : End). e.name) here

    going_on : names (k + 1) ended.name ≡ true → every_from fits (m - (k + 1)) (k + 1) ≡ every_from fits m 0
    going_on e = every_more fits m k h (ap (names (k + 1)) (sym name_is) ∙ e) ∙ c.well

    pub checking_counts : names (k + 1) ended.name ≡ true → ended.name ≡ k + 1 → Checking (count + 1) (k + 1)
    checking_counts e is = record {
      within = omega arith;
      few = omega (arith, c.few);
      well = going_on e;
      counted = omega (arith, c.counted, count_more new m k h (eq-eqb (name_of digits (key_in layout records) (slots_of index) k) (k + 1) (sym name_is ∙ is)));
    }

    pub checking_passes : names (k + 1) ended.name ≡ true → (ended.name ≡ k + 1 → ⊥) → Checking count (k + 1)
    checking_passes e other = record {
      within = omega arith;
      few = omega (arith, c.few);
      well = going_on e;
      counted = omega (arith, c.counted, count_same new m k h (ne_eqb (name_of digits (key_in layout records) (slots_of index) k) (k + 1) (λ z. other (name_is ∙ z))));
    }

    -- ---- what the check tells

    fails : names (k + 1) ended.name ≡ false → false ≡ checked digits (key_in layout records) (slots_of index) m
    unfolding checked
    fails e =
        let none : every_from fits m 0 ≡ false = sym c.well ∙ every_fails fits m k h (ap (names (k + 1)) (sym name_is) ∙ e) in
        rw none

    pub checking_fails : Bytes index → Sized index m → names (k + 1) ended.name ≡ false → false ≡ same index (built_in layout records (length index) m)
    checking_fails b sized e = fails e ∙ is_checked layout records index m b sized

  module _ (all : ℕ) (every : all ≡ taken (slots_of index)) (b : Bytes index) (sized : Sized index m) where
    many : m < all → false ≡ checked digits (key_in layout records) (slots_of index) m
    unfolding checked
    many h =
        let over : taken (slots_of index) ≡ count_from new m 0 → ⊥ = λ z. omega (arith, z, every, count_most new m 0) in
        rw (ne_eqb (taken (slots_of index)) (count_from new m 0) over) (sym (none (every_from fits m 0)))
      where
        none : (t : Bool) → (t && false) ≡ false
        none true = refl
        none false = refl

    pub checking_many : m < all → false ≡ same index (built_in layout records (length index) m)
    checking_many h = many h ∙ is_checked layout records index m b sized

    ends : (count k : ℕ) → Checking count k → m ≤ k → eqb all count ≡ checked digits (key_in layout records) (slots_of index) m
    unfolding checked
    ends count k c h =
        let fit : every_from fits m 0 ≡ true = sym c.well ∙ every_ends fits m k h in
        let is : count_from new m 0 ≡ count = omega (arith, c.counted, count_ends new m k h) in
        rw (fit, is, every)

    pub checking_ends : (count k : ℕ) → Checking count k → m ≤ k → eqb all count ≡ same index (built_in layout records (length index) m)
    checking_ends count k c h = ends count k c h ∙ is_checked layout records index m b sized
