-- The laws of slots that the crates above cite: the index in bytes has the slots of the keys added in order, a search of it finds each key
-- and reads few slots, and records with the same keys have the same index. Assumes nothing.
use mathlib.Core.Path.{◌≡◌, refl, sym, ap, ◌∙◌}
use mathlib.Core.Bool.{Bool, true, false, cond, ◌&&◌, false≢true, and-eq-true_iff}
use mathlib.Core.List.{List}
use mathlib.Core.Option.{none, some}
use Prim.Native.Nat.{ℕ, zero, suc, ◌+◌, ◌-◌, ◌*◌, ◌/◌, ◌^◌, ◌≤◌, ◌<◌, min}
use native.Mathlib.Omega.{arith}
use lib.ListN.{length, set, replicate, length-replicate}
use Rattle.wire.specs.Field.{Bytes, bytes_of, same}
use Rattle.wire.specs.Places.{first_from}
use Rattle.wire.proofs.Scans.{first_is, first_none}
use Rattle.wire.proofs.Stores.{sets_bytes, written_bytes}
use Rattle.slots.specs.Slots.{End, names, searched, placed, built_to}
use Rattle.slots.specs.Stored.{digits, slot_width, most_slots, slot_count, slots_of, put, key_in, searched_in, added, built_in, picked_in}
use Rattle.slots.specs.declared.Layout.{Layout}
use Rattle.slots.specs.Asked.{named_by}
use Rattle.slots.proofs.Walks.{names_told, names_least}
use Rattle.slots.proofs.Filled.{Filled, picked_to, every, built_every, picked_filled, found_is, found_there, found_first, found_picked, reads_few, reads_within, searched_same}
use Rattle.slots.proofs.Stored.{slots_many, slots_put, slots_empty, zeros_bytes}
use Rattle.slots.proofs.Turns.{added_length}

-- ---- a record added

module _ (e : End) (k : ℕ) (index : List ℕ) where
  added_bytes : Bytes index → Bytes (added e k index)
  added_bytes b = by_test (names k e.name)
    where
      by_test : (t : Bool) → Bytes (cond t index (put index e.place (k + 1)))
      by_test true = b
      by_test false = sets_bytes index (slot_width * e.place) (bytes_of slot_width (k + 1)) b (written_bytes slot_width (k + 1))

  added_slots : k + 1 < 256 ^ 4 → slots_of (added e k index) ≡ placed e k (slots_of index)
  added_slots fits = by_test (names k e.name)
    where
      by_test : (t : Bool) → slots_of (cond t index (put index e.place (k + 1))) ≡ cond t (slots_of index) (set (slots_of index) e.place (k + 1))
      by_test true = refl
      by_test false = slots_put index e.place (k + 1) fits

-- ---- those of the first k records that a test picks out

module _ (picks : ℕ → Bool) (layout : Layout) (records : List ℕ) (bytes : ℕ) where
  abbrev picked : ℕ → List ℕ
  picked = picked_in picks layout records bytes

  -- where the search of record k among them ends
  abbrev last : ℕ → End
  last k = searched_in layout records k (key_in layout records k) (picked k)

  pub picked_none : picked 0 ≡ replicate bytes 0
  unfolding picked_in
  picked_none = refl

  pub picked_add : (k : ℕ) → picks k ≡ true → added (last k) k (picked k) ≡ picked (suc k)
  unfolding picked_in
  picked_add k e = rw e

  pub picked_skip : (k : ℕ) → picks k ≡ false → picked k ≡ picked (suc k)
  unfolding picked_in
  picked_skip k e = rw e

  -- what holds of empty slots, and still where a record is added
  by_records : (P : List ℕ → Type 0) → P (replicate bytes 0) → ((k : ℕ) → P (picked k) → P (added (last k) k (picked k))) → (k : ℕ) → P (picked k)
  unfolding picked_in
  by_records P empty more zero = empty
  by_records P empty more (suc k) = by_test (by_records P empty more k) (picks k)
    where
      by_test : P (picked k) → (t : Bool) → P (cond t (added (last k) k (picked k)) (picked k))
      by_test p true = more k p
      by_test p false = p

  pub picked_length : (k : ℕ) → length (picked k) ≡ bytes
  picked_length = by_records (λ xs. length xs ≡ bytes) (length-replicate bytes 0) (λ k e. added_length (last k) k (picked k) ∙ e)

  picked_bytes : (k : ℕ) → Bytes (picked k)
  picked_bytes = by_records Bytes (zeros_bytes bytes) (λ k b. added_bytes (last k) k (picked k) b)

  module _ (n : ℕ) (whole : bytes ≡ slot_width * n) (small : n ≤ most_slots) where
    picked_slots : (k : ℕ) → k ≤ n → slots_of (picked k) ≡ picked_to picks digits (key_in layout records) n k
    unfolding picked_in picked_to
    picked_slots zero h =
        let many : min (bytes / slot_width) most_slots ≡ n = omega arith in
        slots_empty bytes ∙ ap (λ (i : ℕ). replicate i 0) many
    picked_slots (suc k) h = by_test (picked_slots k (omega arith)) (picks k)
      where
        by_test : slots_of (picked k) ≡ picked_to picks digits (key_in layout records) n k → (t : Bool)
            → slots_of (cond t (added (last k) k (picked k)) (picked k))
            ≡ cond t (placed (searched digits (key_in layout records) k (key_in layout records k) (picked_to picks digits (key_in layout records) n k)) k (picked_to picks digits (key_in layout records) n k)) (picked_to picks digits (key_in layout records) n k)
        by_test before true = added_slots (last k) k (picked k) (omega arith) ∙ (rw before)
        by_test before false = before

    filled_picked : (k : ℕ) → k ≤ n → Filled picks digits (key_in layout records) n k (slots_of (picked k))
    filled_picked k h = rw (picked_slots k h) (picked_filled picks digits (key_in layout records) n k h)

    -- a search of them
    module _ (k : ℕ) (h : k ≤ n) (looked : List ℕ) where
      abbrev name : ℕ
      name = (searched_in layout records k looked (picked k)).name

      pub picked_finds : (j : ℕ) → j < k → picks j ≡ true → same (key_in layout records j) looked ≡ true → names k name ≡ true
      picked_finds = found_there picks digits (key_in layout records) n k (slots_of (picked k)) (filled_picked k h) looked

      -- tells the first record that was picked and has the key
      pub picked_first : first_from (λ j. same (key_in layout records j) looked && picks j) k 0 ≡ named_by k name
      picked_first = by_test (names k name) refl
        where
          f : Filled picks digits (key_in layout records) n k (slots_of (picked k))
          f = filled_picked k h

          holds : ℕ → Bool
          holds j = same (key_in layout records j) looked && picks j

          by_test : (t : Bool) → names k name ≡ t → first_from holds k 0 ≡ cond t (some (name - 1)) none
          by_test true e =
              let told = names_told k name e in
              let least = names_least k name e in
              first_is holds k (name - 1) (omega (arith, told.1))
              (rw (found_is digits (key_in layout records) k looked (slots_of (picked k)) e, found_picked picks digits (key_in layout records) n k (slots_of (picked k)) f looked e))
              (λ j l is. let parts = (and-eq-true_iff (same (key_in layout records j) looked) (picks j)).0 is in omega (arith, found_first picks digits (key_in layout records) n k (slots_of (picked k)) f looked j (omega (arith, told.1)) parts.1 parts.0))
          by_test false e =
              first_none holds k (λ j l is. let parts = (and-eq-true_iff (same (key_in layout records j) looked) (picks j)).0 is in false≢true (sym e ∙ picked_finds j l parts.1 parts.0))

      pub picked_reads : (searched_in layout records k looked (picked k)).read ≤ k + 1
      picked_reads = reads_few picks digits (key_in layout records) n k (slots_of (picked k)) (filled_picked k h) looked

-- ---- all of them

module _ (layout : Layout) (records : List ℕ) (bytes : ℕ) where
  built_all : (k : ℕ) → built_in layout records bytes k ≡ picked_in every layout records bytes k
  unfolding built_in picked_in
  built_all zero = refl
  built_all (suc k) = rw (built_all k)

  pub built_length : (k : ℕ) → length (built_in layout records bytes k) ≡ bytes
  built_length k = rw (built_all k) (picked_length every layout records bytes k)

  pub built_bytes : (k : ℕ) → Bytes (built_in layout records bytes k)
  built_bytes k = rw (built_all k) (picked_bytes every layout records bytes k)

  module _ (n : ℕ) (whole : bytes ≡ slot_width * n) (small : n ≤ most_slots) (k : ℕ) (h : k ≤ n) where
    pub built_slots : slots_of (built_in layout records bytes k) ≡ built_to digits (key_in layout records) n k
    built_slots = rw (built_all k, built_every digits (key_in layout records) n k) (picked_slots every layout records bytes n whole small k h)

    -- each of them is found, at most k + 1 slots are read
    pub built_finds : (looked : List ℕ) (j : ℕ) → j < k → same (key_in layout records j) looked ≡ true
        → names k (searched_in layout records k looked (built_in layout records bytes k)).name ≡ true
    built_finds looked j l e = rw (built_all k) (picked_finds every layout records bytes n whole small k h looked j l refl e)

    pub built_reads : (looked : List ℕ) → (searched_in layout records k looked (built_in layout records bytes k)).read ≤ k + 1
    built_reads looked = rw (built_all k) (picked_reads every layout records bytes n whole small k h looked)

-- what a search of any index finds has the key looked for
pub stored_is : (layout : Layout) (records : List ℕ) (bound : ℕ) (looked index : List ℕ) → names bound (searched_in layout records bound looked index).name ≡ true
    → same (key_in layout records ((searched_in layout records bound looked index).name - 1)) looked ≡ true
stored_is layout records bound looked index = found_is digits (key_in layout records) bound looked (slots_of index)

pub stored_reads : (layout : Layout) (records : List ℕ) (bound : ℕ) (looked index : List ℕ) → (searched_in layout records bound looked index).read ≤ slot_count index
stored_reads layout records bound looked index = omega (arith, slots_many index, reads_within digits (key_in layout records) bound looked (slots_of index))

-- ---- records with the same keys

module _ (layout : Layout) (r q : List ℕ) where
  searched_agree : (bound : ℕ) (looked index : List ℕ) → ((j : ℕ) → j < bound → key_in layout r j ≡ key_in layout q j)
      → searched_in layout r bound looked index ≡ searched_in layout q bound looked index
  searched_agree bound looked index = searched_same digits (key_in layout r) (key_in layout q) bound looked (slots_of index)

  built_agree : (bytes k : ℕ) → ((j : ℕ) → j < k → key_in layout r j ≡ key_in layout q j) → built_in layout r bytes k ≡ built_in layout q bytes k
  unfolding built_in
  built_agree bytes zero agree = refl
  built_agree bytes (suc k) agree =
      let before : built_in layout r bytes k ≡ built_in layout q bytes k = built_agree bytes k (λ j l. agree j (omega arith)) in
      let key : key_in layout r k ≡ key_in layout q k = agree k (omega arith) in
      rw (before, key, searched_agree k (key_in layout q k) (built_in layout q bytes k) (λ j l. agree j (omega arith)))

  -- a record more: its key, looked for in the index of those before it, is added to that
  pub built_add : (bytes k : ℕ) (looked : List ℕ) → ((j : ℕ) → j < k → key_in layout r j ≡ key_in layout q j) → key_in layout q k ≡ looked
      → added (searched_in layout r k looked (built_in layout r bytes k)) k (built_in layout r bytes k) ≡ built_in layout q bytes (suc k)
  unfolding built_in
  built_add bytes k looked agree key = rw (key, built_agree bytes k agree, searched_agree k looked (built_in layout q bytes k) agree)
