-- The laws of a register's index that the crates above cite: how long it is, what a search of it finds and how many slots it reads, and a
-- key added to both. Assumes nothing.
use mathlib.Core.Path.{◌≡◌, refl, sym, ap, ◌∙◌}
use mathlib.Core.Logic.{⊎_elim}
use mathlib.Core.Bool.{Bool, true, false, cond, false≢true}
use mathlib.Core.List.{List, [], ◌∷◌}
use mathlib.Core.Option.{Option, none, some}
use Prim.Native.Nat.{ℕ, zero, suc, ◌+◌, ◌-◌, ◌*◌, ◌≤◌, ◌<◌}
use native.Mathlib.Nat.{eq-or-lt_of_le}
use native.Mathlib.Omega.{arith}
use lib.Dec.{lit≤}
use lib.ListN.{length, drop}
use lib.Seq.{take-take}
use Rattle.wire.specs.Field.{same}
use Rattle.wire.specs.Places.{first_from}
use Rattle.wire.proofs.Scans.{first_found}
use Rattle.slots.specs.Slots.{names}
use Rattle.slots.specs.Stored.{most_slots, added}
use Rattle.slots.proofs.Walks.{names_told, names_least}
use Rattle.slots.proofs.Laws.{built_length, built_finds, built_reads, stored_is, built_add}
use Rattle.register.specs.Register.{key_width, entry_width, used, room, in_use, entry_place, entry_at, key_at, key_in, search, is_there, stands, add}
use Rattle.register.specs.Room.{Formed}
use Rattle.register.proofs.Laws.{key_of_entry, add_room, add_used, add_old, add_new}
use Rattle.index.specs.Index.{entry_layout, slots_a_place, index_length, searched_by, index_of, end_in}
use Rattle.index.specs.Searches.{Search, slots_read_by, most_read}
use Rattle.index.proofs.Ways.{AllFormed}

-- ---- the index in bytes

pub index_length_lem : (r : List ℕ) → length (index_of r) ≡ index_length r
unfolding index_of
index_length_lem r = built_length entry_layout r (index_length r) (in_use r)

-- ---- what a search tells

there_at : (f : ℕ → Bool) (n i k : ℕ) → i ≤ k → k < i + n → f k ≡ true → is_there (first_from f n i) ≡ true
unfolding first_from
there_at f zero i k low high e = absurd (omega arith)
there_at f (suc n) i k low high e = by_test (there_at f n (suc i) k) (f i) refl
  where
    by_test : (suc i ≤ k → k < suc i + n → f k ≡ true → is_there (first_from f n (suc i)) ≡ true) → (t : Bool) → f i ≡ t
        → is_there (cond t (some i) (first_from f n (suc i))) ≡ true
    by_test rest true here = refl
    by_test rest false here = ⊎_elim
        (λ (q : i ≡ k). absurd (false≢true (sym here ∙ ap f q ∙ e)))
        (λ (l : i < k). rest l (omega arith) e)
        (eq-or-lt_of_le low)

there_from : (o : Option ℕ) → is_there o ≡ true → (k : ℕ) × (o ≡ some k)
there_from none e = absurd (false≢true e)
there_from (some k) e = (k, refl)

both : (a b : Bool) → (a ≡ true → b ≡ true) → (b ≡ true → a ≡ true) → a ≡ b
both true b p q = sym (p refl)
both false true p q = q refl
both false false p q = refl

-- a hit is a hit in any index: the register has the key
found_stands : (r index key : List ℕ) → names (in_use r) (searched_by r index key).name ≡ true → stands r key ≡ true
unfolding stands search
found_stands r index key e =
    let told = names_told (in_use r) (searched_by r index key).name e in
    let least = names_least (in_use r) (searched_by r index key).name e in
    there_at (λ k. same (key_at r k) key) (in_use r) 0 ((searched_by r index key).name - 1) (omega arith) (omega (arith, told.1))
    (stored_is entry_layout r (in_use r) key index e)

module _ (r : List ℕ) (f : Formed r) (key : List ℕ) where
  stands_found : stands r key ≡ true → names (in_use r) (end_in r key).name ≡ true
  unfolding stands search index_of
  stands_found e =
      let at = there_from (first_from (λ k. same (key_at r k) key) (in_use r) 0) e in
      let is = first_found (λ k. same (key_at r k) key) (in_use r) 0 at.0 at.1 in
      built_finds entry_layout r (index_length r) (slots_a_place * room r) refl (omega (arith, f.few)) (in_use r) (omega arith) key at.0 (omega (arith, is.1)) is.2

  -- and by its own index no key of the register is missed
  pub finds : names (in_use r) (end_in r key).name ≡ stands r key
  finds = both (names (in_use r) (end_in r key).name) (stands r key) (found_stands r (index_of r) key) stands_found

  -- looking at one slot more than entries at most
  pub reads : (end_in r key).read ≤ used r + 1
  unfolding index_of
  reads =
      let small : slots_a_place * room r ≤ most_slots = omega (arith, f.few) in
      let few : in_use r ≤ slots_a_place * room r = omega arith in
      omega (arith, built_reads entry_layout r (index_length r) (slots_a_place * room r) refl small (in_use r) few key)

-- nor in all, where so many searches are made
pub reads_most : (ss : List Search) → AllFormed ss → slots_read_by true ss ≤ most_read ss
unfolding slots_read_by most_read AllFormed
reads_most [] f = omega arith
reads_most (s ∷ ss) f =
    let one = reads s.register f.0 s.key in
    let rest = reads_most ss f.1 in
    omega arith

-- ---- a key added to both

key_at_lem : (r : List ℕ) (n : ℕ) → key_in (entry_at r n) ≡ key_at r n
key_at_lem r n = take-take key_width entry_width (drop (entry_place n) r) (lit≤ tt)

module _ (r key : List ℕ) where
  key_old : (n : ℕ) → n < used r → key_at r n ≡ key_at (add r key) n
  key_old n h = sym (key_at_lem r n) ∙ ap key_in (sym (add_old r key n h)) ∙ key_at_lem (add r key) n

  module _ (f : Formed r) (left : used r < room r) (wide : length key ≡ key_width) where
    key_new : key_at (add r key) (used r) ≡ key
    key_new = sym (key_at_lem (add r key) (used r)) ∙ ap key_in (add_new r key f left wide) ∙ key_of_entry key wide

    pub index_add : added (end_in r key) (used r) (index_of r) ≡ index_of (add r key)
    unfolding index_of
    index_add =
        let now : in_use r ≡ used r = omega arith in
        let then : in_use (add r key) ≡ suc (used r) = rw (add_used r key f left, add_room r key) (omega arith) in
        rw (now, then, add_room r key) (built_add entry_layout r (add r key) (index_length r) (used r) key key_old key_new)
