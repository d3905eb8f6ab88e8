-- Slots in bytes against slots as a list: how many there are, what each holds and what a run of them is, a slot that is written, bytes
-- that are all zero, and bytes that hold the same slots. Assumes nothing.
use mathlib.Core.Path.{◌≡◌, refl, sym, ap, ap₂, ◌∙◌}
use mathlib.Core.Logic.{⊎_elim}
use mathlib.Core.Bool.{Bool, true, false}
use mathlib.Core.List.{List, [], ◌∷◌, ◌++◌}
use Prim.Native.Nat.{ℕ, zero, suc, ◌+◌, ◌-◌, ◌*◌, ◌/◌, ◌^◌, ◌≤◌, ◌<◌, min}
use native.Mathlib.Nat.{zero-add, add-zero, mod-eq_of_lt}
use native.Mathlib.Omega.{arith}
use lib.Dec.{eqb}
use lib.ListN.{length, take, drop, get_or, set, replicate, length-replicate, length-set, take-append-drop, drop_of_length-le}
use lib.Seq.{length-sets, ext_get_or, get_or-set_same, get_or-set_other, drop-drop}
use borrow.Author.Tests.{eqb-true, eqb-false}
use Rattle.wire.specs.Field.{Bytes, part, number_from, number_of, bytes_of}
use Rattle.wire.proofs.Numbers.{bytes_length, written_read, read_written}
use Rattle.wire.proofs.Texts.{part_bytes_lem, part_length}
use Rattle.wire.proofs.Stores.{part_stored, part_before, part_after}
use Rattle.wire.proofs.Sides.{le_or_lt}
use Rattle.slots.specs.Stored.{slot_width, most_slots, slot_count, slot_at, slots_from, slots_of, put}

-- ---- runs of slots

module _ (index : List ℕ) where
  slots_length : (n i : ℕ) → length (slots_from index n i) ≡ n
  unfolding slots_from
  slots_length zero i = refl
  slots_length (suc n) i = ap suc (slots_length n (suc i))

  slots_get : (n i j : ℕ) → j < n → get_or (slots_from index n i) j 0 ≡ slot_at index (i + j)
  unfolding slots_from
  slots_get zero i j h = absurd (omega arith)
  slots_get (suc n) i zero h = ap (slot_at index) (sym (add-zero i))
  slots_get (suc n) i (suc j) h =
      let next : suc i + j ≡ i + suc j = omega arith in
      slots_get n (suc i) j (omega arith) ∙ ap (slot_at index) next

  pub slots_drop : (n i s : ℕ) → drop s (slots_from index n i) ≡ slots_from index (n - s) (i + s)
  unfolding slots_from
  slots_drop n i zero = let all : n - 0 ≡ n = omega arith in rw (all, add-zero i)
  slots_drop zero i (suc s) = let none : 0 - suc s ≡ 0 = omega arith in rw none
  slots_drop (suc n) i (suc s) =
      let fewer : suc n - suc s ≡ n - s = omega arith in
      let next : i + suc s ≡ suc i + s = omega arith in
      rw (fewer, next) (slots_drop n (suc i) s)

  pub slots_take : (n i s : ℕ) → s ≤ n → take s (slots_from index n i) ≡ slots_from index s i
  unfolding slots_from
  slots_take n i zero h = refl
  slots_take zero i (suc s) h = absurd (omega arith)
  slots_take (suc n) i (suc s) h = ap (λ (l : List ℕ). slot_at index i ∷ l) (slots_take n (suc i) s (omega arith))

  -- all of them
  pub slots_many : length (slots_of index) ≡ slot_count index
  slots_many = slots_length (slot_count index) 0

  pub slots_at : (i : ℕ) → i < slot_count index → get_or (slots_of index) i 0 ≡ slot_at index i
  slots_at i h = slots_get (slot_count index) 0 i h ∙ ap (slot_at index) (zero-add i)

-- ---- a slot written

module _ (index : List ℕ) (p v : ℕ) where
  pub put_length : length (put index p v) ≡ length index
  put_length = length-sets index (4 * p) (bytes_of 4 v)

  put_many : slot_count (put index p v) ≡ slot_count index
  put_many = ap (λ (n : ℕ). min (n / slot_width) most_slots) put_length

  put_here : v < 256 ^ 4 → p < slot_count index → slot_at (put index p v) p ≡ v
  put_here fits h =
      let inside : 4 * p + 4 ≤ length index = omega arith in
      ap number_of (part_stored index (4 * p) 4 (bytes_of 4 v) (bytes_length 4 v) inside) ∙ written_read 4 v ∙ mod-eq_of_lt fits

  put_elsewhere : (i : ℕ) → (i ≡ p → ⊥) → slot_at (put index p v) i ≡ slot_at index i
  put_elsewhere i other = ⊎_elim
      (λ (h : p ≤ i).
      let more : p < i = ⊎_elim (λ (q : i ≤ p). absurd (other (omega arith))) (λ (q : p < i). q) (le_or_lt i p) in
      let past : 4 * p + length (bytes_of 4 v) ≤ 4 * i = rw (bytes_length 4 v) (omega arith) in
      ap number_of (part_after index (4 * p) (bytes_of 4 v) (4 * i) 4 past))
      (λ (h : i < p). ap number_of (part_before index (4 * p) (bytes_of 4 v) (4 * i) 4 (omega arith)))
      (le_or_lt p i)

  pub slots_put : v < 256 ^ 4 → slots_of (put index p v) ≡ set (slots_of index) p v
  slots_put fits = ext_get_or 0 (slots_of (put index p v)) (set (slots_of index) p v) (long ∙ sym as_long) (λ i l. at i (rw long at l))
    where
      long : length (slots_of (put index p v)) ≡ slot_count index
      long = slots_many (put index p v) ∙ put_many

      as_long : length (set (slots_of index) p v) ≡ slot_count index
      as_long = length-set (slots_of index) p v ∙ slots_many index

      at : (i : ℕ) → i < slot_count index → get_or (slots_of (put index p v)) i 0 ≡ get_or (set (slots_of index) p v) i 0
      at i l = slots_at (put index p v) i (rw put_many l) ∙ either (eqb i p) refl
        where
          either : (t : Bool) → eqb i p ≡ t → slot_at (put index p v) i ≡ get_or (set (slots_of index) p v) i 0
          either true e =
              let here : i ≡ p = eqb-true i p e in
              let low : p < length (slots_of index) = rw (slots_many index, ← here) l in
              rw here (put_here fits (rw here at l) ∙ sym (get_or-set_same (slots_of index) p v 0 low))
          either false e =
              put_elsewhere i (eqb-false i p e) ∙ sym (slots_at index i l) ∙ sym (get_or-set_other (slots_of index) p i v 0 (eqb-false i p e))

-- ---- all bytes zero

abbrev pub zeros : ℕ → List ℕ
zeros n = replicate n 0

zeros_take : (n m : ℕ) → take n (zeros m) ≡ zeros (min n m)
zeros_take zero m = let none : min 0 m ≡ 0 = omega arith in rw none
zeros_take (suc n) zero = let none : min (suc n) 0 ≡ 0 = omega arith in rw none
zeros_take (suc n) (suc m) =
    let more : min (suc n) (suc m) ≡ suc (min n m) = omega arith in
    rw more (ap (λ (l : List ℕ). 0 ∷ l) (zeros_take n m))

zeros_drop : (n m : ℕ) → drop n (zeros m) ≡ zeros (m - n)
zeros_drop zero m = let all : m - 0 ≡ m = omega arith in rw all
zeros_drop (suc n) zero = let none : 0 - suc n ≡ 0 = omega arith in rw none
zeros_drop (suc n) (suc m) = let fewer : suc m - suc n ≡ m - n = omega arith in rw fewer (zeros_drop n m)

zeros_number : (m : ℕ) → number_of (zeros m) ≡ 0
unfolding number_from
zeros_number zero = refl
zeros_number (suc m) = zeros_number m

zeros_from : (m n i : ℕ) → slots_from (zeros m) n i ≡ zeros n
unfolding slots_from
zeros_from m zero i = refl
zeros_from m (suc n) i = ap₂ {A = ℕ} ◌∷◌ empty (zeros_from m n (suc i))
  where
    empty : slot_at (zeros m) i ≡ 0
    empty = rw (zeros_drop (4 * i) m, zeros_take 4 (m - 4 * i)) (zeros_number (min 4 (m - 4 * i)))

pub slots_empty : (m : ℕ) → slots_of (zeros m) ≡ zeros (min (m / slot_width) most_slots)
slots_empty m = zeros_from m (slot_count (zeros m)) 0 ∙ ap (λ (k : ℕ). zeros (min (k / slot_width) most_slots)) (length-replicate m 0)

pub zeros_bytes : (m : ℕ) → Bytes (zeros m)
zeros_bytes zero i = omega arith
zeros_bytes (suc m) zero = omega arith
zeros_bytes (suc m) (suc i) = zeros_bytes m i

-- ---- bytes that hold the same slots

written : List ℕ → List ℕ
written [] = []
written (x ∷ xs) = bytes_of 4 x ++ written xs

written_slots : (a : List ℕ) (n i : ℕ) → Bytes a → 4 * (i + n) ≡ length a → written (slots_from a n i) ≡ drop (4 * i) a
unfolding written slots_from
written_slots a zero i bytes e = let past : length a ≤ 4 * i = omega arith in sym (drop_of_length-le a past)
written_slots a (suc n) i bytes e =
    let inside : 4 * i + 4 ≤ length a = omega arith in
    let left : 4 * (suc i + n) ≡ length a = omega arith in
    let wide : length (part a (4 * i) 4) ≡ 4 = part_length a (4 * i) 4 inside in
    let back : bytes_of 4 (number_of (part a (4 * i) 4)) ≡ part a (4 * i) 4 = rw wide at (read_written (part a (4 * i) 4) (part_bytes_lem a (4 * i) 4 bytes)) in
    let next : 4 * suc i ≡ 4 * i + 4 = omega arith in
    rw (back, written_slots a n (suc i) bytes left, next, ← (drop-drop 4 (4 * i) a)) (take-append-drop 4 (drop (4 * i) a))

pub slots_same : (a b : List ℕ) → Bytes a → Bytes b → length a ≡ slot_width * slot_count a → length b ≡ slot_width * slot_count b
    → slots_of a ≡ slots_of b → a ≡ b
slots_same a b bytes-a bytes-b whole-a whole-b e =
    sym (written_slots a (slot_count a) 0 bytes-a (rw zero-add (sym whole-a)))
    ∙ ap written e
    ∙ written_slots b (slot_count b) 0 bytes-b (rw zero-add (sym whole-b))
