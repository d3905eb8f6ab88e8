-- The laws of the plain search: an entry held against a key, entries one after the other, some of them at a time. Assumes nothing.
use mathlib.Core.Path.{◌≡◌, refl, sym, ap, ◌∙◌}
use mathlib.Core.Bool.{Bool, true, false, ◌||◌, or_assoc}
use mathlib.Core.List.{List}
use Prim.Native.Nat.{ℕ, zero, suc, ◌+◌, ◌-◌, ◌≤◌, ◌<◌}
use native.Mathlib.Nat.{sub-zero, add-zero, zero-add, suc-add, add-sub_cancel_left}
use native.Mathlib.Omega.{arith}
use lib.ListN.{length, take, drop}
use Rattle.wire.specs.Field.{part, same}
use Rattle.wire.specs.Places.{first_from}
use Rattle.wire.proofs.Texts.{same_short, part_length, part_part, part_differs}
use Rattle.wire.proofs.Scans.{first_here, first_more, first_ends}
use Rattle.register.specs.Register.{key_width, entry_place, key_at, in_use, search, is_there, stands}
use Rattle.register.proofs.Laws.{there_step}

-- ---- an entry that is held against a key: a word of it, then all

module _ (r x : List ℕ) (k : ℕ) (t : Bool) where
  pub word_between : (first n : ℕ) → first + n ≤ key_width
      → t ≡ same (take (entry_place k + first + n - (entry_place k + first)) (drop (entry_place k + first) r)) (take (first + n - first) (drop first x))
      → t ≡ same (part (key_at r k) first n) (part x first n)
  word_between first n fits tested =
      (rw (add-sub_cancel_left (entry_place k + first) n, add-sub_cancel_left first n) at tested)
      ∙ ap (λ (w : List ℕ). same w (part x first n)) (sym (part_part r (entry_place k) key_width first n fits))

  pub word_differs : (first n : ℕ) → t ≡ same (part (key_at r k) first n) (part x first n) → t ≡ false → false ≡ same (key_at r k) x
  word_differs first n words differs = part_differs (key_at r k) x first n (sym words ∙ differs)

  pub key_between : t ≡ same (take (entry_place k + key_width - entry_place k) (drop (entry_place k) r)) x → t ≡ same (key_at r k) x
  key_between tested = rw (add-sub_cancel_left (entry_place k) key_width) at tested

-- ---- a search that goes on from place k of n

abbrev pub stands_left : List ℕ → List ℕ → ℕ → ℕ → Bool
stands_left r x n k = is_there (first_from (λ j. same (key_at r j) x) (n - k) k)

-- one after the other
module _ (r x : List ℕ) (n : ℕ) where
  pub stands_ends : (k : ℕ) → n ≤ k → stands_left r x n k ≡ false
  stands_ends k h = ap is_there (first_ends (λ j. same (key_at r j) x) n k h)

  module _ (k : ℕ) (t : Bool) (here : t ≡ same (key_at r k) x) (h : k < n) where
    pub stands_here : t ≡ true → stands_left r x n k ≡ true
    stands_here e = ap is_there (first_here (λ j. same (key_at r j) x) n k h (sym here ∙ e))

    pub stands_more : t ≡ false → stands_left r x n (k + 1) ≡ stands_left r x n k
    stands_more e = ap is_there (first_more (λ j. same (key_at r j) x) n k h (sym here ∙ e))

-- some at a time: those up to place m, then those behind it
there_split : (f : ℕ → Bool) (m n i : ℕ) → is_there (first_from f (m + n) i) ≡ (is_there (first_from f m i) || is_there (first_from f n (i + m)))
unfolding first_from
there_split f zero n i = rw (zero-add n, add-zero i)
there_split f (suc m) n i =
    let more : suc m + n ≡ suc (m + n) = suc-add m n in
    let place : suc i + m ≡ i + suc m = omega arith in
    ap (λ (k : ℕ). is_there (first_from f k i)) more
    ∙ there_step f (m + n) i
    ∙ (rw (there_split f m n (suc i), there_step f m i, place) (sym (or_assoc (f i) (is_there (first_from f m (suc i))) (is_there (first_from f n (i + suc m))))))

module _ (r x : List ℕ) (n : ℕ) where
  pub stands_start : n ≡ in_use r → stands_left r x n 0 ≡ stands r x
  unfolding stands search
  stands_start e = rw (e, sub-zero)

  stands_split : (k m : ℕ) → k ≤ m → m ≤ n → stands_left r x n k ≡ (stands_left r x m k || stands_left r x n m)
  stands_split k m low high =
      let all : n - k ≡ m - k + (n - m) = omega arith in
      let place : k + (m - k) ≡ m = omega arith in
      let has : ℕ → Bool = λ j. same (key_at r j) x in
      ap (λ (l : ℕ). is_there (first_from has l k)) all
      ∙ there_split has (m - k) (n - m) k
      ∙ ap (λ (j : ℕ). stands_left r x m k || is_there (first_from has (n - m) j)) place

  module _ (k m : ℕ) (t : Bool) (told : t ≡ stands_left r x m k) (low : k ≤ m) (high : m ≤ n) where
    pub turn_finds : t ≡ true → stands_left r x n k ≡ true
    turn_finds e = stands_split k m low high ∙ (rw (← told, e))

    pub turn_goes_on : t ≡ false → stands_left r x n m ≡ stands_left r x n k
    turn_goes_on e = sym (stands_split k m low high ∙ (rw (← told, e)))

-- all of them, in two stretches
module _ (r x : List ℕ) (half : ℕ) (t : Bool) (told : t ≡ stands_left r x half 0) (n : ℕ) (all : n ≡ in_use r) (within : half ≤ n) where
  pub half_finds : t ≡ true → true ≡ stands r x
  half_finds e = sym (turn_finds r x n 0 half t told (omega arith) within e) ∙ stands_start r x n all

  pub half_goes_on : (u : Bool) → u ≡ stands_left r x n half → t ≡ false → u ≡ stands r x
  half_goes_on u rest e = rest ∙ turn_goes_on r x n 0 half t told (omega arith) within e ∙ stands_start r x n all

-- a key of another length stands nowhere
nowhere : (f : ℕ → Bool) (n i : ℕ) → ((k : ℕ) → k < i + n → f k ≡ false) → is_there (first_from f n i) ≡ false
unfolding first_from
nowhere f zero i none = refl
nowhere f (suc n) i none = there_step f n i ∙ (rw (none i (omega arith), nowhere f n (suc i) (λ k h. none k (omega arith))))

pub stands_not : (r x : List ℕ) → (length x ≡ key_width → ⊥) → stands r x ≡ false
unfolding stands search
stands_not r x other = nowhere (λ k. same (key_at r k) x) (in_use r) 0 differs
  where
    differs : (k : ℕ) → k < 0 + in_use r → same (key_at r k) x ≡ false
    differs k h = let wide : length (key_at r k) ≡ key_width = part_length r (entry_place k) key_width (omega arith) in
        same_short (key_at r k) x (λ e. other (sym e ∙ wide))
