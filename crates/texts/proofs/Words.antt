-- The laws of texts that are compared eight bytes at a time: a word is the number of its bytes, lowest first, it is put together from
-- its halves, and two words are equal exactly if their bytes are. Assumes nothing.
use mathlib.Core.Path.{◌≡◌, refl, sym, ap, ap₂, ◌∙◌}
use mathlib.Core.Bool.{Bool, true, false, ◌&&◌, and_assoc, and-true, false≢true}
use mathlib.Core.List.{List, [], ◌∷◌, ◌++◌, reverse, reverse_aux, reverse-append, reverse-reverse}
use Prim.Native.Nat.{ℕ, zero, suc, ◌+◌, ◌-◌, ◌*◌, ◌^◌, ◌≤◌}
use native.Mathlib.Nat.{add-zero, add_comm}
use native.Mathlib.Omega.{arith}
use lib.Dec.{eqb, lit<}
use lib.ListN.{length, get_or, take, drop, length-reverse}
use lib.Seq.{take-add, take_all, take-take, drop-drop, get_or-drop}
use borrow.Author.Tests.{eqb-true, eqb-false}
use Rattle.std.specs.Int.{w64, from_le_bytes}
use Rattle.wire.specs.Field.{Bytes, part, number_from, number_of, bytes_of, same}
use Rattle.wire.proofs.Numbers.{number_append, read_written}
use Rattle.wire.proofs.Texts.{same_itself, same_equal, part_length, drop_take, part_differs}

-- ---- the number of a part, lowest byte first

abbrev pub low : List ℕ → ℕ → ℕ → ℕ
low s at n = number_of (reverse (part s at n))

first_low : (s : List ℕ) → number_of (reverse (take 1 s)) ≡ get_or s 0 0
unfolding number_from
first_low [] = refl
first_low (b ∷ bs) = omega arith

pub low_one : (s : List ℕ) (at x : ℕ) → x ≡ get_or s at 0 → x ≡ low s at 1
low_one s at x e =
    e ∙ sym (first_low (drop at s) ∙ get_or-drop at s 0 0 ∙ ap (λ (k : ℕ). get_or s k 0) (add-zero at))

-- put together from two halves
pub low_joined : (s : List ℕ) (at m n x y : ℕ) → at + m ≤ length s → x ≡ low s at m → y ≡ low s (at + m) n
    → x + y * 256 ^ m ≡ low s at (m + n)
low_joined s at m n x y h ex ey = rw (ex, ey) (add_comm (low s at m) (low s (at + m) n * 256 ^ m) ∙ sym joined)
  where
    wide : length (reverse (part s at m)) ≡ m
    wide = length-reverse (part s at m) ∙ part_length s at m h

    halves : part s at (m + n) ≡ (part s at m ++ part s (at + m) n)
    halves = take-add m n (drop at s) ∙ ap (λ (l : List ℕ). part s at m ++ take n l) (drop-drop m at s)

    joined : low s at (m + n) ≡ low s (at + m) n * 256 ^ m + low s at m
    joined =
        ap (λ (l : List ℕ). number_of (reverse l)) halves
        ∙ ap number_of (reverse-append (part s at m) (part s (at + m) n))
        ∙ number_append (reverse (part s (at + m) n)) (reverse (part s at m))
        ∙ ap (λ (k : ℕ). low s (at + m) n * 256 ^ k + low s at m) wide

-- eight bytes, as the library weighs them
pub low_eight : (s : List ℕ) (at : ℕ) → at + 8 ≤ length s
    → from_le_bytes w64 (get_or s at 0 ∷ get_or s (at + 1) 0 ∷ get_or s (at + 2) 0 ∷ get_or s (at + 3) 0 ∷ get_or s (at + 4) 0 ∷ get_or s (at + 5) 0 ∷ get_or s (at + 6) 0 ∷ get_or s (at + 7) 0 ∷ []) ≡ low s at 8
low_eight s at h = more 7 _ (omega arith) (more 6 _ (omega arith) (more 5 _ (omega arith) (more 4 _ (omega arith) (more 3 _ (omega arith) (more 2 _ (omega arith) (more 1 _ (omega arith) (low_one s at _ refl)))))))
  where
    more : (n x : ℕ) → at + n ≤ length s → x ≡ low s at n → x + get_or s (at + n) 0 * 256 ^ n ≡ low s at (n + 1)
    more n x h e = low_joined s at n 1 x _ h e (low_one s (at + n) _ refl)

-- ---- equal words

turned_bytes : (s r : List ℕ) → Bytes s → Bytes r → Bytes (reverse_aux s r)
turned_bytes [] r hs hr i = hr i
turned_bytes (x ∷ xs) r hs hr i = turned_bytes xs (x ∷ r) (λ k. hs (suc k)) grown i
  where
    grown : Bytes (x ∷ r)
    grown zero = hs 0
    grown (suc k) = hr k

reverse_bytes : (s : List ℕ) → Bytes s → Bytes (reverse s)
reverse_bytes s h = turned_bytes s [] h (λ k. lit< tt)

low_equal : (s t : List ℕ) → Bytes s → Bytes t → length s ≡ length t → number_of (reverse s) ≡ number_of (reverse t) → s ≡ t
low_equal s t hs ht e equal = sym (reverse-reverse s) ∙ ap reverse turned ∙ reverse-reverse t
  where
    long : length (reverse s) ≡ length (reverse t)
    long = length-reverse s ∙ e ∙ sym (length-reverse t)

    turned : reverse s ≡ reverse t
    turned =
        sym (read_written (reverse s) (reverse_bytes s hs))
        ∙ ap₂ bytes_of long equal
        ∙ read_written (reverse t) (reverse_bytes t ht)

pub low_same : (s t : List ℕ) (x y : ℕ) → Bytes s → Bytes t → length s ≡ length t → x ≡ number_of (reverse s) → y ≡ number_of (reverse t)
    → eqb x y ≡ same s t
low_same s t x y hs ht e ex ey = by_test (eqb x y) refl (same s t) refl
  where
    by_test : (b : Bool) → eqb x y ≡ b → (c : Bool) → same s t ≡ c → eqb x y ≡ same s t
    by_test true p true q = p ∙ sym q
    by_test false p false q = p ∙ sym q
    by_test true p false q =
        let equal : s ≡ t = low_equal s t hs ht e (sym ex ∙ eqb-true x y p ∙ ey) in
        absurd (false≢true (sym q ∙ ap (same s) (sym equal) ∙ same_itself s))
    by_test false p true q = absurd (eqb-false x y p (ex ∙ ap (λ (l : List ℕ). number_of (reverse l)) (same_equal s t q) ∙ sym ey))

-- ---- a comparison in pieces, from the far end: up to place i, s and t are equal exactly if they are as a whole

same_pieces : (n : ℕ) (s t : List ℕ) → same s t ≡ (same (take n s) (take n t) && same (drop n s) (drop n t))
unfolding same
same_pieces zero s t = refl
same_pieces (suc n) [] [] = refl
same_pieces (suc n) [] (y ∷ ys) = refl
same_pieces (suc n) (x ∷ xs) [] = refl
same_pieces (suc n) (x ∷ xs) (y ∷ ys) =
    rw (same_pieces n xs ys) (sym (and_assoc (eqb x y) (same (take n xs) (take n ys)) (same (drop n xs) (drop n ys))))

module _ (s t : List ℕ) where
  pub pieces_start : length s ≡ length t → same (take (length s) s) (take (length s) t) ≡ same s t
  pieces_start together = ap₂ same (take_all (length s) s (omega arith)) (take_all (length s) t (omega arith))

  -- the n bytes before those that were compared are equal
  pub piece_more : (i n end : ℕ) → i ≡ end - n → n ≤ end → same (part s i n) (part t i n) ≡ true → same (take end s) (take end t) ≡ same s t
      → same (take i s) (take i t) ≡ same s t
  piece_more i n end place fits alike so_far =
      let whole : end ≡ i + n = omega arith in
      sym (and-true (same (take i s) (take i t))) ∙ sym joined ∙ (rw whole at so_far)
    where
      joined : same (take (i + n) s) (take (i + n) t) ≡ (same (take i s) (take i t) && true)
      joined =
          same_pieces i (take (i + n) s) (take (i + n) t)
          ∙ ap₂ ◌&&◌
          (ap₂ same (take-take i (i + n) s (omega arith)) (take-take i (i + n) t (omega arith)))
          (ap₂ same (drop_take i n s) (drop_take i n t) ∙ alike)

  -- what is left lies in the first n bytes
  pub piece_first : (n end : ℕ) (r : Bool) → end ≤ n → r ≡ same (part s 0 n) (part t 0 n) → same (take end s) (take end t) ≡ same s t → r ≡ same s t
  piece_first n end false h told so_far = part_differs s t 0 n (sym told)
  piece_first n end true h told so_far = sym (same_itself (take end s)) ∙ ap (same (take end s)) left ∙ so_far
    where
      left : take end s ≡ take end t
      left =
          sym (take-take end n s h) ∙ ap (take end) (same_equal (part s 0 n) (part t 0 n) (sym told)) ∙ take-take end n t h
