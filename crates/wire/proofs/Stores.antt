-- The laws of `sets`, a run of stores: pieces written one after the other, and what a field reads as after a write. Assumes nothing.
use mathlib.Core.Path.{◌≡◌, refl, sym, ap, ◌∙◌}
use mathlib.Core.Logic.{◌⊎◌, inl, inr, ⊎_elim}
use mathlib.Core.List.{List, [], ◌∷◌, ◌++◌, append_assoc, append-nil}
use Prim.Native.Nat.{ℕ, zero, suc, ◌+◌, ◌-◌, ◌*◌, ◌/◌, ◌%◌, ◌^◌, ◌≤◌, ◌<◌, min}
use native.Mathlib.Nat.{add-zero, add-suc, suc-add, mod-lt}
use native.Mathlib.Numerals.{add-one}
use native.Mathlib.Omega.{arith}
use lib.ListN.{length, get_or, take, drop, set, drop_of_length-le, length-append, length-drop, take-append-drop}
use lib.Seq.{sets, drop-cons, drop-drop, set_comm, set_out, sets-eq, take_at, drop_at, length-take-le, drop-set-add, drop-set-lt, take-set-le, take_all, length-sets, take-add}
use Rattle.wire.specs.Field.{part, bytes_of, Bytes}
use Rattle.wire.proofs.Sides.{le_or_lt}
use Rattle.wire.proofs.Numbers.{bytes_length, bytes_split}
use lib.Dec.{lit<}
use borrow.Rule.Slice.PartMut.{mid_of, put_mid}
use Rattle.wire.proofs.Texts.{part_length}

pub sets_append : (d : List ℕ) (at : ℕ) (xs ys : List ℕ) → sets d at (xs ++ ys) ≡ sets (sets d at xs) (at + length xs) ys
sets_append d at [] ys = rw add-zero
sets_append d at (x ∷ xs) ys =
    sets_append (set d at x) (suc at) xs ys
    ∙ ap (λ (k : ℕ). sets (sets (set d at x) (suc at) xs) k ys) (suc-add at (length xs) ∙ sym (add-suc at (length xs)))

-- the last of a run may be stored first
pub sets_last : (d : List ℕ) (at : ℕ) (xs : List ℕ) (y : ℕ) → sets d at (xs ++ (y ∷ [])) ≡ sets (set d (at + length xs) y) at xs
sets_last d at [] y = rw add-zero
sets_last d at (x ∷ xs) y =
    let place : suc at + length xs ≡ at + suc (length xs) = omega arith in
    sets_last (set d at x) (suc at) xs y
    ∙ ap (λ (k : ℕ). sets (set (set d at x) k y) (suc at) xs) place
    ∙ ap (λ (l : List ℕ). sets l (suc at) xs) (set_comm d at (at + suc (length xs)) x y (omega arith))

-- a run that starts past the end stores nothing
pub sets_out : (d : List ℕ) (at : ℕ) (xs : List ℕ) → length d ≤ at → sets d at xs ≡ d
sets_out d at [] h = refl
sets_out d at (x ∷ xs) h = rw (set_out d at x h) (sets_out d (suc at) xs (omega arith))

-- what was stored is read there
pub part_stored : (d : List ℕ) (at n : ℕ) (xs : List ℕ) → length xs ≡ n → at + n ≤ length d → part (sets d at xs) at n ≡ xs
part_stored d at n xs e h =
    let room : at + length xs ≤ length d = omega arith in
    let front : length (take at d) ≡ at = length-take-le at d (omega arith) in
    rw (sets-eq xs d at room, append_assoc (take at d) xs (drop (at + length xs) d), drop_at (take at d) (xs ++ drop (at + length xs) d) at front)
    (take_at xs (drop (at + length xs) d) n e)

-- and elsewhere nothing has changed
set_before : (d : List ℕ) (at x a n : ℕ) → a + n ≤ at → part (set d at x) a n ≡ part d a n
set_before d at x a n h =
    let place : at ≡ a + (at - a) = omega arith in
    ap (λ (k : ℕ). part (set d k x) a n) place
    ∙ ap (take n) (drop-set-add a d (at - a) x)
    ∙ take-set-le n (drop a d) (at - a) x (omega arith)

pub part_before : (d : List ℕ) (at : ℕ) (xs : List ℕ) (a n : ℕ) → a + n ≤ at → part (sets d at xs) a n ≡ part d a n
part_before d at [] a n h = refl
part_before d at (x ∷ xs) a n h = part_before (set d at x) (suc at) xs a n (omega arith) ∙ set_before d at x a n h

pub part_after : (d : List ℕ) (at : ℕ) (xs : List ℕ) (a n : ℕ) → at + length xs ≤ a → part (sets d at xs) a n ≡ part d a n
part_after d at [] a n h = refl
part_after d at (x ∷ xs) a n h =
    part_after (set d at x) (suc at) xs a n (omega arith) ∙ ap (take n) (drop-set-lt a d at x (omega arith))

-- ---- a number stored from its last digit on: to any base, whatever stands for a digit

module _ (base : ℕ) (digit : ℕ → ℕ) (digits : ℕ → ℕ → List ℕ)
    (long : (j x : ℕ) → length (digits j x) ≡ j) (more : (j x : ℕ) → digits (suc j) x ≡ digits j (x / base) ++ (digit x ∷ [])) where
  last_first : (d : List ℕ) (at j x : ℕ) → sets d at (digits (suc j) x) ≡ sets (set d (at + j) (digit x)) at (digits j (x / base))
  last_first d at j x =
      ap (sets d at) (more j x)
      ∙ sets_last d at (digits j (x / base)) (digit x)
      ∙ ap (λ (k : ℕ). sets (set d (at + k) (digit x)) at (digits j (x / base))) (long j (x / base))

  pub digit_last : (d : List ℕ) (at i x : ℕ) → 0 < i → sets (set d (at + (i - 1)) (digit x)) at (digits (i - 1) (x / base)) ≡ sets d at (digits i x)
  digit_last d at zero x h = absurd (omega arith)
  digit_last d at (suc j) x h = let less : suc j - 1 ≡ j = omega arith in rw less (sym (last_first d at j x))

  -- a digit that has no room is left out
  pub digit_last_out : (d : List ℕ) (at i x : ℕ) → 0 < i → length d ≤ at + (i - 1) → sets d at (digits (i - 1) (x / base)) ≡ sets d at (digits i x)
  digit_last_out d at i x h out =
      ap (λ (l : List ℕ). sets l at (digits (i - 1) (x / base))) (sym (set_out d (at + (i - 1)) (digit x) out)) ∙ digit_last d at i x h

-- bytes are the digits to the base 256
bytes_more : (j x : ℕ) → bytes_of (suc j) x ≡ bytes_of j (x / 256) ++ (x % 256 ∷ [])
unfolding bytes_of
bytes_more j x = refl

pub number_last : (d : List ℕ) (at i x : ℕ) → 0 < i
    → sets (set d (at + (i - 1)) (x % 256)) at (bytes_of (i - 1) (x / 256)) ≡ sets d at (bytes_of i x)
number_last = digit_last 256 (λ x. x % 256) bytes_of bytes_length bytes_more

pub number_last_out : (d : List ℕ) (at i x : ℕ) → 0 < i → length d ≤ at + (i - 1)
    → sets d at (bytes_of (i - 1) (x / 256)) ≡ sets d at (bytes_of i x)
number_last_out = digit_last_out 256 (λ x. x % 256) bytes_of bytes_length bytes_more

pub number_ends : (d : List ℕ) (at i x : ℕ) → i ≤ 0 → sets d at (bytes_of i x) ≡ d
unfolding bytes_of
number_ends d at i x h = let none : i ≡ 0 = omega arith in rw none

-- ten bytes: the high half, then the low one
pub halves_stored : (d : List ℕ) (at high low : ℕ) → low < 2 ^ 64
    → sets (sets d at (bytes_of 2 high)) (at + 2) (bytes_of 8 low) ≡ sets d at (bytes_of 10 (high * 2 ^ 64 + low))
halves_stored d at high low h = sym (
    ap (sets d at) (bytes_split 2 8 high low h)
    ∙ sets_append d at (bytes_of 2 high) (bytes_of 8 low)
    ∙ ap (λ (n : ℕ). sets (sets d at (bytes_of 2 high)) (at + n) (bytes_of 8 low)) (bytes_length 2 high))

-- ---- a text stored from its first byte on

pub text_first : (d : List ℕ) (at i : ℕ) (s : List ℕ) → i < length s
    → sets (set d (at + i) (get_or s i 0)) (at + (i + 1)) (drop (i + 1) s) ≡ sets d (at + i) (drop i s)
text_first d at i s h =
    let next : at + (i + 1) ≡ suc (at + i) = omega arith in
    rw (drop-cons s i 0 h, next, add-one i)

pub text_ends : (d : List ℕ) (at i : ℕ) (s : List ℕ) → min (length s) (length d - min at (length d)) ≤ i → sets d (at + i) (drop i s) ≡ d
text_ends d at i s h = ⊎_elim
    (λ (e : length s ≤ i). rw (drop_of_length-le s e))
    (λ (l : length d ≤ at + i). sets_out d (at + i) (drop i s) l)
    (ends (length s) (length d) at i h)
  where
    ends : (a b at i : ℕ) → min a (b - min at b) ≤ i → (a ≤ i) ⊎ (b ≤ at + i)
    ends a b at i h = ⊎_elim (λ (l : a ≤ i). inl l) (λ (l : i < a). inr (omega arith)) (le_or_lt a i)

-- as much of it as has room, copied over the part there
pub text_stored : (d : List ℕ) (at : ℕ) (s back : List ℕ) (from n to : ℕ) → from ≡ min at (length d) → n ≡ min (length s) (length d - from) → to ≡ n → back ≡ take n s
    → put_mid from to d back ≡ sets d at s
text_stored d at s back from n to ef en et eb =
    rw (eb, et) (over ∙ place ∙ sym (ap (sets d at) (sym (take-append-drop n s)) ∙ sets_append d at (take n s) (drop n s) ∙ rest))
  where
    long : length (take n s) ≡ n
    long = length-take-le n s (omega arith)

    -- what has no room stores nothing
    rest : sets (sets d at (take n s)) (at + length (take n s)) (drop n s) ≡ sets d at (take n s)
    rest = ⊎_elim
        (λ (all : length s ≤ n). rw (drop_of_length-le s all))
        (λ (less : n < length s). sets_out (sets d at (take n s)) (at + length (take n s)) (drop n s) (rw (long, length-sets d at (take n s)) (omega arith)))
        (le_or_lt (length s) n)

    place : sets d from (take n s) ≡ sets d at (take n s)
    place = ⊎_elim
        (λ (within : at ≤ length d). let same : from ≡ at = omega arith in rw same)
        (λ (out : length d < at). let none : n ≡ 0 = omega arith in rw none)
        (le_or_lt at (length d))

    over : put_mid from n d (take n s) ≡ sets d from (take n s)
    over = sym (
        sets-eq (take n s) d from (omega (arith, long))
        ∙ append_assoc (take from d) (take n s) (drop (from + length (take n s)) d)
        ∙ ap (λ (l : List ℕ). take from d ++ (take n s ++ l)) (rw long (sym (drop-drop n from d))))

-- ---- runs of stores

-- a run that goes on where another of n stores ended
pub sets_then : (d : List ℕ) (at n : ℕ) (xs ys : List ℕ) → length xs ≡ n → sets (sets d at xs) (at + n) ys ≡ sets d at (xs ++ ys)
sets_then d at n xs ys e = rw (← e) (sym (sets_append d at xs ys))

set_swap : (d : List ℕ) (a x b : ℕ) (ys : List ℕ) → a < b → sets (set d a x) b ys ≡ set (sets d b ys) a x
set_swap d a x b [] h = refl
set_swap d a x b (y ∷ ys) h =
    ap (λ (l : List ℕ). sets l (suc b) ys) (set_comm d a b x y (omega arith)) ∙ set_swap (set d b y) a x (suc b) ys (omega arith)

-- runs into two ranges that do not meet may change places
pub sets_swap : (d : List ℕ) (a : ℕ) (xs : List ℕ) (b : ℕ) (ys : List ℕ) → a + length xs ≤ b
    → sets (sets d a xs) b ys ≡ sets (sets d b ys) a xs
sets_swap d a [] b ys h = refl
sets_swap d a (x ∷ xs) b ys h =
    sets_swap (set d a x) (suc a) xs b ys (omega arith)
    ∙ ap (λ (l : List ℕ). sets l (suc a) xs) (set_swap d a x b ys (omega arith))

behind : (o : List ℕ) (at k : ℕ) (vs : List ℕ) → take at o ++ sets (drop at o) k vs ≡ sets o (at + k) vs
behind o at k [] = take-append-drop at o
behind o at k (v ∷ vs) =
    rw (← (drop-set-add at o k v), ← (take-set-le at o (at + k) v (omega arith)), ← (add-suc at k))
    (behind (set o (at + k) v) at (suc k) vs)

-- the part from a place on was lent, and comes back after a run of stores: the run stands in the whole, that much further on
pub middle_lent : (o : List ℕ) (at k to : ℕ) (vs back : List ℕ) → to ≡ at + k → back ≡ sets (mid_of at (length o - at) o) k vs
    → put_mid at (length o - at) o back ≡ sets o to vs
middle_lent o at k to vs back place e =
    let all : length (drop at o) ≤ length o - at = rw (length-drop at o) (omega arith) in
    rw (place, e, take_all (length o - at) (drop at o) all, drop_of_length-le (drop at o) all, append-nil) (behind o at k vs)

-- what stands past a store
past_store : (d : List ℕ) (at : ℕ) (xs : List ℕ) → at + length xs ≤ length d → drop (at + length xs) (sets d at xs) ≡ drop (at + length xs) d
past_store d at xs h =
    let front : length (take at d) ≡ at = length-take-le at d (omega arith) in
    ap (drop (at + length xs)) (sets-eq xs d at h)
    ∙ drop_at (take at d ++ xs) (drop (at + length xs) d) (at + length xs) (simp length-append (omega arith))

-- a store over another of the same width
pub sets_over : (d : List ℕ) (at : ℕ) (xs ys : List ℕ) → length xs ≡ length ys → at + length ys ≤ length d
    → sets (sets d at xs) at ys ≡ sets d at ys
sets_over d at xs ys equal h =
    sets-eq ys (sets d at xs) at (rw (length-sets d at xs) h)
    ∙ (rw (part_before d at xs 0 at (omega arith), ← equal, past_store d at xs (omega arith), equal))
    ∙ sym (sets-eq ys d at h)

pub sets_same : (d : List ℕ) (at n : ℕ) → at + n ≤ length d → sets d at (part d at n) ≡ d
sets_same d at n h =
    let wide : length (part d at n) ≡ n = part_length d at n h in
    sets-eq (part d at n) d at (omega arith)
    ∙ (rw (wide, ← (take-add at n d)) (take-append-drop (at + n) d))

-- ---- bytes stay bytes

append_bytes : (xs ys : List ℕ) → Bytes xs → Bytes ys → Bytes (xs ++ ys)
append_bytes [] ys hx hy i = hy i
append_bytes (x ∷ xs) ys hx hy zero = hx 0
append_bytes (x ∷ xs) ys hx hy (suc i) = append_bytes xs ys (λ k. hx (suc k)) hy i

pub written_bytes : (w x : ℕ) → Bytes (bytes_of w x)
unfolding bytes_of
written_bytes zero x i = lit< tt
written_bytes (suc w) x i = append_bytes (bytes_of w (x / 256)) (x % 256 ∷ []) (written_bytes w (x / 256)) last i
  where
    last : Bytes (x % 256 ∷ [])
    last zero = mod-lt x (lit< tt)
    last (suc i) = lit< tt

set_bytes : (d : List ℕ) (at x : ℕ) → Bytes d → x < 256 → Bytes (set d at x)
set_bytes [] at x hd hx i = hd i
set_bytes (y ∷ d) zero x hd hx zero = hx
set_bytes (y ∷ d) zero x hd hx (suc i) = hd (suc i)
set_bytes (y ∷ d) (suc at) x hd hx zero = hd 0
set_bytes (y ∷ d) (suc at) x hd hx (suc i) = set_bytes d at x (λ k. hd (suc k)) hx i

pub sets_bytes : (d : List ℕ) (at : ℕ) (xs : List ℕ) → Bytes d → Bytes xs → Bytes (sets d at xs)
sets_bytes d at [] hd hx = hd
sets_bytes d at (x ∷ xs) hd hx = sets_bytes (set d at x) (suc at) xs (set_bytes d at x hd (hx 0)) (λ k. hx (suc k))
