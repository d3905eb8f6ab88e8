-- The laws of big-endian numbers, each once over the width: reading in pieces, the bound, writing, the round trip both ways, and the
-- order of two fields. Assumes nothing.
use mathlib.Core.Path.{◌≡◌, refl, sym, ap, ◌∙◌}
use mathlib.Core.Logic.{⊎_elim}
use mathlib.Core.Bool.{Bool, true, false, ◌&&◌, ◌||◌}
use mathlib.Core.List.{List, [], ◌∷◌, ◌++◌, append-nil, append_assoc}
use Prim.Native.Nat.{ℕ, zero, suc, ◌+◌, ◌-◌, ◌*◌, ◌/◌, ◌%◌, ◌^◌, ◌≤◌, ◌<◌, min}
use native.Mathlib.Nat.{pow-zero, pow-suc, pow-le-pow_right, add-zero, zero-add, add-suc, mul_assoc, mul_comm, zero-mul, mod-eq_of_lt, mod-lt, div-add-mod', lt_of_lt_of_le, le_trans, div-lt_iff_lt-mul, mul-add-div_right, mul-add-mod_self_right, mul-le-mul_right, eq-or-lt_of_le}
use native.Mathlib.Numerals.{add-one, one-add}
use native.Mathlib.Omega.{arith}
use lib.Arith.{digits_lt, digits_div, digits_mod, mod-mul}
use lib.Pow.{mod-mod-pow}
use lib.Dec.{lit<, eqb, ltb}
use lib.ListN.{length, get_or, take, drop, length-append, length-take, length-drop, take-append-drop}
use lib.Seq.{take-suc, take_all, get_or-drop}
use borrow.Author.Tests.{lt-ltb, le-ltb, ltb-true, ltb-false, eqb-true, eqb-false}
use Rattle.wire.proofs.Texts.{take_bytes, drop_bytes, part_bytes_lem, part_short}
use Rattle.wire.proofs.Sides.{le_or_lt}
use Rattle.wire.specs.Field.{Bytes, part, number_from, number_of, number_at, bytes_of, less}

-- ---- reading in pieces

from_append : (v : ℕ) (xs ys : List ℕ) → number_from v (xs ++ ys) ≡ number_from (number_from v xs) ys
unfolding number_from
from_append v [] ys = refl
from_append v (x ∷ xs) ys = from_append (v * 256 + x) xs ys

-- what stands before a field counts 256 times as much for each of its bytes
from_zero : (v : ℕ) (s : List ℕ) → number_from v s ≡ v * 256 ^ length s + number_of s
unfolding number_from
from_zero v [] = rw (pow-zero 256) (omega arith)
from_zero v (b ∷ bs) =
    let step : number_from (v * 256 + b) bs ≡ (v * 256 + b) * 256 ^ length bs + number_of bs = from_zero (v * 256 + b) bs in
    let alone : number_from (0 * 256 + b) bs ≡ (0 * 256 + b) * 256 ^ length bs + number_of bs = from_zero (0 * 256 + b) bs in
    let power : 256 ^ suc (length bs) ≡ 256 ^ length bs * 256 = pow-suc 256 (length bs) in
    rw power (omega arith)

pub number_append : (xs ys : List ℕ) → number_of (xs ++ ys) ≡ number_of xs * 256 ^ length ys + number_of ys
number_append xs ys = from_append 0 xs ys ∙ from_zero (number_of xs) ys

pub number_cons : (b : ℕ) (bs : List ℕ) → number_of (b ∷ bs) ≡ b * 256 ^ length bs + number_of bs
unfolding number_from
number_cons b bs = rw (zero-mul, zero-add) (from_zero b bs)

pub number_snoc : (s : List ℕ) (b : ℕ) → number_of (s ++ (b ∷ [])) ≡ number_of s * 256 + b
unfolding number_from
number_snoc s b = from_append 0 s (b ∷ [])

-- one byte more
pub number_more : (s : List ℕ) (i : ℕ) → i < length s → number_of (take (i + 1) s) ≡ number_of (take i s) * 256 + get_or s i 0
number_more s i h = rw (add-one, take-suc s i 0) (number_snoc (take i s) (get_or s i 0))

-- ---- the bound

pub bytes_tail : (b : ℕ) (bs : List ℕ) → Bytes (b ∷ bs) → Bytes bs
bytes_tail b bs h i = h (suc i)

pub number_below : (s : List ℕ) → Bytes s → number_of s < 256 ^ length s
unfolding number_from
number_below [] h = lit< tt
number_below (b ∷ bs) h =
    rw (number_cons b bs, pow-suc 256 (length bs), mul_comm (256 ^ length bs) 256)
    (digits_lt {q = b} {m = 256} {c = 256 ^ length bs} (h 0) (number_below bs (bytes_tail b bs h)))

-- ---- writing

pub bytes_length : (w x : ℕ) → length (bytes_of w x) ≡ w
unfolding bytes_of
bytes_length zero x = refl
bytes_length (suc w) x = length-append (bytes_of w _) (_ ∷ []) ∙ (rw (bytes_length w _) (add-one w))

-- ---- the round trip: a number written and read is what of it fits the width, a field read and written is itself

pub written_read : (w x : ℕ) → number_of (bytes_of w x) ≡ x % 256 ^ w
unfolding bytes_of number_from
written_read zero x = sym (rw (pow-zero 256) (omega arith))
written_read (suc w) x =
    number_snoc (bytes_of w (x / 256)) (x % 256)
    ∙ ap (λ (n : ℕ). n * 256 + x % 256) (written_read w (x / 256))
    ∙ (rw (pow-suc 256 w) (sym (mod-mul x {m = 256 ^ w} {c = 256} (pow-le-pow_right (lit< tt) {i = 0} {j = w} (omega arith)) (lit< tt))))

-- a number in two fields: the high one above the low one
pub bytes_split : (m n h l : ℕ) → l < 256 ^ n → bytes_of (m + n) (h * 256 ^ n + l) ≡ bytes_of m h ++ bytes_of n l
unfolding bytes_of
bytes_split m zero h l fits =
    let none : l ≡ 0 = (let one : 256 ^ 0 ≡ 1 = pow-zero 256 in omega arith) in
    rw (none, add-zero m, pow-zero 256, add-zero, append-nil) (ap (bytes_of m) (omega arith))
bytes_split m (suc n) h l fits =
    let power : 256 ^ suc n ≡ 256 ^ n * 256 = pow-suc 256 n in
    let regroup : h * 256 ^ suc n + l ≡ h * 256 ^ n * 256 + l = rw (power, mul_assoc h (256 ^ n) 256) in
    let below : l / 256 < 256 ^ n = (div-lt_iff_lt-mul {k = 256} {x = l} {y = 256 ^ n} (lit< tt)).1 (rw power at fits) in
    let high : (h * 256 ^ n * 256 + l) / 256 ≡ h * 256 ^ n + l / 256 = mul-add-div_right {m = 256} (lit< tt) (h * 256 ^ n) l in
    let low : (h * 256 ^ n * 256 + l) % 256 ≡ l % 256 = mul-add-mod_self_right (h * 256 ^ n) 256 l in
    rw (add-suc m n, regroup, high, low, bytes_split m n h (l / 256) below)
    (append_assoc (bytes_of m h) (bytes_of n (l / 256)) (l % 256 ∷ []))

one_byte : (b : ℕ) → b < 256 → bytes_of 1 b ≡ b ∷ []
unfolding bytes_of
one_byte b h = ap (λ (n : ℕ). n ∷ []) (mod-eq_of_lt h)

bytes_cons : (n b l : ℕ) → b < 256 → l < 256 ^ n → bytes_of (suc n) (b * 256 ^ n + l) ≡ b ∷ bytes_of n l
bytes_cons n b l hb hl = rw (← (one-add n), bytes_split 1 n b l hl, one_byte b hb)

pub read_written : (s : List ℕ) → Bytes s → bytes_of (length s) (number_of s) ≡ s
unfolding bytes_of
read_written [] h = refl
read_written (b ∷ bs) h =
    ap (bytes_of (suc (length bs))) (number_cons b bs)
    ∙ bytes_cons (length bs) b (number_of bs) (h 0) (number_below bs (bytes_tail b bs h))
    ∙ ap (λ (r : List ℕ). b ∷ r) (read_written bs (bytes_tail b bs h))

-- ---- the order of two fields of one width is that of their bytes

shift_less : (p x y : ℕ) (t : Bool) → ltb x y ≡ t → ltb (p + x) (p + y) ≡ t
shift_less p x y true e = lt-ltb (p + x) (p + y) (omega (arith, ltb-true x y e))
shift_less p x y false e = le-ltb (p + x) (p + y) (omega (arith, ltb-false x y e))

-- the order of two numbers of a high part and a low one, by the tests of the parts
parts_less : (a b p x y : ℕ) → x < p → y < p → (s : Bool) → ltb a b ≡ s → (u : Bool) → eqb a b ≡ u
    → ltb (a * p + x) (b * p + y) ≡ (s || u && ltb x y)
parts_less a b p x y hx hy true l u q =
    lt-ltb (a * p + x) (b * p + y) (omega (arith, mul-le-mul_right {m = suc a} {n = b} p (ltb-true a b l)))
parts_less a b p x y hx hy false l true q = rw (eqb-true a b q) (shift_less (b * p) x y (ltb x y) refl)
parts_less a b p x y hx hy false l false q =
    let above : b < a = ⊎_elim (λ (h : b ≡ a). absurd (eqb-false a b q (sym h))) (λ (h : b < a). h) (eq-or-lt_of_le (ltb-false a b l)) in
    le-ltb (a * p + x) (b * p + y) (omega (arith, mul-le-mul_right {m = suc b} {n = a} p above))

pub order : (xs ys : List ℕ) → Bytes xs → Bytes ys → length xs ≡ length ys → ltb (number_of xs) (number_of ys) ≡ less xs ys
unfolding less number_from
order [] [] hx hy e = refl
order [] (y ∷ ys) hx hy e = absurd (omega arith)
order (x ∷ xs) [] hx hy e = absurd (omega arith)
order (x ∷ xs) (y ∷ ys) hx hy e =
    let e' : length xs ≡ length ys = omega arith in
    rw (number_cons x xs, number_cons y ys, e')
    (rw (← (order xs ys (bytes_tail x xs hx) (bytes_tail y ys hy) e'))
    (parts_less x y (256 ^ length ys) (number_of xs) (number_of ys)
    (rw e' at (number_below xs (bytes_tail x xs hx))) (number_below ys (bytes_tail y ys hy)) (ltb x y) refl (eqb x y) refl))

-- ---- a machine word: one byte more, modulo 2 ^ 64

pub word_more : (n b : ℕ) → b < 256 → n % 2 ^ 64 % 2 ^ 56 * 256 + b ≡ (n * 256 + b) % 2 ^ 64
word_more n b h =
    rw (mod-mod-pow n 8 56)
    (sym (mod-mul (n * 256 + b) {m = 2 ^ 56} {c = 256} (lit< tt) (lit< tt)
    ∙ (rw (digits_div n {m = 256} {r = b} h, digits_mod n {m = 256} {r = b} h))))

-- a field of at most eight bytes fits a word
pub word_fits : (s : List ℕ) → Bytes s → length s ≤ 8 → number_of s % 2 ^ 64 ≡ number_of s
word_fits s h short = mod-eq_of_lt (lt_of_lt_of_le (number_below s h) (pow-le-pow_right (lit< tt) {j = 8} short))

pub word_step : (s : List ℕ) (i v b : ℕ) → Bytes s → i < length s → v ≡ number_of (take i s) % 2 ^ 64 → b ≡ get_or s i 0
    → v % 72057594037927936 * 256 + b ≡ number_of (take (i + 1) s) % 2 ^ 64
word_step s i v b bytes h read here = rw (read, here, number_more s i h) (word_more (number_of (take i s)) (get_or s i 0) (bytes i))

-- a field of w bytes holds no larger number
pub number_small_lem : (s : List ℕ) (at w : ℕ) → Bytes s → number_at s at w < 256 ^ w
number_small_lem s at w bytes = lt_of_lt_of_le (number_below (part s at w) (part_bytes_lem s at w bytes)) (pow-le-pow_right (lit< tt) (part_short s at w))

-- a field that was read as a word
pub field_read : (s : List ℕ) (at n : ℕ) (f : List ℕ) (r : ℕ) → Bytes s → n ≤ 8 → f ≡ part s at n → r ≡ number_of f % 2 ^ 64
    → (r ≡ number_at s at n) × (r < 256 ^ n)
field_read s at n f r bytes short ef er =
    let fits : number_at s at n % 2 ^ 64 ≡ number_at s at n = word_fits (part s at n) (part_bytes_lem s at n bytes) (le_trans (part_short s at n) short) in
    let value : r ≡ number_at s at n = er ∙ ap (λ (l : List ℕ). number_of l % 2 ^ 64) ef ∙ fits in
    (value, rw value (number_small_lem s at n bytes))

-- ---- four bytes, and eight, as a sum of what each weighs

four_first : (s : List ℕ) → 4 ≤ length s → get_or s 0 0 * 16777216 + get_or s 1 0 * 65536 + get_or s 2 0 * 256 + get_or s 3 0 ≡ number_of (take 4 s)
unfolding number_from
four_first s h =
    omega (arith, number_more s 0 (omega arith), number_more s 1 (omega arith), number_more s 2 (omega arith), number_more s 3 (omega arith))

pub four_read : (s : List ℕ) (at a b c d : ℕ) → at + 4 ≤ length s → a ≡ get_or s at 0 → b ≡ get_or s (at + 1) 0 → c ≡ get_or s (at + 2) 0
    → d ≡ get_or s (at + 3) 0 → a * 16777216 + b * 65536 + c * 256 + d ≡ number_at s at 4
four_read s at a b c d h ea eb ec ed =
    let long : 4 ≤ length (drop at s) = rw (length-drop at s) (omega arith) in
    let first : get_or (drop at s) 0 0 ≡ get_or s at 0 = get_or-drop at s 0 0 ∙ ap (λ (k : ℕ). get_or s k 0) (add-zero at) in
    omega (arith, ea, eb, ec, ed, first, get_or-drop at s 1 0, get_or-drop at s 2 0, get_or-drop at s 3 0, four_first (drop at s) long)

module _ (s : List ℕ) (bytes : Bytes s) where
  pub eight_whole : (a b : ℕ) → length s ≡ 8 → a ≡ number_at s 0 4 → b ≡ number_at s 4 4 → a * 4294967296 + b ≡ number_of s % 2 ^ 64
  eight_whole a b long ea eb =
      let short : length (drop 4 s) ≡ 4 = rw (length-drop 4 s) (omega arith) in
      let all : length (drop 4 s) ≤ 4 = omega arith in
      let last : b ≡ number_of (drop 4 s) = eb ∙ ap number_of (take_all 4 (drop 4 s) all) in
      let split : number_of s ≡ number_of (take 4 s) * 256 ^ length (drop 4 s) + number_of (drop 4 s) = ap number_of (sym (take-append-drop 4 s)) ∙ number_append (take 4 s) (drop 4 s) in
      let weighed : number_of s ≡ number_of (take 4 s) * 256 ^ 4 + number_of (drop 4 s) = rw short at split in
      (omega (arith, ea, last, weighed)) ∙ sym (word_fits s bytes (omega arith))

-- ten bytes as two words: all but the last eight bytes, and the last eight
pub halves_read : (f : List ℕ) (high : ℕ) → Bytes f → length f ≤ 10 → high ≡ length f - min 8 (length f)
    → number_of (take high f) % 2 ^ 64 * 2 ^ 64 + number_of f % 2 ^ 64 ≡ number_of f
unfolding number_from
halves_read f high bytes short eh = ⊎_elim long little (le_or_lt 8 (length f))
  where
    split : number_of f ≡ number_of (take high f) * 256 ^ length (drop high f) + number_of (drop high f)
    split = ap number_of (sym (take-append-drop high f)) ∙ number_append (take high f) (drop high f)

    front : number_of (take high f) % 2 ^ 64 ≡ number_of (take high f)
    front = word_fits (take high f) (take_bytes high f bytes) (rw (length-take high f) (omega arith))

    long : 8 ≤ length f → number_of (take high f) % 2 ^ 64 * 2 ^ 64 + number_of f % 2 ^ 64 ≡ number_of f
    long h =
        let last : length (drop high f) ≡ 8 = rw (length-drop high f) (omega arith) in
        let below : number_of (drop high f) < 2 ^ 64 = rw last at (number_below (drop high f) (drop_bytes high f bytes)) in
        let whole : number_of f ≡ number_of (take high f) * 2 ^ 64 + number_of (drop high f) = rw last at split in
        rw (front, whole, digits_mod (number_of (take high f)) {m = 2 ^ 64} below)

    little : length f < 8 → number_of (take high f) % 2 ^ 64 * 2 ^ 64 + number_of f % 2 ^ 64 ≡ number_of f
    little h =
        let none : high ≡ 0 = omega arith in
        let empty : number_of (take high f) ≡ 0 = rw none in
        rw (empty, word_fits f bytes (omega arith)) (zero-add (number_of f))

-- a field of one byte
first_read : (s : List ℕ) → number_of (take 1 s) ≡ get_or s 0 0
unfolding number_from
first_read [] = refl
first_read (b ∷ bs) = rw (zero-mul, zero-add)

pub one_read : (s : List ℕ) (at : ℕ) → number_at s at 1 ≡ get_or s at 0
one_read s at = first_read (drop at s) ∙ get_or-drop at s 0 0 ∙ ap (λ (k : ℕ). get_or s k 0) (add-zero at)

-- what passes the width is dropped
pub bytes_mod : (w x : ℕ) → bytes_of w (x % 256 ^ w) ≡ bytes_of w x
unfolding bytes_of
bytes_mod w x =
    let below : x % 256 ^ w < 256 ^ w = mod-lt x (pow-le-pow_right (lit< tt) {i = 0} {j = w} (omega arith)) in
    sym (
    ap (bytes_of w) (sym (div-add-mod' x (256 ^ w)))
    ∙ ap (λ (n : ℕ). bytes_of n (x / 256 ^ w * 256 ^ w + x % 256 ^ w)) (sym (zero-add w))
    ∙ bytes_split 0 w (x / 256 ^ w) (x % 256 ^ w) below)
