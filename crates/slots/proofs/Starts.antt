-- The start of a key by its digits: a remainder after each digit, or after four, comes to the remainder of the whole. Assumes nothing.
use mathlib.Core.Path.{◌≡◌, refl, sym, ap, ◌∙◌}
use mathlib.Core.List.{List, [], ◌∷◌, ◌++◌}
use Prim.Native.Nat.{ℕ, zero, suc, ◌+◌, ◌-◌, ◌*◌, ◌/◌, ◌%◌, ◌≤◌, ◌<◌}
use native.Mathlib.Nat.{add-mul, mul_assoc, mod-add-div, add-mul-mod_self_left, zero-mod, mod-lt, mod-eq_of_lt, mod-mod}
use native.Mathlib.Numerals.{add-one}
use native.Mathlib.Omega.{arith}
use lib.Dec.{lit<}
use lib.ListN.{length, take, drop, get_or, length-drop, take-append-drop, drop_of_length-le}
use lib.Seq.{take_all, drop-cons, get_or-take}
use Rattle.slots.specs.Slots.{start_at}
use Rattle.slots.specs.Stored.{digits_from, digits}
use Rattle.slots.proofs.Walks.{start_rest}

digits_append : (v : ℕ) (s t : List ℕ) → digits_from v (s ++ t) ≡ digits_from (digits_from v s) t
unfolding digits_from
digits_append v [] t = refl
digits_append v (b ∷ s) t = digits_append (v * 257 + b) s t

digits_four : (v : ℕ) (s : List ℕ) → 4 ≤ length s
    → digits_from v s ≡ digits_from (v * 4362470401 + (get_or s 0 0 * 257 + get_or s 1 0) * 66049 + (get_or s 2 0 * 257 + get_or s 3 0)) (drop 4 s)
unfolding digits_from
digits_four v [] h = absurd (omega arith)
digits_four v (a ∷ []) h = absurd (omega arith)
digits_four v (a ∷ b ∷ []) h = absurd (omega arith)
digits_four v (a ∷ b ∷ c ∷ []) h = absurd (omega arith)
digits_four v (a ∷ b ∷ c ∷ d ∷ s) h = ap (λ (x : ℕ). digits_from x s) (omega arith)

digits_one : (v : ℕ) (s : List ℕ) (i : ℕ) → i < length s → digits_from v (drop i s) ≡ digits_from (v * 257 + get_or s i 0) (drop (i + 1) s)
unfolding digits_from
digits_one v s i h = rw (drop-cons s i 0 h, add-one i)

-- a remainder may be taken before digits follow
rest_first : (d m b n : ℕ) → (d % n * m + b) % n ≡ (d * m + b) % n
rest_first d m b n = sym (add-mul-mod_self_left (d % n * m + b) n (d / n * m)) ∙ ap (λ (x : ℕ). x % n) whole
  where
    parts : d * m ≡ d % n * m + n * (d / n * m)
    parts =
        ap (λ (x : ℕ). x * m) (sym (mod-add-div d n))
        ∙ add-mul (d % n) (n * (d / n)) m
        ∙ ap (λ (x : ℕ). d % n * m + x) (mul_assoc n (d / n) m)

    whole : d % n * m + b + n * (d / n * m) ≡ d * m + b
    whole = omega (arith, parts)

pub start_none : (v n : ℕ) → n ≡ 0 → 0 ≡ start_at v n
unfolding start_at
start_none v n e = rw e

-- before the first byte
pub start_empty : (n : ℕ) → 0 ≡ start_at (digits []) n
unfolding start_at digits_from
start_empty zero = refl
start_empty (suc n) = sym (zero-mod (suc n))

-- nor before all that follow
digits_rest : (n v : ℕ) (s : List ℕ) → digits_from (v % n) s % n ≡ digits_from v s % n
unfolding digits_from
digits_rest n v [] = mod-mod v n
digits_rest n v (b ∷ s) =
    sym (digits_rest n (v % n * 257 + b) s) ∙ ap (λ (x : ℕ). digits_from x s % n) (rest_first v 257 b n) ∙ digits_rest n (v * 257 + b) s

-- ---- a turn of a loop: v, with the digits that are left, comes to what the key comes to

pub record Taking (key : List ℕ) (n v : ℕ) (rest : List ℕ) : Type 0 where
  pub below : v < n
  pub comes : digits_from v rest % n ≡ digits key % n

module _ (key : List ℕ) (n : ℕ) (some : 0 < n) where
  pub taking_starts : (m i v : ℕ) → m ≡ n → i ≤ length key → v ≡ start_at (digits (take i key)) m → Taking key n v (take (length key - i) (drop i key))
  taking_starts m i v em inside e =
      let is : v ≡ digits (take i key) % n = (rw em at e) ∙ start_rest (digits (take i key)) n some in
      let rest : take (length key - i) (drop i key) ≡ drop i key = take_all (length key - i) (drop i key) (omega (arith, length-drop i key)) in
      record {
        below = rw is (mod-lt (digits (take i key)) some);
        comes = rw (rest, is) (digits_rest n (digits (take i key)) (drop i key) ∙ ap (λ (x : ℕ). x % n) (sym (digits_append 0 (take i key) (drop i key)) ∙ ap digits (take-append-drop i key)));
      }

  turned_lem : (v w : ℕ) (rest left : List ℕ) → Taking key n v rest → digits_from v rest ≡ digits_from w left → Taking key n (w % n) left
  turned_lem v w rest left t e = record { below = mod-lt w some; comes = digits_rest n w left ∙ ap (λ (x : ℕ). x % n) (sym e) ∙ t.comes }

  pub taking_four : (v : ℕ) (rest four left : List ℕ) → Taking key n v rest → 4 ≤ length rest → four ≡ take 4 rest → left ≡ drop 4 rest → (a b c d : ℕ)
      → a ≡ get_or four 0 0 → b ≡ get_or four 1 0 → c ≡ get_or four 2 0 → d ≡ get_or four 3 0
      → Taking key n ((v * 4362470401 + (a * 257 + b) * 66049 + (c * 257 + d)) % n) left
  taking_four v rest four left t h ef el a b c d ea eb ec ed =
      let at : (i : ℕ) → i < 4 → get_or four i 0 ≡ get_or rest i 0 = λ i l. rw ef (get_or-take 4 rest i 0 l) in
      turned_lem v (v * 4362470401 + (a * 257 + b) * 66049 + (c * 257 + d)) rest left t
      (rw (ea, eb, ec, ed, at 0 (lit< tt), at 1 (lit< tt), at 2 (lit< tt), at 3 (lit< tt), el) (digits_four v rest h))

  pub taking_one : (v : ℕ) (s : List ℕ) (i : ℕ) → Taking key n v (drop i s) → i < length s → (b : ℕ) → b ≡ get_or s i 0 → Taking key n ((v * 257 + b) % n) (drop (i + 1) s)
  taking_one v s i t h b eb = turned_lem v (v * 257 + b) (drop i s) (drop (i + 1) s) t (rw eb (digits_one v s i h))

  pub taking_ends : (m v : ℕ) (s : List ℕ) (i : ℕ) → n ≡ m → length s ≤ i → Taking key n v (drop i s) → v ≡ start_at (digits key) m
  unfolding digits_from
  taking_ends m v s i em h t =
      let last : v % n ≡ digits key % n = rw (drop_of_length-le s h) at t.comes in
      sym (mod-eq_of_lt t.below) ∙ last ∙ sym (start_rest (digits key) n some) ∙ ap (start_at (digits key)) em
