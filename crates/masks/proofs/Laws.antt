-- A mask shows each of its facts at the fact's own bit, and is as small as its facts are few. Assumes nothing.
use mathlib.Core.Path.{◌≡◌, refl, sym, ap, ◌∙◌}
use mathlib.Core.Bool.{Bool, true, false}
use mathlib.Core.List.{List, [], ◌∷◌, ◌++◌}
use Prim.Native.Nat.{ℕ, zero, suc, ◌+◌, ◌*◌, ◌/◌, ◌%◌, ◌^◌, ◌<◌}
use native.Mathlib.Nat.{pow-zero, pow-succ', div-one, zero-div, div-div-eq-div-mul, mul_left_comm}
use native.Mathlib.Omega.{arith}
use lib.Dec.{eqb}
use lib.Bits.{bit_and, and_mask}
use lib.ListN.{length, get_or}
use Rattle.wire.specs.Field.{bit}
use Rattle.masks.specs.Mask.{mask, shown}

low : (b : Bool) (m : ℕ) → (bit b + 2 * m) % 2 ≡ bit b
low true m = omega arith
low false m = omega arith

high : (b : Bool) (m : ℕ) → (bit b + 2 * m) / 2 ≡ m
high true m = omega arith
high false m = omega arith

mask_bit : (facts : List Bool) (k : ℕ) → mask facts / 2 ^ k % 2 ≡ bit (get_or facts k false)
unfolding mask
mask_bit [] k = rw (zero-div (2 ^ k))
mask_bit (f ∷ fs) zero = rw (pow-zero 2, div-one (bit f + 2 * mask fs)) (low f (mask fs))
mask_bit (f ∷ fs) (suc k) = rw (pow-succ' 2 k, ← (div-div-eq-div-mul (bit f + 2 * mask fs) 2 (2 ^ k)), high f (mask fs)) (mask_bit fs k)

bit_one : (b : Bool) → eqb (bit b) 1 ≡ b
bit_one true = refl
bit_one false = refl

-- bit k shows whether fact k holds
pub mask_shows : (facts : List Bool) (k : ℕ) → shown (mask facts) k ≡ get_or facts k false
mask_shows facts k = ap (λ (n : ℕ). eqb n 1) (mask_bit facts k) ∙ bit_one (get_or facts k false)

none_shown : (k : ℕ) → shown 0 k ≡ false
none_shown k = rw (zero-div (2 ^ k))

-- where nothing is shown, no fact holds
pub mask_zero : (facts : List Bool) (k : ℕ) → mask facts ≡ 0 → get_or facts k false ≡ false
mask_zero facts k e = sym (mask_shows facts k) ∙ ap (λ (n : ℕ). shown n k) e ∙ none_shown k

bit_small : (b : Bool) (m n : ℕ) → m < n → bit b + 2 * m < 2 * n
bit_small true m n h = omega arith
bit_small false m n h = omega arith

pub mask_below : (facts : List Bool) → mask facts < 2 ^ length facts
unfolding mask
mask_below [] = rw (pow-zero 2) (omega arith)
mask_below (f ∷ fs) = rw (pow-succ' 2 (length fs)) (bit_small f (mask fs) (2 ^ length fs) (mask_below fs))

-- a bit read by shift
pub bit_read : (n v : ℕ) → eqb (bit_and n 1) v ≡ eqb (n % 2) v
bit_read n v = ap (λ (x : ℕ). eqb x v) (and_mask n 1)

append_step : (b : Bool) (m n p : ℕ) → bit b + 2 * (m + n * p) ≡ bit b + 2 * m + n * (2 * p)
append_step b m n p = omega (arith, mul_left_comm n 2 p)

mask_append : (facts : List Bool) (fact : Bool) → mask (facts ++ (fact ∷ [])) ≡ mask facts + bit fact * 2 ^ length facts
unfolding mask
mask_append [] true = refl
mask_append [] false = refl
mask_append (f ∷ fs) fact = rw (mask_append fs fact, pow-succ' 2 (length fs)) (append_step f (mask fs) (bit fact) (2 ^ length fs))

-- a mask of so many facts, with the next bit set where one more fact holds
pub flag_next : (m : ℕ) (facts : List Bool) (r : ℕ) (set fact : Bool) → m ≡ mask facts → r ≡ m + bit set * 2 ^ length facts → set ≡ fact
    → r ≡ mask (facts ++ (fact ∷ []))
flag_next m facts r set fact so_far e same =
    e ∙ (rw (so_far, same) (sym (mask_append facts fact)))

pub no_facts : 0 ≡ mask []
unfolding mask
no_facts = refl
