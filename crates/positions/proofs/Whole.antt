-- Positions as whole numbers: where there is room, a gain adds and a loss subtracts exactly so many cents. Assumes nothing.
use Rattle.std.proofs.Common.{◌≡◌, ℕ, zero, suc, ◌+◌, ◌-◌, ◌%◌, ◌^◌, ◌<◌, ◌≤◌, true, List, pos, negsuc, ◌+ℤ◌, ◌-ℤ◌, nat_abs, sym, refl, ap, ◌∙◌, ⊎_elim, arith, le-ltb, lt-ltb}
use lib.IntN.{sub_ℕ, +ℤ_idr}
use Rattle.wire.specs.Field.{Bytes}
use Rattle.wire.proofs.Sides.{le_or_lt}
use Rattle.positions.specs.Positions.{HasRow, position_at, signed, magnitude, most_position, has_room, gains, loses}
use Rattle.positions.proofs.Laws.{position_below, gains_here, loses_here, magnitude_low, magnitude_high, room_told}

-- ---- a difference and a reading, on either side of 0

pub sub_pos : (a b k : ℕ) → b + k ≡ a → sub_ℕ a b ≡ pos k
sub_pos a b k e = rw (le-ltb a b (omega arith)) (ap pos (let d : a - b ≡ k = omega arith in d))

pub sub_neg : (a b k : ℕ) → a + suc k ≡ b → sub_ℕ a b ≡ negsuc k
sub_neg a b k e = rw (lt-ltb a b (omega arith)) (ap negsuc (let d : b - suc a ≡ k = omega arith in d))

signed_pos : (x k : ℕ) → x ≡ k → k < 2 ^ 63 → signed x ≡ pos k
signed_pos x k e h = rw (lt-ltb x (2 ^ 63) (omega arith)) (ap pos e)

signed_neg : (x k : ℕ) → x + suc k ≡ 2 ^ 64 → k < 2 ^ 63 → signed x ≡ negsuc k
signed_neg x k e h = rw (le-ltb x (2 ^ 63) (omega arith)) (sub_neg x (2 ^ 64) k e)

-- the magnitude is what the whole number lies away from 0
pub signed_magnitude : (x : ℕ) → x < 2 ^ 64 → nat_abs (signed x) ≡ magnitude x
signed_magnitude x below = ⊎_elim
    (λ (h : 2 ^ 63 ≤ x). rw (signed_neg x (2 ^ 64 - suc x) (omega arith) (omega arith), magnitude_high x h) (omega arith))
    (λ (h : x < 2 ^ 63). rw (signed_pos x x refl h, magnitude_low x h))
    (le_or_lt (2 ^ 63) x)

-- ---- exact, of 64 bits

module _ (x c : ℕ) (below : x < 2 ^ 64) (room : magnitude x + c ≤ most_position) where
  small_low : x < 2 ^ 63 → x + c ≤ most_position
  small_low h = rw (magnitude_low x h) at room

  small_high : 2 ^ 63 ≤ x → 2 ^ 64 - x + c ≤ most_position
  small_high h = rw (magnitude_high x h) at room

  pub bits_gain : signed ((x + c) % 2 ^ 64) ≡ signed x +ℤ pos c
  bits_gain = ⊎_elim
      (λ (h : 2 ^ 63 ≤ x).
      let small = small_high h in
      rw (signed_neg x (2 ^ 64 - suc x) (omega arith) (omega arith)) (⊎_elim
      (λ (l : 2 ^ 64 ≤ x + c).
      signed_pos ((x + c) % 2 ^ 64) (x + c - 2 ^ 64) (omega arith) (omega arith)
      ∙ sym (sub_pos c (suc (2 ^ 64 - suc x)) (x + c - 2 ^ 64) (omega arith)))
      (λ (l : x + c < 2 ^ 64).
      signed_neg ((x + c) % 2 ^ 64) (2 ^ 64 - suc (x + c)) (omega arith) (omega arith)
      ∙ sym (sub_neg c (suc (2 ^ 64 - suc x)) (2 ^ 64 - suc (x + c)) (omega arith)))
      (le_or_lt (2 ^ 64) (x + c))))
      (λ (h : x < 2 ^ 63).
      let small = small_low h in
      rw (signed_pos x x refl h) (signed_pos ((x + c) % 2 ^ 64) (x + c) (omega arith) (omega arith)))
      (le_or_lt (2 ^ 63) x)

pub bits_loss : (x c : ℕ) → x < 2 ^ 64 → magnitude x + c ≤ most_position → signed ((x + (2 ^ 64 - c)) % 2 ^ 64) ≡ signed x -ℤ pos c
bits_loss x zero below room =
    let same : (x + (2 ^ 64 - 0)) % 2 ^ 64 ≡ x = omega arith in
    rw same (sym (+ℤ_idr (signed x)))
bits_loss x (suc d) below room =
    let y : ℕ = (x + (2 ^ 64 - suc d)) % 2 ^ 64 in
    ⊎_elim
    (λ (h : 2 ^ 63 ≤ x).
    let small = small_high x (suc d) below room h in
    rw (signed_neg x (2 ^ 64 - suc x) (omega arith) (omega arith))
    (signed_neg y (suc (2 ^ 64 - suc x + d)) (omega arith) (omega arith)))
    (λ (h : x < 2 ^ 63).
    let small = small_low x (suc d) below room h in
    rw (signed_pos x x refl h) (⊎_elim
    (λ (l : suc d ≤ x). signed_pos y (x - suc d) (omega arith) (omega arith) ∙ sym (sub_pos x (suc d) (x - suc d) (omega arith)))
    (λ (l : x < suc d). signed_neg y (d - x) (omega arith) (omega arith) ∙ sym (sub_neg x (suc d) (d - x) (omega arith)))
    (le_or_lt (suc d) x)))
    (le_or_lt (2 ^ 63) x)

-- ---- exact, of a row

module _ (p : List ℕ) (i c : ℕ) (bytes : Bytes p) (row : HasRow p i) (room : has_room p c i ≡ true) where
  pub gains_exact : signed (position_at (gains p i c) i) ≡ signed (position_at p i) +ℤ pos c
  gains_exact = ap signed (gains_here p i c row) ∙ bits_gain (position_at p i) c (position_below p i bytes row) (room_told p c i room)

  pub loses_exact : signed (position_at (loses p i c) i) ≡ signed (position_at p i) -ℤ pos c
  loses_exact = ap signed (loses_here p i c row) ∙ bits_loss (position_at p i) c (position_below p i bytes row) (room_told p c i room)
