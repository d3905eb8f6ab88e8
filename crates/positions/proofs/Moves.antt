-- A payment between two rows. Room lasts: a payment takes no more of it than the amount, so that a file which began with room for
-- all its payments has room at each of them. And what each row then holds, as a whole number. Assumes nothing.
use Rattle.std.proofs.Common.{◌≡◌, ℕ, zero, suc, ◌+◌, ◌-◌, ◌%◌, ◌^◌, ◌<◌, ◌≤◌, Bool, true, cond, eqb, List, ℤ, pos, negsuc, ◌+ℤ◌, ◌-ℤ◌, neg_ℤ, nat_abs, sym, refl, ap, ◌∙◌, ⊎_elim, le_refl, mod-lt, arith, lit<, eq-eqb, ne_eqb, le-leb}
use mathlib.Core.Option.{some}
use native.Mathlib.Decide.{ℕ_discrete}
use lib.IntN.{neg_ℤ-neg_ℤ, neg_ℤ-+ℤ, +ℤ_idr, -ℤ-+ℤ_cancel}
use Rattle.wire.specs.Field.{Bytes}
use Rattle.wire.specs.Places.{every_from}
use Rattle.wire.proofs.Sides.{le_or_lt}
use Rattle.positions.specs.Positions.{HasRow, rows, position_at, signed, magnitude, most_position, has_room, room_for_all, loses, pays}
use Rattle.positions.proofs.Laws.{position_below, loses_length, pays_length, gains_here, gains_other, loses_here, loses_other, pays_back, room_told, room_each}
use Rattle.positions.proofs.Whole.{sub_pos, sub_neg, signed_magnitude, bits_gain, bits_loss, loses_exact}

-- ---- a sum lies no further from 0 than its parts together

abs_add : (a : ℤ) (c : ℕ) → nat_abs (a +ℤ pos c) ≤ nat_abs a + c
abs_add (pos a) c = le_refl (a + c)
abs_add (negsuc a) c = ⊎_elim
    (λ (h : suc a ≤ c). rw (sub_pos c (suc a) (c - suc a) (omega arith)) (omega arith))
    (λ (h : c < suc a). rw (sub_neg c (suc a) (a - c) (omega arith)) (omega arith))
    (le_or_lt (suc a) c)

abs_neg : (a : ℤ) → nat_abs (neg_ℤ a) ≡ nat_abs a
abs_neg (pos zero) = refl
abs_neg (pos (suc n)) = refl
abs_neg (negsuc n) = refl

abs_sub : (a : ℤ) (c : ℕ) → nat_abs (a -ℤ pos c) ≤ nat_abs a + c
abs_sub a c =
    let turned : a -ℤ pos c ≡ neg_ℤ (neg_ℤ a +ℤ pos c) = sym (neg_ℤ-+ℤ (neg_ℤ a) (pos c) ∙ ap (λ (k : ℤ). k -ℤ pos c) (neg_ℤ-neg_ℤ a)) in
    rw (turned, abs_neg (neg_ℤ a +ℤ pos c), ← (abs_neg a)) (abs_add (neg_ℤ a) c)

-- ---- what 64 bits leave

module _ (x c d : ℕ) (below : x < 2 ^ 64) (room : magnitude x + (c + d) ≤ most_position) where
  gain_leaves : magnitude ((x + c) % 2 ^ 64) + d ≤ most_position
  gain_leaves =
      let y : ℕ = (x + c) % 2 ^ 64 in
      let moved : nat_abs (signed y) ≡ nat_abs (signed x +ℤ pos c) = ap nat_abs (bits_gain x c below (omega arith)) in
      omega (arith, signed_magnitude y (mod-lt (x + c) (lit< tt)), signed_magnitude x below, abs_add (signed x) c)

  loss_leaves : magnitude ((x + (2 ^ 64 - c)) % 2 ^ 64) + d ≤ most_position
  loss_leaves =
      let y : ℕ = (x + (2 ^ 64 - c)) % 2 ^ 64 in
      let moved : nat_abs (signed y) ≡ nat_abs (signed x -ℤ pos c) = ap nat_abs (bits_loss x c below (omega arith)) in
      omega (arith, signed_magnitude y (mod-lt (x + (2 ^ 64 - c)) (lit< tt)), signed_magnitude x below, abs_sub (signed x) c)

-- ---- room for all

every_all : (f : ℕ → Bool) (n i : ℕ) → ((k : ℕ) → i ≤ k → k < i + n → f k ≡ true) → every_from f n i ≡ true
unfolding every_from
every_all f zero i h = refl
every_all f (suc n) i h =
    rw (h i (le_refl i) (omega arith)) (every_all f n (suc i) (λ k low high. h k (omega arith) (omega arith)))

pub room_all : (p : List ℕ) (c : ℕ) → ((i : ℕ) → HasRow p i → magnitude (position_at p i) + c ≤ most_position)
    → room_for_all p c ≡ true
unfolding room_for_all
room_all p c h =
    every_all (has_room p c) (rows p) 0
    (λ k low high. le-leb (magnitude (position_at p k) + c) most_position (h k (omega arith)))

-- room for more is room for less
pub room_less : (p : List ℕ) (c d : ℕ) → room_for_all p c ≡ true → d ≤ c → room_for_all p d ≡ true
room_less p c d all less = room_all p d (λ i row. let told = room_told p c i (room_each p c i all row) in omega arith)

-- a payment from row s to row t, which may be one row
pub pays_room : (p : List ℕ) (s t c d : ℕ) → Bytes p → HasRow p s → HasRow p t
    → room_for_all p (c + d) ≡ true → room_for_all (pays p (some s) (some t) c) d ≡ true
pays_room p s t c d bytes from to all = one (ℕ_discrete s t)
  where
    held : (j : ℕ) → HasRow p j → magnitude (position_at p j) + (c + d) ≤ most_position
    held j row = room_told p (c + d) j (room_each p (c + d) j all row)

    other : (j : ℕ) → HasRow p j → Dec (s ≡ j) → magnitude (position_at (loses p s c) j) + d ≤ most_position
    other j row (yes e) =
        rw (← e, loses_here p s c from) (loss_leaves (position_at p s) c d (position_below p s bytes from) (held s from))
    other j row (no not-from) = rw (loses_other p s c j not-from) (let told = held j row in omega arith)

    each : (s ≡ t → ⊥) → (j : ℕ) → HasRow p j → Dec (t ≡ j) → magnitude (position_at (pays p (some s) (some t) c) j) + d ≤ most_position
    each apart j row (yes e) =
        rw (← e, gains_here (loses p s c) t c (rw (loses_length p s c) to), loses_other p s c t apart)
        (gain_leaves (position_at p t) c d (position_below p t bytes to) (held t to))
    each apart j row (no not-to) = rw (gains_other (loses p s c) t c j not-to) (other j row (ℕ_discrete s j))

    one : Dec (s ≡ t) → room_for_all (pays p (some s) (some t) c) d ≡ true
    one (yes e) =
        rw (← e, pays_back p s c from bytes (let told = held s from in omega arith)) (room_less p (c + d) d all (omega arith))
    one (no apart) =
        room_all (pays p (some s) (some t) c) d
        (λ j row. each apart j (rw (pays_length p s t c) at row) (ℕ_discrete t j))

-- ---- a payment as whole numbers

-- what of c cents that row k sends or gets is row j's
abbrev pub share : ℕ → ℕ → ℕ → ℤ
share k j c = pos (cond (eqb k j) c 0)

-- of every row, also where one row is both and ends unchanged
pub pays_exact : (p : List ℕ) (s t c j : ℕ) → Bytes p → HasRow p s → HasRow p t
    → room_for_all p c ≡ true → signed (position_at (pays p (some s) (some t) c) j) ≡ signed (position_at p j) -ℤ share s j c +ℤ share t j c
pays_exact p s t c j bytes from to all = one (ℕ_discrete s t)
  where
    no_cents : (k : ℤ) → k -ℤ pos 0 ≡ k
    no_cents k = +ℤ_idr k

    sent : Dec (s ≡ j) → signed (position_at (loses p s c) j) ≡ signed (position_at p j) -ℤ share s j c
    sent (yes e) =
        rw (eq-eqb s j e, ← e) (loses_exact p s c bytes from (room_each p c s all from))
    sent (no differ) = rw (ne_eqb s j differ, loses_other p s c j differ) (sym (no_cents (signed (position_at p j))))

    got : (s ≡ t → ⊥) → Dec (t ≡ j) → signed (position_at (pays p (some s) (some t) c) j) ≡ signed (position_at p j) -ℤ share s j c +ℤ share t j c
    got apart (yes e) =
        let told = room_told p c t (room_each p c t all to) in
        rw (eq-eqb t j e, ← e, ne_eqb s t apart, no_cents (signed (position_at p t)), gains_here (loses p s c) t c (rw (loses_length p s c) to), loses_other p s c t apart)
        (bits_gain (position_at p t) c (position_below p t bytes to) told)
    got apart (no differ) =
        rw (ne_eqb t j differ, gains_other (loses p s c) t c j differ, +ℤ_idr (signed (position_at p j) -ℤ share s j c)) (sent (ℕ_discrete s j))

    one : Dec (s ≡ t) → signed (position_at (pays p (some s) (some t) c) j) ≡ signed (position_at p j) -ℤ share s j c +ℤ share t j c
    one (yes e) =
        let told = room_told p c s (room_each p c s all from) in
        rw (← e, pays_back p s c from bytes (omega arith)) (sym (-ℤ-+ℤ_cancel (signed (position_at p j)) (share s j c)))
    one (no apart) = got apart (ℕ_discrete t j)
