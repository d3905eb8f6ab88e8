-- The laws of an amount moved that the crates above cite, and those that the proofs here share. Assumes nothing.
use Rattle.std.proofs.Common.{◌≡◌, ℕ, ◌+◌, ◌-◌, ◌*◌, ◌/◌, ◌%◌, ◌^◌, ◌<◌, ◌≤◌, Bool, true, false, ◌&&◌, eqb, leb, List, length, sym, refl, ap, ◌∙◌, ⊎_elim, arith, drop_of_length-le, le-ltb, lt-ltb, eq-eqb, ne_eqb, eqb-true, le-leb, leb-true}
use mathlib.Core.Option.{some}
use native.Mathlib.Nat.{sub-zero}
use lib.Seq.{sets, length-sets}
use borrow.Author.Tests.{eqb-false, lt-leb}
use Rattle.wire.specs.Field.{Bytes, part, number_from, number_of, bytes_of}
use Rattle.wire.specs.Places.{every_from}
use Rattle.wire.proofs.Numbers.{bytes_length, written_read, read_written, number_below, bytes_mod}
use Rattle.wire.proofs.Scans.{every_holds}
use Rattle.wire.proofs.Sides.{le_or_lt}
use Rattle.wire.proofs.Stores.{part_stored, part_before, part_after, sets_over, sets_same, written_bytes, sets_bytes}
use Rattle.wire.proofs.Texts.{part_bytes_lem, part_length}
use Rattle.positions.specs.Positions.{position_width, position_place, HasRow, rows, fits, position_at, magnitude, most_position, has_room, room_for_all, gains, loses, pays}

-- ---- an amount moved: the row, and the others

pub position_below : (p : List ℕ) (i : ℕ) → Bytes p → HasRow p i → position_at p i < 2 ^ 64
position_below p i bytes row =
    rw (part_length p (position_place i) position_width row)
    at (number_below (part p (position_place i) position_width) (part_bytes_lem p (position_place i) position_width bytes))

-- what a row reads as once a number is stored there, and another row
stored_here : (p : List ℕ) (i x : ℕ) → HasRow p i
    → position_at (sets p (position_place i) (bytes_of position_width x)) i ≡ x % 2 ^ 64
stored_here p i x row =
    ap number_of (part_stored p (position_place i) position_width (bytes_of position_width x) (bytes_length position_width x) row)
    ∙ written_read position_width x

stored_other : (p : List ℕ) (i x j : ℕ) → (i ≡ j → ⊥) → position_at (sets p (position_place i) (bytes_of position_width x)) j ≡ position_at p j
stored_other p i x j differ =
    let wide : length (bytes_of position_width x) ≡ position_width = bytes_length position_width x in
    ap number_of (⊎_elim
    (λ (h : i ≤ j). part_after p (position_place i) (bytes_of position_width x) (position_place j) position_width (omega (arith, differ)))
    (λ (h : j < i). part_before p (position_place i) (bytes_of position_width x) (position_place j) position_width (omega arith))
    (le_or_lt i j))

stored_over : (p : List ℕ) (i x y : ℕ) → HasRow p i
    → sets (sets p (position_place i) (bytes_of position_width x)) (position_place i) (bytes_of position_width y) ≡ sets p (position_place i) (bytes_of position_width y)
stored_over p i x y row =
    let wide : length (bytes_of position_width x) ≡ position_width = bytes_length position_width x in
    let wide' : length (bytes_of position_width y) ≡ position_width = bytes_length position_width y in
    sets_over p (position_place i) (bytes_of position_width x) (bytes_of position_width y) (omega arith) (omega arith)

-- what was read there, stored again
stored_same : (p : List ℕ) (i : ℕ) → Bytes p → HasRow p i → sets p (position_place i) (bytes_of position_width (position_at p i)) ≡ p
stored_same p i bytes row =
    let field : List ℕ = part p (position_place i) position_width in
    ap (sets p (position_place i)) (rw (part_length p (position_place i) position_width row) at (read_written field (part_bytes_lem p (position_place i) position_width bytes)))
    ∙ sets_same p (position_place i) position_width row

module _ (p : List ℕ) (i c : ℕ) where
  pub gains_length : length (gains p i c) ≡ length p
  unfolding gains
  gains_length = length-sets p (position_place i) (bytes_of position_width (position_at p i + c))

  pub loses_length : length (loses p i c) ≡ length p
  unfolding loses
  loses_length = length-sets p (position_place i) (bytes_of position_width (position_at p i + (2 ^ 64 - c)))

  pub gains_bytes : Bytes p → Bytes (gains p i c)
  unfolding gains
  gains_bytes bytes = sets_bytes p (position_place i) (bytes_of position_width (position_at p i + c)) bytes (written_bytes position_width (position_at p i + c))

  pub loses_bytes : Bytes p → Bytes (loses p i c)
  unfolding loses
  loses_bytes bytes =
      sets_bytes p (position_place i) (bytes_of position_width (position_at p i + (2 ^ 64 - c))) bytes (written_bytes position_width (position_at p i + (2 ^ 64 - c)))

  pub gains_other : (j : ℕ) → (i ≡ j → ⊥) → position_at (gains p i c) j ≡ position_at p j
  unfolding gains
  gains_other j differ = stored_other p i (position_at p i + c) j differ

  pub loses_other : (j : ℕ) → (i ≡ j → ⊥) → position_at (loses p i c) j ≡ position_at p j
  unfolding loses
  loses_other j differ = stored_other p i (position_at p i + (2 ^ 64 - c)) j differ

  module _ (row : HasRow p i) where
    pub gains_here : position_at (gains p i c) i ≡ (position_at p i + c) % 2 ^ 64
    unfolding gains
    gains_here = stored_here p i (position_at p i + c) row

    pub loses_here : position_at (loses p i c) i ≡ (position_at p i + (2 ^ 64 - c)) % 2 ^ 64
    unfolding loses
    loses_here = stored_here p i (position_at p i + (2 ^ 64 - c)) row

    -- a row that pays itself ends as it began
    pub pays_back : Bytes p → c ≤ 2 ^ 64 → pays p (some i) (some i) c ≡ p
    unfolding gains loses
    pays_back bytes small =
        let x : ℕ = position_at p i in
        let low : x < 2 ^ 64 = position_below p i bytes row in
        let less : ℕ = x + (2 ^ 64 - c) in
        let more : ℕ = less % 2 ^ 64 + c in
        let again : more % 2 ^ 64 ≡ x = omega arith in
        ap (λ (n : ℕ). sets (sets p (position_place i) (bytes_of position_width less)) (position_place i) (bytes_of position_width (n + c))) loses_here
        ∙ stored_over p i less more row
        ∙ ap (sets p (position_place i)) (sym (bytes_mod position_width more) ∙ ap (bytes_of position_width) again)
        ∙ stored_same p i bytes row

-- ---- a payment: as many bytes, and bytes still

pub pays_length : (p : List ℕ) (s t c : ℕ) → length (pays p (some s) (some t) c) ≡ length p
pays_length p s t c = gains_length (loses p s c) t c ∙ loses_length p s c

pub pays_bytes : (p : List ℕ) (s t c : ℕ) → Bytes p → Bytes (pays p (some s) (some t) c)
pays_bytes p s t c bytes = gains_bytes (loses p s c) t c (loses_bytes p s c bytes)

-- ---- the same numbers as the code has them: wrapped already

pub gain_stored : (p : List ℕ) (i c held w : ℕ) → held ≡ position_at p i → w ≡ (held + c) % 2 ^ 64
    → sets p (position_place i) (bytes_of position_width w) ≡ gains p i c
unfolding gains
gain_stored p i c held w eh ew = rw (ew, eh, bytes_mod position_width (position_at p i + c))

-- a loss is the gain of the negative
pub loss_gained : (p : List ℕ) (i c n : ℕ) → (n + c) % 2 ^ 64 ≡ 0 → n < 2 ^ 64 → c < 2 ^ 64 → gains p i n ≡ loses p i c
unfolding gains loses
loss_gained p i c n back below small =
    let wrapped : (position_at p i + n) % 2 ^ 64 ≡ (position_at p i + (2 ^ 64 - c)) % 2 ^ 64 = omega arith in
    ap (sets p (position_place i)) (
    sym (bytes_mod position_width (position_at p i + n))
    ∙ ap (bytes_of position_width) wrapped
    ∙ bytes_mod position_width (position_at p i + (2 ^ 64 - c)))

-- ---- as many as the rows

-- the test without a product that could wrap
pub fits_test : (p : List ℕ) (n : ℕ) → (eqb (length p / position_width) n && eqb (length p % position_width) 0) ≡ fits p n
fits_test p n = by_test (eqb (length p / position_width) n) refl (eqb (length p % position_width) 0) refl
  where
    by_test : (s : Bool) → eqb (length p / position_width) n ≡ s → (t : Bool) → eqb (length p % position_width) 0 ≡ t → (s && t) ≡ fits p n
    by_test true many true whole =
        sym (eq-eqb (length p) (position_width * n) (omega (arith, eqb-true (length p / position_width) n many, eqb-true (length p % position_width) 0 whole)))
    by_test true many false left =
        sym (ne_eqb (length p) (position_width * n) (λ (e : length p ≡ position_width * n). eqb-false (length p % position_width) 0 left (omega arith)))
    by_test false few t whole =
        sym (ne_eqb (length p) (position_width * n) (λ (e : length p ≡ position_width * n). eqb-false (length p / position_width) n few (omega arith)))

-- past the last row there is nothing
pub position_past : (p : List ℕ) (i : ℕ) → rows p < i → position_at p i ≡ 0
unfolding number_from
position_past p i h = let past : length p ≤ position_place i = omega arith in rw (drop_of_length-le p past)

-- ---- magnitude

pub magnitude_low : (x : ℕ) → x < 2 ^ 63 → magnitude x ≡ x
magnitude_low x h = rw (lt-ltb x (2 ^ 63) h)

pub magnitude_high : (x : ℕ) → 2 ^ 63 ≤ x → magnitude x ≡ 2 ^ 64 - x
magnitude_high x h = rw (le-ltb x (2 ^ 63) h)

-- 0 less the bits, wrapped
pub magnitude_wrapped : (x w : ℕ) → 2 ^ 63 ≤ x → x < 2 ^ 64 → w < 2 ^ 64 → (w + x) % 2 ^ 64 ≡ 0 → w ≡ magnitude x
magnitude_wrapped x w high below small back = (let whole : w ≡ 2 ^ 64 - x = omega arith in whole) ∙ sym (magnitude_high x high)

-- ---- room

module _ (p : List ℕ) (c i : ℕ) where
  pub room_told : has_room p c i ≡ true → magnitude (position_at p i) + c ≤ most_position
  room_told h = leb-true (magnitude (position_at p i) + c) most_position h

  pub room_none : most_position < c → false ≡ has_room p c i
  room_none h = sym (lt-leb (magnitude (position_at p i) + c) most_position (omega arith))

  -- the test without a sum that could wrap
  pub room_test : (held : ℕ) → held ≡ magnitude (position_at p i) → c ≤ most_position → leb held (most_position - c) ≡ has_room p c i
  room_test held e small = rw (← e) (⊎_elim
      (λ (h : held + c ≤ most_position). le-leb held (most_position - c) (omega arith) ∙ sym (le-leb (held + c) most_position h))
      (λ (h : most_position < held + c). lt-leb held (most_position - c) (omega arith) ∙ sym (lt-leb (held + c) most_position h))
      (le_or_lt (held + c) most_position))

  -- room for all is room at each row
  pub room_each : room_for_all p c ≡ true → HasRow p i → has_room p c i ≡ true
  unfolding room_for_all
  room_each all row = every_holds (has_room p c) (rows p) 0 i all (omega arith) (omega arith)

-- a loop at row i of n: what is left of the scan
abbrev pub room_left : List ℕ → ℕ → ℕ → ℕ → Bool
room_left p c n i = every_from (has_room p c) (n - i) i

pub room_start : (p : List ℕ) (c n : ℕ) → n ≡ rows p → room_left p c n 0 ≡ room_for_all p c
unfolding room_for_all
room_start p c n e = rw (e, sub-zero)
