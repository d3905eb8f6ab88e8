-- The laws of the sheet that the crates above cite, and those that the proofs here share: records and bulks one after the other, what
-- a whole sheet is, and the scans of the kinds. Assumes nothing.
use mathlib.Core.Path.{◌≡◌, refl, sym, ap, ap₂, ◌∙◌}
use mathlib.Core.Bool.{Bool, true, false, cond, ◌&&◌, ◌||◌, false≢true}
use mathlib.Core.List.{List, [], ◌∷◌, map}
use mathlib.Core.Option.{Option, none, some}
use Prim.Native.Nat.{ℕ, zero, suc, ◌+◌, ◌-◌, ◌*◌, ◌^◌, ◌≤◌, ◌<◌}
use native.Mathlib.Nat.{mul-le-mul_left, mul-le-mul_right}
use native.Mathlib.Omega.{arith}
use lib.Dec.{leb, eqb}
use lib.ListN.{length, get_or}
use borrow.Author.Tests.{leb-true, eqb-true, le-leb, eq-eqb}
use Rattle.wire.specs.Field.{part}
use Rattle.wire.proofs.Numbers.{one_read}
use Rattle.sheet.proofs.Fields.{fields_fit, width_small, kind_there}
use Rattle.sheet.specs.Sheet.{count_width, header_width, kind_of, fields_width, message_width, count_at, records_at, header_at, width_at, after_messages, bulk_at, bulk_count, first_section, bulks_from, count_messages, end_from, messages_from, message_count, whole, shape, payment_kind, return_kind, known_kind, kinds_known, mixed}
use Rattle.sheet.specs.Reading.{Inside}

-- ---- a loop at place j of n: one more is left, or none

one_left : (n j : ℕ) → j < n → n - j ≡ suc (n - (j + 1))
one_left n j h = omega arith

none_left : (n j : ℕ) → n ≤ j → n - j ≡ 0
none_left n j h = omega arith

-- ---- records one after the other

module _ (w : ℕ) (s : List ℕ) where
  pub records_step : (n j at : ℕ) → j < n → records_at s w (n - j) at ≡ part s at w ∷ records_at s w (n - (j + 1)) (at + w)
  unfolding records_at
  records_step n j at h = rw (one_left n j h)

  pub records_end : (n j at : ℕ) → n ≤ j → records_at s w (n - j) at ≡ []
  unfolding records_at
  records_end n j at h = rw (none_left n j h)

  pub records_length : (n at : ℕ) → length (records_at s w n at) ≡ n
  unfolding records_at
  records_length zero at = refl
  records_length (suc n) at = ap suc (records_length n (at + w))

-- one of n records of a width lies in the sheet if they all do
pub records_bound : (w : ℕ) (s : List ℕ) (at n j : ℕ) → at + w * n ≤ length s → j < n → at + w * j + w ≤ length s
records_bound w s at n j fits h = omega (arith, mul-le-mul_left {m = suc j} {n = n} w h)

pub header_bound : (s : List ℕ) (at n j : ℕ) → at + header_width * n ≤ length s → j < n → at + header_width * j + header_width ≤ length s
header_bound = records_bound header_width

pub message_bound : (kind : ℕ) (s : List ℕ) (at n j : ℕ) → at + message_width kind * n ≤ length s → j < n → at + message_width kind * j + message_width kind ≤ length s
message_bound kind = records_bound (message_width kind)

-- messages take more than a byte each, and fewer than 2^32 of them no more than a word
pub messages_many : (kind n : ℕ) → n ≤ message_width kind * n
messages_many kind n = omega (arith, mul-le-mul_right {m = fields_width} {n = message_width kind} n (fields_fit kind))

pub messages_small : (kind n : ℕ) → n < 2 ^ 32 → message_width kind * n < 2 ^ 48
messages_small kind n few = omega (arith, mul-le-mul_right {m = suc (message_width kind)} {n = 2 ^ 16} n (width_small kind))

-- ---- bulks one after the other

module _ (s : List ℕ) where
  -- places only move forward
  pub end_forward : (n head at : ℕ) → at ≤ end_from s n head at
  unfolding end_from
  end_forward zero head at = omega arith
  end_forward (suc n) head at = omega (arith, end_forward n (head + header_width) (after_messages s head at))

  -- n bulks end where those after the first do, and if they end in the sheet, so does the first
  pub end_next : (n head at : ℕ) → end_from s (suc n) head at ≡ end_from s n (head + header_width) (after_messages s head at)
  unfolding end_from
  end_next n head at = refl

  pub bulk_inside : (n head at : ℕ) → head + header_width ≤ length s → end_from s (suc n) head at ≤ length s → Inside s head at
  bulk_inside n head at headed fits =
      let over : after_messages s head at ≤ length s = omega (arith, end_next n head at, end_forward n (head + header_width) (after_messages s head at)) in
      record { header = headed; count = omega arith; messages = over }

  module _ (b k : ℕ) where
    pub end_step : (head at : ℕ) → k < b → end_from s (b - k) head at ≡ end_from s (b - (k + 1)) (head + header_width) (after_messages s head at)
    end_step head at h = rw (one_left b k h) (end_next (b - (k + 1)) head at)

    pub end_end : (head at : ℕ) → b ≤ k → end_from s (b - k) head at ≡ at
    unfolding end_from
    end_end head at h = rw (none_left b k h)

    pub end_bound : (head at : ℕ) → k < b → head + header_width ≤ length s → end_from s (b - k) head at ≤ length s → Inside s head at
    end_bound head at h headed fits = bulk_inside (b - (k + 1)) head at headed (rw (one_left b k h) at fits)

    pub messages_step : (head at : ℕ) → k < b → messages_from s (b - k) head at ≡ count_at s at + messages_from s (b - (k + 1)) (head + header_width) (after_messages s head at)
    unfolding messages_from
    messages_step head at h = rw (one_left b k h)

    pub messages_end : (head at : ℕ) → b ≤ k → messages_from s (b - k) head at ≡ 0
    unfolding messages_from
    messages_end head at h = rw (none_left b k h)

    pub bulks_step : (head at : ℕ) → k < b → bulks_from s (b - k) head at ≡ bulk_at s head at ∷ bulks_from s (b - (k + 1)) (head + header_width) (after_messages s head at)
    unfolding bulks_from
    bulks_step head at h = rw (one_left b k h)

    pub bulks_end : (head at : ℕ) → b ≤ k → bulks_from s (b - k) head at ≡ []
    unfolding bulks_from
    bulks_end head at h = rw (none_left b k h)

  -- as many bulks as were asked for, with the messages of their sections and the headers that stand before these
  pub bulks_length : (n head at : ℕ) → length (bulks_from s n head at) ≡ n
  unfolding bulks_from
  bulks_length zero head at = refl
  bulks_length (suc n) head at = ap suc (bulks_length n (head + header_width) (after_messages s head at))

  pub bulks_messages : (n head at : ℕ) → count_messages (bulks_from s n head at) ≡ messages_from s n head at
  unfolding bulks_from count_messages messages_from
  bulks_messages zero head at = refl
  bulks_messages (suc n) head at =
      ap₂ (λ (x y : ℕ). x + y)
      (records_length (width_at s head) s (count_at s at) (at + count_width))
      (bulks_messages n (head + header_width) (after_messages s head at))

  pub bulks_headers : (n head at : ℕ) → map (λ b. b.header) (bulks_from s n head at) ≡ records_at s header_width n head
  unfolding bulks_from records_at
  bulks_headers zero head at = refl
  bulks_headers (suc n) head at =
      ap (λ (l : List (List ℕ)). header_at s head ∷ l) (bulks_headers n (head + header_width) (after_messages s head at))

-- ---- a whole sheet

pub record WholeSheet (s : List ℕ) : Type 0 where
  pub counted : count_width ≤ length s
  pub headed : first_section s ≤ length s
  pub ended : end_from s (bulk_count s) count_width (first_section s) ≡ length s

pub whole_facts : (s : List ℕ) → whole s ≡ true → WholeSheet s
unfolding whole
whole_facts s e =
    let first = first_section s in
    let end = end_from s (bulk_count s) count_width first in
    let all = three (leb count_width (length s)) (leb first (length s)) (eqb end (length s)) e in
    record {
      counted = leb-true count_width (length s) all.0;
      headed = leb-true first (length s) all.1;
      ended = eqb-true end (length s) all.2;
    }
  where
    three : (a b c : Bool) → (a && b && c) ≡ true → (a ≡ true) × (b ≡ true) × (c ≡ true)
    three true true true e = (refl, refl, refl)
    three true true false e = absurd (false≢true e)
    three true false c e = absurd (false≢true e)
    three false b c e = absurd (false≢true e)

-- it is enough that the last section ends where the sheet does
pub whole_ended : (s : List ℕ) → end_from s (bulk_count s) count_width (first_section s) ≡ length s → whole s ≡ true
unfolding whole
whole_ended s ended =
    let first = first_section s in
    let headed : first ≤ length s = omega (arith, end_forward s (bulk_count s) count_width first) in
    rw (le-leb count_width (length s) (omega arith), le-leb first (length s) headed, eq-eqb (end_from s (bulk_count s) count_width first) (length s) ended)

-- what the shape of a sheet tells
pub record Shaped (s : List ℕ) (b m : ℕ) : Type 0 where
  pub bulks : b ≡ bulk_count s
  pub messages : m ≡ message_count s
  pub whole : whole s ≡ true

abbrev tested : List ℕ → Bool → Option (ℕ × ℕ)
tested s t = cond t (some (bulk_count s, message_count s)) none

pub shape_facts : (s : List ℕ) (b m : ℕ) → shape s ≡ some (b, m) → Shaped s b m
unfolding shape
shape_facts s b m e = by_test (whole s) refl e
  where
    by_test : (t : Bool) → whole s ≡ t → tested s t ≡ some (b, m) → Shaped s b m
    by_test true w told =
        let pair : ◌≡◌ {A = ℕ × ℕ} (b, m) (bulk_count s, message_count s) = cc in
        record { bulks = ap (λ (p : ℕ × ℕ). p.0) pair; messages = ap (λ (p : ℕ × ℕ). p.1) pair; whole = w }
    by_test false w told = absurd (let z : ◌≡◌ {A = ℕ} 0 1 = cc in omega arith)

pub shape_none : (s : List ℕ) → shape s ≡ none → whole s ≡ false
unfolding shape
shape_none s e = by_test (whole s) refl e
  where
    by_test : (t : Bool) → whole s ≡ t → tested s t ≡ none → whole s ≡ false
    by_test true w told = absurd (let z : ◌≡◌ {A = ℕ} 0 1 = cc in omega arith)
    by_test false w told = w

-- a walk over the bulks, at place k of b: what is left of it ends where the whole ends
module _ (s : List ℕ) (b k head at : ℕ) (so_far : end_from s (b - k) head at ≡ end_from s (bulk_count s) count_width (first_section s)) where
  broken : (end_from s (b - k) head at ≡ length s → ⊥) → none ≡ shape s
  unfolding shape
  broken never = by_test (whole s) refl
    where
      by_test : (t : Bool) → whole s ≡ t → none ≡ tested s t
      by_test true w = absurd (never (so_far ∙ (whole_facts s w).ended))
      by_test false w = refl

  pub walk_past : length s < at → none ≡ shape s
  walk_past past = broken (λ e. omega (arith, end_forward s (b - k) head at))

  pub walk_left_over : b ≤ k → (at ≡ length s → ⊥) → none ≡ shape s
  walk_left_over h over = broken (λ e. over (sym (end_end s b k head at h) ∙ e))

  pub walk_ended : b ≤ k → at ≡ length s → some (bulk_count s, message_count s) ≡ shape s
  unfolding shape
  walk_ended h end = rw (whole_ended s (sym so_far ∙ end_end s b k head at h ∙ end))

-- ---- the kinds: a loop at place k of n, whose header begins at place at

pub kind_read : (s : List ℕ) (at : ℕ) → get_or s at 0 ≡ kind_of (header_at s at)
kind_read s at = sym (one_read s at) ∙ kind_there s at

module _ (s : List ℕ) (n k at : ℕ) (h : k < n) where
  pub known_step : kinds_known (records_at s header_width (n - k) at) ≡ (known_kind (get_or s at 0) && kinds_known (records_at s header_width (n - (k + 1)) (at + header_width)))
  unfolding kinds_known
  known_step = rw (records_step header_width s n k at h, ← (kind_read s at))

  pub mixed_step : (seen : Bool)
      → mixed seen (records_at s header_width (n - k) at) ≡ (seen && eqb (get_or s at 0) payment_kind || mixed (seen || eqb (get_or s at 0) return_kind) (records_at s header_width (n - (k + 1)) (at + header_width)))
  unfolding mixed
  mixed_step seen = rw (records_step header_width s n k at h, ← (kind_read s at))

-- the same of header k of a sheet, by where it begins
abbrev pub head_of : ℕ → ℕ
head_of k = count_width + header_width * k

pub head_next : (k : ℕ) → head_of k + header_width ≡ head_of (k + 1)
head_next k = omega arith

abbrev pub headers_left : List ℕ → ℕ → ℕ → List (List ℕ)
headers_left s n k = records_at s header_width (n - k) (head_of k)

module _ (s : List ℕ) (n k : ℕ) where
  pub headers_end : n ≤ k → headers_left s n k ≡ []
  headers_end h = records_end header_width s n k (head_of k) h

  pub known_left : k < n → kinds_known (headers_left s n k) ≡ (known_kind (kind_of (header_at s (head_of k))) && kinds_known (headers_left s n (k + 1)))
  known_left h = rw (← (kind_read s (head_of k)), ← (head_next k)) (known_step s n k (head_of k) h)

  pub mixed_left : k < n → (seen : Bool)
      → mixed seen (headers_left s n k) ≡ (seen && eqb (kind_of (header_at s (head_of k))) payment_kind || mixed (seen || eqb (kind_of (header_at s (head_of k))) return_kind) (headers_left s n (k + 1)))
  mixed_left h seen = rw (← (kind_read s (head_of k)), ← (head_next k)) (mixed_step s n k (head_of k) h seen)
