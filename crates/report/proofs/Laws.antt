-- The laws of the lines and their places that the crates above cite, and those that the proofs here share. Assumes nothing.
use mathlib.Core.Path.{◌≡◌, sym, ap, ◌∙◌}
use mathlib.Core.List.{List, ◌++◌}
use Prim.Native.Nat.{ℕ, ◌+◌, ◌*◌, ◌^◌, ◌≤◌, ◌<◌}
use native.Mathlib.Omega.{arith}
use lib.Dec.{lit≤}
use lib.ListN.{length, length-append}
use lib.Seq.{sets}
use Rattle.wire.specs.Field.{bytes_of}
use Rattle.wire.proofs.Numbers.{bytes_length, bytes_split}
use Rattle.wire.proofs.Stores.{sets_then}
use Rattle.tally.specs.Tally.{Totals}
use Rattle.report.specs.Line.{identifier_width, outcome_place, outcome_width, faults_place, faults_width, line_head_width, number_width, accepted_number_place, accepted_cents_place, accepted_cents_width, rejected_number_place, rejected_cents_place, rejected_cents_width, bulk_line_width, message_line_width, line_head, bulk_line, message_line}

-- ---- the width of a message line: only here is it known what follows its head

pub head_in_message : line_head_width ≤ message_line_width
unfolding message_line_width
head_in_message = lit≤ tt

-- line j of n lies within them
pub line_within : (j n : ℕ) → j < n → message_line_width * j + message_line_width ≤ message_line_width * n
unfolding message_line_width
line_within j n h = omega arith

-- the lines of so many messages take no more than as many bulk lines would
pub lines_small : (n : ℕ) → message_line_width * n ≤ bulk_line_width * n
unfolding message_line_width
lines_small n = omega arith

-- ---- lengths

-- a line with a field more
pub longer : (xs : List ℕ) (n w x : ℕ) → length xs ≡ n → length (xs ++ bytes_of w x) ≡ n + w
longer xs n w x e = length-append xs (bytes_of w x) ∙ (rw (e, bytes_length w x))

module _ (identifier : List ℕ) (outcome faults : ℕ) (wide : length identifier ≡ identifier_width) where
  pub marked_length : length (identifier ++ bytes_of outcome_width outcome) ≡ faults_place
  marked_length = longer identifier outcome_place outcome_width outcome wide

  pub head_length : length (line_head identifier outcome faults) ≡ line_head_width
  head_length = longer (identifier ++ bytes_of outcome_width outcome) faults_place faults_width faults marked_length

  pub message_line_length : length (message_line identifier outcome faults) ≡ message_line_width
  unfolding message_line message_line_width
  message_line_length = head_length

  -- ---- a bulk line, a field after the other

  module _ (t : Totals) where
    abbrev pub with_number : List ℕ
    with_number = line_head identifier outcome faults ++ bytes_of number_width t.accepted_number

    abbrev pub with_cents : List ℕ
    with_cents = with_number ++ bytes_of accepted_cents_width t.accepted_cents

    abbrev pub with_rejected : List ℕ
    with_rejected = with_cents ++ bytes_of number_width t.rejected_number

    pub number_length : length with_number ≡ accepted_cents_place
    number_length = longer (line_head identifier outcome faults) accepted_number_place number_width t.accepted_number head_length

    pub cents_length : length with_cents ≡ rejected_number_place
    cents_length = longer with_number accepted_cents_place accepted_cents_width t.accepted_cents number_length

    pub rejected_length : length with_rejected ≡ rejected_cents_place
    rejected_length = longer with_cents rejected_number_place number_width t.rejected_number cents_length

    pub bulk_line_length : length (bulk_line identifier outcome faults t) ≡ bulk_line_width
    unfolding bulk_line
    bulk_line_length = longer with_rejected rejected_cents_place rejected_cents_width t.rejected_cents rejected_length

-- ---- the writes

-- eight bytes hold the low half alone
low_half : (high low : ℕ) → low < 2 ^ 64 → bytes_of accepted_cents_width low ≡ bytes_of accepted_cents_width (high * 2 ^ 64 + low)
unfolding bytes_of
low_half high low h = sym (bytes_split 0 accepted_cents_width high low h)

module _ (d : List ℕ) (at : ℕ) (identifier : List ℕ) (outcome faults : ℕ) (wide : length identifier ≡ identifier_width) where
  pub head_written : (d1 d2 d3 : List ℕ) → d1 ≡ sets d at identifier → d2 ≡ sets d1 (at + outcome_place) (bytes_of outcome_width outcome)
      → d3 ≡ sets d2 (at + faults_place) (bytes_of faults_width faults) → d3 ≡ sets d at (line_head identifier outcome faults)
  head_written d1 d2 d3 e1 e2 e3 =
      let marked : List ℕ = identifier ++ bytes_of outcome_width outcome in
      let second : d2 ≡ sets d at marked = e2 ∙ (rw e1 (sets_then d at outcome_place identifier (bytes_of outcome_width outcome) wide)) in
      e3 ∙ (rw second (sets_then d at faults_place marked (bytes_of faults_width faults) (marked_length identifier outcome faults wide)))

  -- the accepted cents go by their low half alone
  pub bulk_written : (t : Totals) (high low : ℕ) → low < 2 ^ 64 → t.accepted_cents ≡ high * 2 ^ 64 + low → (d1 d2 d3 d4 d5 : List ℕ)
      → d1 ≡ sets d at (line_head identifier outcome faults)
      → d2 ≡ sets d1 (at + accepted_number_place) (bytes_of number_width t.accepted_number)
      → d3 ≡ sets d2 (at + accepted_cents_place) (bytes_of accepted_cents_width low)
      → d4 ≡ sets d3 (at + rejected_number_place) (bytes_of number_width t.rejected_number)
      → d5 ≡ sets d4 (at + rejected_cents_place) (bytes_of rejected_cents_width t.rejected_cents)
      → d5 ≡ sets d at (bulk_line identifier outcome faults t)
  unfolding bulk_line
  bulk_written t high low fits is d1 d2 d3 d4 d5 e1 e2 e3 e4 e5 =
      let number : List ℕ = with_number identifier outcome faults wide t in
      let cents : List ℕ = with_cents identifier outcome faults wide t in
      let rejected : List ℕ = with_rejected identifier outcome faults wide t in
      let whole : bytes_of accepted_cents_width low ≡ bytes_of accepted_cents_width t.accepted_cents = low_half high low fits ∙ ap (bytes_of accepted_cents_width) (sym is) in
      let second : d2 ≡ sets d at number =
      e2 ∙ (rw e1 (sets_then d at accepted_number_place (line_head identifier outcome faults) (bytes_of number_width t.accepted_number) (head_length identifier outcome faults wide))) in
      let third : d3 ≡ sets d at cents =
      e3 ∙ (rw (second, whole) (sets_then d at accepted_cents_place number (bytes_of accepted_cents_width t.accepted_cents) (number_length identifier outcome faults wide t))) in
      let fourth : d4 ≡ sets d at rejected =
      e4 ∙ (rw third (sets_then d at rejected_number_place cents (bytes_of number_width t.rejected_number) (cents_length identifier outcome faults wide t))) in
      e5 ∙ (rw fourth (sets_then d at rejected_cents_place rejected (bytes_of rejected_cents_width t.rejected_cents) (rejected_length identifier outcome faults wide t)))
