-- A written line is read back, field by field. Assumes nothing.
use mathlib.Core.Path.{◌≡◌, sym, ap, ◌∙◌}
use mathlib.Core.List.{List, [], ◌++◌, append-nil, append_assoc}
use Prim.Native.Nat.{ℕ, ◌+◌, ◌^◌, ◌≤◌, ◌<◌}
use native.Mathlib.Nat.{mod-eq_of_lt, add-zero}
use native.Mathlib.Omega.{arith}
use lib.Dec.{lit≤}
use lib.ListN.{length}
use lib.Seq.{take_all}
use Rattle.wire.specs.Field.{part, number_of, number_at, bytes_of}
use Rattle.wire.proofs.Numbers.{bytes_length, written_read}
use Rattle.wire.proofs.Texts.{part_front, part_back}
use Rattle.tally.specs.Tally.{Totals}
use Rattle.report.specs.Line.{identifier_width, outcome_place, outcome_width, faults_place, faults_width, line_head_width, number_width, accepted_number_place, accepted_cents_place, accepted_cents_width, rejected_number_place, rejected_cents_place, rejected_cents_width, line_head, bulk_line, message_line, identifier_in, outcome_in, faults_in, totals_in}
use Rattle.report.proofs.Laws.{marked_length, head_length, with_number, with_cents, with_rejected, number_length, cents_length, rejected_length}

-- a number after k bytes, and one that more bytes follow
number_last : (front : List ℕ) (k w x : ℕ) → length front ≡ k → x < 256 ^ w → number_at (front ++ bytes_of w x) k w ≡ x
number_last front k w x e fits =
    let wide = bytes_length w x in
    ap number_of (
    ap (λ (a : ℕ). part (front ++ bytes_of w x) a w) (sym (add-zero k))
    ∙ part_back front (bytes_of w x) k 0 w e
    ∙ take_all w (bytes_of w x) (omega arith))
    ∙ written_read w x
    ∙ mod-eq_of_lt fits

number_before : (xs ys : List ℕ) (k w x : ℕ) → k + w ≤ length xs → number_at xs k w ≡ x → number_at (xs ++ ys) k w ≡ x
number_before xs ys k w x h e = ap number_of (part_front xs ys k w h) ∙ e

-- what a line says, whatever follows
pub record LineRead (identifier : List ℕ) (outcome faults : ℕ) (line : List ℕ) : Type 0 where
  pub identifier_is : identifier_in line ≡ identifier
  pub outcome_is : outcome_in line ≡ outcome
  pub faults_is : faults_in line ≡ faults

pub record BulkLineRead (identifier : List ℕ) (outcome faults : ℕ) (t : Totals) (line : List ℕ) : Type 0 where
  pub identifier_is : identifier_in line ≡ identifier
  pub outcome_is : outcome_in line ≡ outcome
  pub faults_is : faults_in line ≡ faults
  pub totals_is : totals_in line ≡ t

module _ (identifier : List ℕ) (outcome faults : ℕ) (wide : length identifier ≡ identifier_width) (small : outcome < 256) (few : faults < 65536) where
  abbrev head : List ℕ
  head = line_head identifier outcome faults

  abbrev marked : List ℕ
  marked = identifier ++ bytes_of outcome_width outcome

  -- what both kinds of line begin with, and what follows it is not looked at
  pub head_read : (rest : List ℕ) → LineRead identifier outcome faults (head ++ rest)
  head_read rest =
      let long : length head ≡ line_head_width = head_length identifier outcome faults wide in
      let front : length marked ≡ faults_place = marked_length identifier outcome faults wide in
      record {
        identifier_is =
            part_front head rest 0 identifier_width (omega arith)
            ∙ part_front marked (bytes_of faults_width faults) 0 identifier_width (omega arith)
            ∙ part_front identifier (bytes_of outcome_width outcome) 0 identifier_width (omega arith)
            ∙ take_all identifier_width identifier (omega arith);
        outcome_is =
            number_before head rest outcome_place outcome_width outcome (omega arith)
            (number_before marked (bytes_of faults_width faults) outcome_place outcome_width outcome (omega arith) (number_last identifier outcome_place outcome_width outcome wide small));
        faults_is = number_before head rest faults_place faults_width faults (omega arith) (number_last marked faults_place faults_width faults front few);
      }

  pub message_line_read : LineRead identifier outcome faults (message_line identifier outcome faults)
  unfolding message_line
  message_line_read = rw append-nil at (head_read [])

  module _ (t : Totals) (an : t.accepted_number < 256 ^ number_width) (ac : t.accepted_cents < 256 ^ accepted_cents_width) (rn : t.rejected_number < 256 ^ number_width) (rc : t.rejected_cents < 256 ^ rejected_cents_width) where
    abbrev number : List ℕ
    number = with_number identifier outcome faults wide t

    abbrev cents : List ℕ
    cents = with_cents identifier outcome faults wide t

    abbrev rejected : List ℕ
    rejected = with_rejected identifier outcome faults wide t

    pub bulk_totals : totals_in (bulk_line identifier outcome faults t) ≡ t
    unfolding bulk_line
    bulk_totals =
        let first = head_length identifier outcome faults wide in
        let second = number_length identifier outcome faults wide t in
        let third = cents_length identifier outcome faults wide t in
        let fourth = rejected_length identifier outcome faults wide t in
        let last = bytes_of rejected_cents_width t.rejected_cents in
        let from_cents : (k w x : ℕ) → k + w ≤ rejected_number_place → number_at cents k w ≡ x → number_at (rejected ++ last) k w ≡ x =
        λ k w x h e. number_before rejected last k w x (omega arith) (number_before cents (bytes_of number_width t.rejected_number) k w x (omega arith) e) in
        rw (
          from_cents accepted_number_place number_width t.accepted_number (lit≤ tt) (number_before number (bytes_of accepted_cents_width t.accepted_cents) accepted_number_place number_width t.accepted_number (omega arith) (number_last head accepted_number_place number_width t.accepted_number first an)),
          from_cents accepted_cents_place accepted_cents_width t.accepted_cents (lit≤ tt) (number_last number accepted_cents_place accepted_cents_width t.accepted_cents second ac),
          number_before rejected last rejected_number_place number_width t.rejected_number (omega arith) (number_last cents rejected_number_place number_width t.rejected_number third rn),
          number_last rejected rejected_cents_place rejected_cents_width t.rejected_cents fourth rc,
        )

    regroup : (a b c d : List ℕ) → head ++ a ++ b ++ c ++ d ≡ head ++ (a ++ (b ++ (c ++ d)))
    regroup a b c d = append_assoc (head ++ a ++ b) c d ∙ append_assoc (head ++ a) b (c ++ d) ∙ append_assoc head a (b ++ (c ++ d))

    bulk_head : LineRead identifier outcome faults (bulk_line identifier outcome faults t)
    unfolding bulk_line
    bulk_head =
        rw (regroup (bytes_of number_width t.accepted_number) (bytes_of accepted_cents_width t.accepted_cents) (bytes_of number_width t.rejected_number) (bytes_of rejected_cents_width t.rejected_cents))
        (head_read (bytes_of number_width t.accepted_number ++ (bytes_of accepted_cents_width t.accepted_cents ++ (bytes_of number_width t.rejected_number ++ bytes_of rejected_cents_width t.rejected_cents))))

    pub bulk_line_read : BulkLineRead identifier outcome faults t (bulk_line identifier outcome faults t)
    bulk_line_read =
        record {
          identifier_is = bulk_head.identifier_is;
          outcome_is = bulk_head.outcome_is;
          faults_is = bulk_head.faults_is;
          totals_is = bulk_totals;
        }
