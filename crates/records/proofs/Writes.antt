-- Records written field by field, each after the one before it. Assumes nothing.
use mathlib.Core.Path.{◌≡◌, ◌∙◌}
use mathlib.Core.List.{List, ◌++◌}
use Prim.Native.Nat.{ℕ, ◌+◌}
use lib.ListN.{length}
use lib.Seq.{sets}
use Rattle.wire.specs.Field.{bytes_of}
use Rattle.wire.proofs.Stores.{sets_then}
use Rattle.sheet.specs.Sheet as sheet
use Rattle.paths.specs.Roles as roles
use Rattle.records.specs.Records.{Places, field_of, kind_of, marks_of, header_of, message_of}
use Rattle.records.proofs.Laws as laws

module _ (d : List ℕ) (at : ℕ) where
  go_on : (n : ℕ) {d1 d2 : List ℕ} (front back : List ℕ) → length front ≡ n → d1 ≡ sets d at front → d2 ≡ sets d1 (at + n) back
      → d2 ≡ sets d at (front ++ back)
  go_on n front back long e1 e2 = e2 ∙ (rw e1 (sets_then d at n front back long))

  module _ (s : List ℕ) (places : Places) where
    -- with the field of a role
    field_on : (n role : ℕ) {d1 d2 : List ℕ} (front : List ℕ) → length front ≡ n → d1 ≡ sets d at front
        → d2 ≡ sets d1 (at + n) (field_of s places role) → d2 ≡ sets d at (front ++ field_of s places role)
    field_on n role front long e1 e2 = go_on n front (field_of s places role) long e1 e2

    pub header_written : {k m : ℕ} {d1 d2 d3 d4 d5 d6 d7 : List ℕ} → k ≡ kind_of places → m ≡ marks_of s places
        → d1 ≡ sets d at (bytes_of sheet.kind_width k)
        → d2 ≡ sets d1 (at + sheet.bulk_identifier_place) (field_of s places roles.bulk_identifier)
        → d3 ≡ sets d2 (at + sheet.sender_place) (field_of s places roles.sender)
        → d4 ≡ sets d3 (at + sheet.stated_number_place) (field_of s places roles.stated_number)
        → d5 ≡ sets d4 (at + sheet.stated_sum_place) (field_of s places roles.stated_sum)
        → d6 ≡ sets d5 (at + sheet.value_date_place) (field_of s places roles.value_date)
        → d7 ≡ sets d6 (at + sheet.marks_place) (bytes_of sheet.marks_width m)
        → d7 ≡ sets d at (header_of s places)
    unfolding header_of
    header_written {d1 = d1} {d6 = d6} {d7 = d7} ke me e1 e2 e3 e4 e5 e6 e7 =
        let first : d1 ≡ sets d at (laws.kinded s places) = rw ke at e1 in
        let last : d7 ≡ sets d6 (at + sheet.marks_place) (bytes_of sheet.marks_width (marks_of s places)) = rw me at e7 in
        let second = field_on sheet.bulk_identifier_place roles.bulk_identifier (laws.kinded s places) (laws.kinded_length s places) first e2 in
        let third = field_on sheet.sender_place roles.sender (laws.identified s places) (laws.identified_length s places) second e3 in
        let fourth = field_on sheet.stated_number_place roles.stated_number (laws.sent s places) (laws.sent_length s places) third e4 in
        let fifth = field_on sheet.stated_sum_place roles.stated_sum (laws.numbered s places) (laws.numbered_length s places) fourth e5 in
        let sixth = field_on sheet.value_date_place roles.value_date (laws.summed s places) (laws.summed_length s places) fifth e6 in
        go_on sheet.marks_place (laws.dated s places) (bytes_of sheet.marks_width (marks_of s places)) (laws.dated_length s places) sixth last

    pub message_written : {d1 d2 d3 d4 d5 d6 : List ℕ}
        → d1 ≡ sets d at (field_of s places roles.identifier)
        → d2 ≡ sets d1 (at + sheet.receiver_place) (field_of s places roles.receiver)
        → d3 ≡ sets d2 (at + sheet.amount_place) (field_of s places roles.amount)
        → d4 ≡ sets d3 (at + sheet.original_place) (field_of s places roles.original_amount)
        → d5 ≡ sets d4 (at + sheet.reason_place) (field_of s places roles.reason)
        → d6 ≡ sets d5 (at + sheet.name_place) (field_of s places roles.original_name)
        → d6 ≡ sets d at (message_of s places)
    unfolding message_of
    message_written e1 e2 e3 e4 e5 e6 =
        let second = field_on sheet.receiver_place roles.receiver (laws.named s places) (laws.named_length s places) e1 e2 in
        let third = field_on sheet.amount_place roles.amount (laws.received s places) (laws.received_length s places) second e3 in
        let fourth = field_on sheet.original_place roles.original_amount (laws.paid s places) (laws.paid_length s places) third e4 in
        let fifth = field_on sheet.reason_place roles.reason (laws.returned s places) (laws.returned_length s places) fourth e5 in
        field_on sheet.name_place roles.original_name (laws.reasoned s places) (laws.reasoned_length s places) fifth e6
