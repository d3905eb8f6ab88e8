-- The laws of records: how long they are, which places they are made of, and what kind a header tells. Assumes nothing.
use mathlib.Core.Path.{◌≡◌, refl, ◌∙◌}
use mathlib.Core.Logic.{◌⊎◌, inl, inr}
use mathlib.Core.Bool.{Bool, true, false, cond}
use mathlib.Core.List.{List, [], ◌∷◌, ◌++◌}
use Prim.Native.Nat.{ℕ, ◌+◌, ◌%◌, ◌<◌}
use lib.Dec.{lit<}
use lib.ListN.{length, length-append}
use Rattle.wire.specs.Field.{bytes_of, number_from, number_of}
use Rattle.wire.proofs.Numbers.{bytes_length}
use Rattle.sheet.specs.Sheet as sheet
use Rattle.paths.specs.Roles as roles
use Rattle.fields.specs.Fields.{field_width}
use Rattle.fields.proofs.Bytes.{field_length}
use Rattle.records.specs.Records.{Places, there, said_of, field_of, kind_of, marks_of, header_of, message_of}

-- ---- lengths, a field after the other

module _ (s : List ℕ) (places : Places) where
  -- a record with a field more
  longer : (xs : List ℕ) (n role : ℕ) → length xs ≡ n → length (xs ++ field_of s places role) ≡ n + field_width role
  longer xs n role e = length-append xs (field_of s places role) ∙ (rw (e, field_length role (said_of s places role)))

  abbrev pub kinded : List ℕ
  kinded = bytes_of sheet.kind_width (kind_of places)

  abbrev pub identified : List ℕ
  identified = kinded ++ field_of s places roles.bulk_identifier

  abbrev pub sent : List ℕ
  sent = identified ++ field_of s places roles.sender

  abbrev pub numbered : List ℕ
  numbered = sent ++ field_of s places roles.stated_number

  abbrev pub summed : List ℕ
  summed = numbered ++ field_of s places roles.stated_sum

  abbrev pub dated : List ℕ
  dated = summed ++ field_of s places roles.value_date

  pub kinded_length : length kinded ≡ sheet.bulk_identifier_place
  kinded_length = bytes_length sheet.kind_width (kind_of places)

  pub identified_length : length identified ≡ sheet.sender_place
  identified_length = longer kinded sheet.bulk_identifier_place roles.bulk_identifier kinded_length

  pub sent_length : length sent ≡ sheet.stated_number_place
  sent_length = longer identified sheet.sender_place roles.sender identified_length

  pub numbered_length : length numbered ≡ sheet.stated_sum_place
  numbered_length = longer sent sheet.stated_number_place roles.stated_number sent_length

  pub summed_length : length summed ≡ sheet.value_date_place
  summed_length = longer numbered sheet.stated_sum_place roles.stated_sum numbered_length

  pub dated_length : length dated ≡ sheet.marks_place
  dated_length = longer summed sheet.value_date_place roles.value_date summed_length

  pub header_length : length (header_of s places) ≡ sheet.header_width
  unfolding header_of
  header_length =
      length-append dated (bytes_of sheet.marks_width (marks_of s places))
      ∙ (rw (dated_length, bytes_length sheet.marks_width (marks_of s places)))

  abbrev pub named : List ℕ
  named = field_of s places roles.identifier

  abbrev pub received : List ℕ
  received = named ++ field_of s places roles.receiver

  abbrev pub paid : List ℕ
  paid = received ++ field_of s places roles.amount

  abbrev pub returned : List ℕ
  returned = paid ++ field_of s places roles.original_amount

  abbrev pub reasoned : List ℕ
  reasoned = returned ++ field_of s places roles.reason

  pub named_length : length named ≡ sheet.receiver_place
  named_length = field_length roles.identifier (said_of s places roles.identifier)

  pub received_length : length received ≡ sheet.amount_place
  received_length = longer named sheet.receiver_place roles.receiver named_length

  pub paid_length : length paid ≡ sheet.original_place
  paid_length = longer received sheet.amount_place roles.amount received_length

  pub returned_length : length returned ≡ sheet.reason_place
  returned_length = longer paid sheet.original_place roles.original_amount paid_length

  pub reasoned_length : length reasoned ≡ sheet.name_place
  reasoned_length = longer returned sheet.reason_place roles.reason returned_length

  pub message_length : length (message_of s places) ≡ sheet.fields_width
  unfolding message_of
  message_length = longer reasoned sheet.name_place roles.original_name reasoned_length

-- ---- a header and a message look at their own roles

pub header_alike : (s : List ℕ) (places others : Places) → ((k : ℕ) → 0 < k → k < roles.identifier → places k ≡ others k) → header_of s places ≡ header_of s others
unfolding header_of
header_alike s places others alike = rw (
  alike roles.payments (lit< tt) (lit< tt),
  alike roles.bulk_identifier (lit< tt) (lit< tt),
  alike roles.sender (lit< tt) (lit< tt),
  alike roles.stated_number (lit< tt) (lit< tt),
  alike roles.stated_sum (lit< tt) (lit< tt),
  alike roles.value_date (lit< tt) (lit< tt),
  alike roles.method (lit< tt) (lit< tt),
  alike roles.system (lit< tt) (lit< tt),
  alike roles.recipient (lit< tt) (lit< tt),
)

pub message_alike : (s : List ℕ) (places others : Places) → ((k : ℕ) → roles.sender < k → k < roles.roles → places k ≡ others k) → message_of s places ≡ message_of s others
unfolding message_of
message_alike s places others alike = rw (
  alike roles.identifier (lit< tt) (lit< tt),
  alike roles.receiver (lit< tt) (lit< tt),
  alike roles.amount (lit< tt) (lit< tt),
  alike roles.original_amount (lit< tt) (lit< tt),
  alike roles.reason (lit< tt) (lit< tt),
  alike roles.original_name (lit< tt) (lit< tt),
)

-- ---- the kind that a header tells, by its first byte

kind_byte : (b : Bool) → number_of (cond b sheet.payment_kind sheet.return_kind % 256 ∷ []) ≡ cond b sheet.payment_kind sheet.return_kind
unfolding number_from
kind_byte true = refl
kind_byte false = refl

one_of_two : (b : Bool) {k : ℕ} → k ≡ cond b sheet.payment_kind sheet.return_kind → (k ≡ sheet.payment_kind) ⊎ (k ≡ sheet.return_kind)
one_of_two true e = inl e
one_of_two false e = inr e

known : (b : Bool) → sheet.known_kind (cond b sheet.payment_kind sheet.return_kind) ≡ true
known true = refl
known false = refl

module _ (s : List ℕ) (places : Places) where
  pub header_told : sheet.kind_of (header_of s places) ≡ kind_of places
  unfolding header_of bytes_of number_from
  header_told = kind_byte (there places roles.payments)

  pub header_kind : (sheet.kind_of (header_of s places) ≡ sheet.payment_kind) ⊎ (sheet.kind_of (header_of s places) ≡ sheet.return_kind)
  header_kind = one_of_two (there places roles.payments) header_told

  pub header_known : sheet.known_kind (sheet.kind_of (header_of s places)) ≡ true
  header_known = rw header_told (known (there places roles.payments))
