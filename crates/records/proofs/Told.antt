-- The texts that stand in a record, each what its field says, filled up with spaces. Assumes nothing.
use mathlib.Core.Path.{◌≡◌, sym, ap, ◌∙◌}
use mathlib.Core.List.{List, ◌++◌}
use Prim.Native.Nat.{ℕ, ◌+◌, ◌≤◌}
use native.Mathlib.Nat.{add-zero}
use native.Mathlib.Omega.{arith}
use lib.ListN.{length}
use lib.Seq.{take_all}
use Rattle.wire.specs.Field.{part, bytes_of}
use Rattle.wire.proofs.Texts.{part_front, part_back}
use Rattle.sheet.specs.Sheet as sheet
use Rattle.meanings.specs.Meanings as meanings
use Rattle.paths.specs.Roles as roles
use Rattle.fields.specs.Fields.{field_bytes, field_width}
use Rattle.fields.proofs.Bytes.{field_length}
use Rattle.records.specs.Records.{Places, said_of, field_of, marks_of, header_of, message_of}
use Rattle.records.proofs.Laws.{kinded, identified, sent, numbered, summed, dated, kinded_length, identified_length, sent_length, numbered_length, summed_length, dated_length, named, received, paid, returned, reasoned, named_length, received_length, paid_length, returned_length, reasoned_length}

-- what stands last in a record
last : (xs ys : List ℕ) (k n : ℕ) → length xs ≡ k → length ys ≡ n → part (xs ++ ys) k n ≡ ys
last xs ys k n e w =
    ap (λ (p : ℕ). part (xs ++ ys) p n) (sym (add-zero k)) ∙ part_back xs ys k 0 n e ∙ take_all n ys (omega arith)

-- and what stands before that
before : (xs ys : List ℕ) (k at n : ℕ) → length xs ≡ k → at + n ≤ k → part (xs ++ ys) at n ≡ part xs at n
before xs ys k at n e h = part_front xs ys at n (omega arith)

module _ (s : List ℕ) (places : Places) where
  abbrev field : ℕ → List ℕ
  field role = field_of s places role

  wide : (role : ℕ) → length (field role) ≡ field_width role
  wide role = field_length role (said_of s places role)

  -- ---- a header

  header_front : (at n : ℕ) → at + n ≤ sheet.stated_number_place → part (header_of s places) at n ≡ part (sent s places) at n
  unfolding header_of
  header_front at n h =
      before (dated s places) (bytes_of sheet.marks_width (marks_of s places)) sheet.marks_place at n (dated_length s places) (omega arith)
      ∙ before (summed s places) (field roles.value_date) sheet.value_date_place at n (summed_length s places) (omega arith)
      ∙ before (numbered s places) (field roles.stated_sum) sheet.stated_sum_place at n (numbered_length s places) (omega arith)
      ∙ before (sent s places) (field roles.stated_number) sheet.stated_number_place at n (sent_length s places) h

  pub sender_told : sheet.sender_of (header_of s places) ≡ meanings.filled sheet.sender_width (said_of s places roles.sender)
  unfolding field_bytes
  sender_told =
      header_front sheet.sender_place sheet.sender_width (omega arith)
      ∙ last (identified s places) (field roles.sender) sheet.sender_place sheet.sender_width (identified_length s places) (wide roles.sender)

  pub bulk_identifier_told : sheet.bulk_identifier_of (header_of s places) ≡ meanings.filled sheet.identifier_width (said_of s places roles.bulk_identifier)
  unfolding field_bytes
  bulk_identifier_told =
      header_front sheet.bulk_identifier_place sheet.identifier_width (omega arith)
      ∙ before (identified s places) (field roles.sender) sheet.sender_place sheet.bulk_identifier_place sheet.identifier_width (identified_length s places) (omega arith)
      ∙ last (kinded s places) (field roles.bulk_identifier) sheet.bulk_identifier_place sheet.identifier_width (kinded_length s places) (wide roles.bulk_identifier)

  -- ---- a message

  message_front : (at n : ℕ) → at + n ≤ sheet.amount_place → part (message_of s places) at n ≡ part (received s places) at n
  unfolding message_of
  message_front at n h =
      before (reasoned s places) (field roles.original_name) sheet.name_place at n (reasoned_length s places) (omega arith)
      ∙ before (returned s places) (field roles.reason) sheet.reason_place at n (returned_length s places) (omega arith)
      ∙ before (paid s places) (field roles.original_amount) sheet.original_place at n (paid_length s places) (omega arith)
      ∙ before (received s places) (field roles.amount) sheet.amount_place at n (received_length s places) h

  pub receiver_told : sheet.receiver_of (message_of s places) ≡ meanings.receiver (said_of s places roles.receiver)
  unfolding field_bytes
  receiver_told =
      message_front sheet.receiver_place sheet.receiver_width (omega arith)
      ∙ last (named s places) (field roles.receiver) sheet.receiver_place sheet.receiver_width (named_length s places) (wide roles.receiver)

  pub identifier_told : sheet.identifier_of (message_of s places) ≡ meanings.filled sheet.identifier_width (said_of s places roles.identifier)
  unfolding field_bytes
  identifier_told =
      message_front sheet.identifier_place sheet.identifier_width (omega arith)
      ∙ before (named s places) (field roles.receiver) sheet.receiver_place sheet.identifier_place sheet.identifier_width (named_length s places) (omega arith)
      ∙ take_all sheet.identifier_width (named s places) (let w = named_length s places in omega arith)
