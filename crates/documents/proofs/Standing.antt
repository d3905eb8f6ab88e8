-- Where each field stands in a record that is read. Assumes nothing.
use mathlib.Core.Path.{◌≡◌, sym, ap, ◌∙◌}
use mathlib.Core.List.{List, ◌++◌}
use Prim.Native.Nat.{ℕ, ◌+◌, ◌≤◌}
use native.Mathlib.Nat.{add-zero}
use native.Mathlib.Omega.{arith}
use lib.ListN.{length}
use lib.Seq.{take_all}
use Rattle.wire.specs.Field.{part, bytes_of}
use Rattle.wire.proofs.Texts.{part_front, part_back}
use Rattle.wire.proofs.Numbers.{bytes_length}
use Rattle.paths.specs.Roles as roles
use Rattle.fields.specs.Fields.{field_width}
use Rattle.fields.proofs.Bytes.{field_length}
use Rattle.records.specs.Records.{Places, said_of, field_of, marks_of, header_of, message_of}
use Rattle.records.proofs.Laws.{sent, numbered, summed, dated, sent_length, numbered_length, summed_length, dated_length, received, paid, returned, reasoned, received_length, paid_length, returned_length, reasoned_length}

-- what stands last in a record, and what stands before that
last : (xs ys : List ℕ) (k n : ℕ) → length xs ≡ k → length ys ≡ n → part (xs ++ ys) k n ≡ ys
last xs ys k n e w =
    ap (λ (p : ℕ). part (xs ++ ys) p n) (sym (add-zero k)) ∙ part_back xs ys k 0 n e ∙ take_all n ys (omega arith)

before : (xs ys : List ℕ) (k at n : ℕ) → length xs ≡ k → at + n ≤ k → part (xs ++ ys) at n ≡ part xs at n
before xs ys k at n e h = part_front xs ys at n (omega arith)

module _ (s : List ℕ) (places : Places) where
  abbrev field : ℕ → List ℕ
  field role = field_of s places role

  wide : (role : ℕ) → length (field role) ≡ field_width role
  wide role = field_length role (said_of s places role)

  -- ---- a header

  abbrev marked : List ℕ
  marked = bytes_of 1 (marks_of s places)

  pub marks_stand : part (header_of s places) 64 1 ≡ marked
  unfolding header_of
  marks_stand = last (dated s places) marked 64 1 (dated_length s places) (bytes_length 1 (marks_of s places))

  unmarked : (at n : ℕ) → at + n ≤ 64 → part (header_of s places) at n ≡ part (dated s places) at n
  unfolding header_of
  unmarked at n h = before (dated s places) marked 64 at n (dated_length s places) h

  undated : (at n : ℕ) → at + n ≤ 60 → part (header_of s places) at n ≡ part (summed s places) at n
  undated at n h = unmarked at n (omega arith) ∙ before (summed s places) (field roles.value_date) 60 at n (summed_length s places) h

  pub date_stands : part (header_of s places) 60 4 ≡ field roles.value_date
  date_stands = unmarked 60 4 (omega arith) ∙ last (summed s places) (field roles.value_date) 60 4 (summed_length s places) (wide roles.value_date)

  pub sum_stands : part (header_of s places) 52 8 ≡ field roles.stated_sum
  sum_stands = undated 52 8 (omega arith) ∙ last (numbered s places) (field roles.stated_sum) 52 8 (numbered_length s places) (wide roles.stated_sum)

  pub number_stands : part (header_of s places) 44 8 ≡ field roles.stated_number
  number_stands =
      undated 44 8 (omega arith)
      ∙ before (numbered s places) (field roles.stated_sum) 52 44 8 (numbered_length s places) (omega arith)
      ∙ last (sent s places) (field roles.stated_number) 44 8 (sent_length s places) (wide roles.stated_number)

  -- ---- a message

  unnamed : (at n : ℕ) → at + n ≤ 66 → part (message_of s places) at n ≡ part (reasoned s places) at n
  unfolding message_of
  unnamed at n h = before (reasoned s places) (field roles.original_name) 66 at n (reasoned_length s places) h

  unreasoned : (at n : ℕ) → at + n ≤ 62 → part (message_of s places) at n ≡ part (returned s places) at n
  unreasoned at n h = unnamed at n (omega arith) ∙ before (returned s places) (field roles.reason) 62 at n (returned_length s places) h

  pub name_stands : part (message_of s places) 66 15 ≡ field roles.original_name
  unfolding message_of
  name_stands = last (reasoned s places) (field roles.original_name) 66 15 (reasoned_length s places) (wide roles.original_name)

  pub reason_stands : part (message_of s places) 62 4 ≡ field roles.reason
  reason_stands = unnamed 62 4 (omega arith) ∙ last (returned s places) (field roles.reason) 62 4 (returned_length s places) (wide roles.reason)

  pub original_stands : part (message_of s places) 54 8 ≡ field roles.original_amount
  original_stands = unreasoned 54 8 (omega arith) ∙ last (paid s places) (field roles.original_amount) 54 8 (paid_length s places) (wide roles.original_amount)

  pub amount_stands : part (message_of s places) 46 8 ≡ field roles.amount
  amount_stands =
      unreasoned 46 8 (omega arith)
      ∙ before (paid s places) (field roles.original_amount) 54 46 8 (paid_length s places) (omega arith)
      ∙ last (received s places) (field roles.amount) 46 8 (received_length s places) (wide roles.amount)
