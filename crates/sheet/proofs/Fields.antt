-- The laws of fields: each stands in the sheet where it stands in its record, and has its width there. Assumes nothing.
use mathlib.Core.Path.{◌≡◌, sym, ap, ◌∙◌}
use mathlib.Core.List.{List}
use Prim.Native.Nat.{ℕ, ◌+◌, ◌^◌, ◌≤◌, ◌<◌}
use native.Mathlib.Nat.{add-zero}
use native.Mathlib.Omega.{arith}
use lib.Dec.{lit≤, lit<}
use lib.ListN.{length}
use Rattle.wire.specs.Field.{Bytes, part, number_of, number_at}
use Rattle.wire.proofs.Numbers.{number_small_lem}
use Rattle.wire.proofs.Texts.{part_bytes_lem, part_length, part_part}
use Rattle.sheet.specs.Sheet.{cents_width, identifier_width, sender_width, receiver_width, reason_width, name_width, bulk_identifier_place, sender_place, stated_number_place, stated_sum_place, value_date_place, marks_place, header_width, kind_of, bulk_identifier_of, sender_of, stated_number_of, stated_sum_of, value_date_of, marks_of, identifier_place, receiver_place, amount_place, original_place, reason_place, name_place, fields_width, message_width, identifier_of, receiver_of, amount_of, original_of, reason_of, name_of, header_at, message_at}

-- ---- the width of a message: it covers the fields, and is small enough that the messages of a section never pass a word

pub fields_fit : (kind : ℕ) → fields_width ≤ message_width kind
unfolding message_width
fields_fit kind = lit≤ tt

pub width_small : (kind : ℕ) → message_width kind < 2 ^ 16
unfolding message_width
width_small kind = lit< tt

-- ---- the fields of a header and of a message, as they stand in the sheet

-- the first field is where the record is
at_front : (s : List ℕ) (at w n : ℕ) → n ≤ w → part s at n ≡ part (part s at w) 0 n
at_front s at w n h = sym (part_part s at w 0 n (omega arith) ∙ ap (λ (k : ℕ). part s k n) (add-zero at))

module _ (s : List ℕ) (at : ℕ) where
  text_there : (place n : ℕ) → place + n ≤ header_width → part s (at + place) n ≡ part (header_at s at) place n
  text_there place n within = sym (part_part s at header_width place n within)

  number_there : (place n : ℕ) → place + n ≤ header_width → number_at s (at + place) n ≡ number_at (header_at s at) place n
  number_there place n within = ap number_of (text_there place n within)

  pub kind_there : number_at s at 1 ≡ kind_of (header_at s at)
  kind_there = ap number_of (at_front s at header_width 1 (lit≤ tt))

  pub bulk_identifier_there : part s (at + bulk_identifier_place) identifier_width ≡ bulk_identifier_of (header_at s at)
  bulk_identifier_there = text_there bulk_identifier_place identifier_width (lit≤ tt)

  pub sender_there : part s (at + sender_place) sender_width ≡ sender_of (header_at s at)
  sender_there = text_there sender_place sender_width (lit≤ tt)

  pub stated_number_there : number_at s (at + stated_number_place) 8 ≡ stated_number_of (header_at s at)
  stated_number_there = number_there stated_number_place 8 (lit≤ tt)

  pub stated_sum_there : number_at s (at + stated_sum_place) 8 ≡ stated_sum_of (header_at s at)
  stated_sum_there = number_there stated_sum_place 8 (lit≤ tt)

  pub value_date_there : number_at s (at + value_date_place) 4 ≡ value_date_of (header_at s at)
  value_date_there = number_there value_date_place 4 (lit≤ tt)

  pub marks_there : number_at s (at + marks_place) 1 ≡ marks_of (header_at s at)
  marks_there = number_there marks_place 1 (lit≤ tt)

module _ (kind : ℕ) (s : List ℕ) (at : ℕ) where
  -- a field of the message
  field_there : (place n : ℕ) → place + n ≤ fields_width → part s (at + place) n ≡ part (message_at s kind at) place n
  field_there place n within = sym (part_part s at (message_width kind) place n (omega (arith, fields_fit kind)))

  pub identifier_there : part s at identifier_width ≡ identifier_of (message_at s kind at)
  identifier_there = at_front s at (message_width kind) identifier_width (omega (arith, fields_fit kind))

  pub receiver_there : part s (at + receiver_place) receiver_width ≡ receiver_of (message_at s kind at)
  receiver_there = field_there receiver_place receiver_width (lit≤ tt)

  pub amount_there : number_at s (at + amount_place) 8 ≡ amount_of (message_at s kind at)
  amount_there = ap number_of (field_there amount_place 8 (lit≤ tt))

  pub original_there : number_at s (at + original_place) 8 ≡ original_of (message_at s kind at)
  original_there = ap number_of (field_there original_place 8 (lit≤ tt))

  pub reason_there : part s (at + reason_place) reason_width ≡ reason_of (message_at s kind at)
  reason_there = field_there reason_place reason_width (lit≤ tt)

  pub name_there : part s (at + name_place) name_width ≡ name_of (message_at s kind at)
  name_there = field_there name_place name_width (lit≤ tt)

-- ---- the widths of the texts of a record that has its width

module _ (header : List ℕ) (wide : length header ≡ header_width) where
  pub bulk_identifier_long : length (bulk_identifier_of header) ≡ identifier_width
  bulk_identifier_long = part_length header bulk_identifier_place identifier_width (omega arith)

  pub sender_long : length (sender_of header) ≡ sender_width
  sender_long = part_length header sender_place sender_width (omega arith)

module _ (kind : ℕ) (message : List ℕ) (wide : length message ≡ message_width kind) where
  field_long : (place n : ℕ) → place + n ≤ fields_width → length (part message place n) ≡ n
  field_long place n within = part_length message place n (omega (arith, fields_fit kind))

  pub identifier_long : length (identifier_of message) ≡ identifier_width
  identifier_long = field_long identifier_place identifier_width (lit≤ tt)

  pub receiver_long : length (receiver_of message) ≡ receiver_width
  receiver_long = field_long receiver_place receiver_width (lit≤ tt)

  pub reason_long : length (reason_of message) ≡ reason_width
  reason_long = field_long reason_place reason_width (lit≤ tt)

  pub name_long : length (name_of message) ≡ name_width
  name_long = field_long name_place name_width (lit≤ tt)

-- ---- and where the record lies in the sheet

module _ (s : List ℕ) (at : ℕ) (fits : at + header_width ≤ length s) where
  pub header_width_lem : length (header_at s at) ≡ header_width
  header_width_lem = part_length s at header_width fits

  pub bulk_identifier_width : length (bulk_identifier_of (header_at s at)) ≡ identifier_width
  bulk_identifier_width = bulk_identifier_long (header_at s at) header_width_lem

  pub sender_width_lem : length (sender_of (header_at s at)) ≡ sender_width
  sender_width_lem = sender_long (header_at s at) header_width_lem

module _ (kind : ℕ) (s : List ℕ) (at : ℕ) (fits : at + message_width kind ≤ length s) where
  pub message_width_lem : length (message_at s kind at) ≡ message_width kind
  message_width_lem = part_length s at (message_width kind) fits

  pub identifier_width_lem : length (identifier_of (message_at s kind at)) ≡ identifier_width
  identifier_width_lem = identifier_long kind (message_at s kind at) message_width_lem

-- ---- an amount is a word

pub amount_below : (message : List ℕ) → Bytes message → amount_of message < 2 ^ 64
amount_below message bytes = number_small_lem message amount_place cents_width bytes

pub amount_word : (kind : ℕ) (s : List ℕ) (at amount : ℕ) → Bytes s → amount ≡ amount_of (message_at s kind at) → amount < 2 ^ 64
amount_word kind s at amount bytes e = rw e (amount_below (message_at s kind at) (part_bytes_lem s at (message_width kind) bytes))
