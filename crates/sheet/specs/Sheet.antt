-- The sheet: its layout, the bulks that it holds, and when it is whole. A record is its bytes. Total: what runs past the end reads as
-- what is left. Assumes nothing.
use Rattle.std.specs.Prelude.{ℕ, zero, suc, ◌+◌, ◌*◌, Bool, true, false, cond, ◌&&◌, ◌||◌, List, [], ◌∷◌, length, leb, eqb}
use Rattle.std.proofs.Math.Option.{Option, none, some}
use Rattle.wire.specs.Field.{part, number_at}
pub use Rattle.wire.specs.Field.{count_width}

-- ---- the widths of numbers and texts

abbrev pub kind_width : ℕ
kind_width = 1

abbrev pub number_width : ℕ
number_width = 8

abbrev pub cents_width : ℕ
cents_width = 8

abbrev pub date_width : ℕ
date_width = 4

abbrev pub marks_width : ℕ
marks_width = 1

abbrev pub identifier_width : ℕ
identifier_width = 35

abbrev pub sender_width : ℕ
sender_width = 8

abbrev pub receiver_width : ℕ
receiver_width = 11

abbrev pub reason_width : ℕ
reason_width = 4

abbrev pub name_width : ℕ
name_width = 15

-- ---- a header: where each field begins, and where the header ends

abbrev pub kind_place : ℕ
kind_place = 0

abbrev pub bulk_identifier_place : ℕ
bulk_identifier_place = 1

abbrev pub sender_place : ℕ
sender_place = 36

abbrev pub stated_number_place : ℕ
stated_number_place = 44

abbrev pub stated_sum_place : ℕ
stated_sum_place = 52

abbrev pub value_date_place : ℕ
value_date_place = 60

abbrev pub marks_place : ℕ
marks_place = 64

abbrev pub header_width : ℕ
header_width = 65

abbrev pub kind_of : List ℕ → ℕ
kind_of header = number_at header kind_place kind_width

abbrev pub bulk_identifier_of : List ℕ → List ℕ
bulk_identifier_of header = part header bulk_identifier_place identifier_width

abbrev pub sender_of : List ℕ → List ℕ
sender_of header = part header sender_place sender_width

abbrev pub stated_number_of : List ℕ → ℕ
stated_number_of header = number_at header stated_number_place number_width

abbrev pub stated_sum_of : List ℕ → ℕ
stated_sum_of header = number_at header stated_sum_place cents_width

abbrev pub value_date_of : List ℕ → ℕ
value_date_of header = number_at header value_date_place date_width

abbrev pub marks_of : List ℕ → ℕ
marks_of header = number_at header marks_place marks_width

-- ---- a message: where each field begins, and where the last one ends

abbrev pub identifier_place : ℕ
identifier_place = 0

abbrev pub receiver_place : ℕ
receiver_place = 35

abbrev pub amount_place : ℕ
amount_place = 46

abbrev pub original_place : ℕ
original_place = 54

abbrev pub reason_place : ℕ
reason_place = 62

abbrev pub name_place : ℕ
name_place = 66

abbrev pub fields_width : ℕ
fields_width = 81

-- how wide a message is in a bulk of a kind: today every kind has these fields and no more
unfoldable pub message_width : ℕ → ℕ
message_width kind = fields_width

abbrev pub identifier_of : List ℕ → List ℕ
identifier_of message = part message identifier_place identifier_width

abbrev pub receiver_of : List ℕ → List ℕ
receiver_of message = part message receiver_place receiver_width

abbrev pub amount_of : List ℕ → ℕ
amount_of message = number_at message amount_place cents_width

abbrev pub original_of : List ℕ → ℕ
original_of message = number_at message original_place cents_width

abbrev pub reason_of : List ℕ → List ℕ
reason_of message = part message reason_place reason_width

abbrev pub name_of : List ℕ → List ℕ
name_of message = part message name_place name_width

-- ---- sections, each after its count

abbrev pub count_at : List ℕ → ℕ → ℕ
count_at sheet at = number_at sheet at count_width

-- n records of a width, one after the other from place at on
unfoldable pub records_at : List ℕ → ℕ → ℕ → ℕ → List (List ℕ)
records_at sheet width zero at = []
records_at sheet width (suc n) at = part sheet at width ∷ records_at sheet width n (at + width)

-- the header at place head, and the message at place at in a bulk of a kind
abbrev pub header_at : List ℕ → ℕ → List ℕ
header_at sheet head = part sheet head header_width

abbrev pub message_at : List ℕ → ℕ → ℕ → List ℕ
message_at sheet kind at = part sheet at (message_width kind)

-- ---- the bulks: each has its header at a place head, and its section of messages at a place at

pub record Bulk : Type 0 where
  pub header : List ℕ
  pub messages : List (List ℕ)

-- the width of its messages, by its header's kind
abbrev pub width_at : List ℕ → ℕ → ℕ
width_at sheet head = message_width (kind_of (header_at sheet head))

-- the place after its section
abbrev pub after_messages : List ℕ → ℕ → ℕ → ℕ
after_messages sheet head at = at + count_width + width_at sheet head * count_at sheet at

abbrev pub bulk_at : List ℕ → ℕ → ℕ → Bulk
bulk_at sheet head at = record {
  header = header_at sheet head;
  messages = records_at sheet (width_at sheet head) (count_at sheet at) (at + count_width);
}

-- n bulks: their headers from place head on, their sections from place at on
unfoldable pub bulks_from : List ℕ → ℕ → ℕ → ℕ → List Bulk
bulks_from sheet zero head at = []
bulks_from sheet (suc n) head at = bulk_at sheet head at ∷ bulks_from sheet n (head + header_width) (after_messages sheet head at)

-- the messages of a list of bulks
unfoldable pub count_messages : List Bulk → ℕ
count_messages [] = 0
count_messages (b ∷ bs) = length b.messages + count_messages bs

-- ---- the whole sheet: the section of headers, then the sections of messages

abbrev pub bulk_count : List ℕ → ℕ
bulk_count sheet = count_at sheet 0

abbrev pub first_section : List ℕ → ℕ
first_section sheet = count_width + header_width * bulk_count sheet

abbrev pub bulks_of : List ℕ → List Bulk
bulks_of sheet = bulks_from sheet (bulk_count sheet) count_width (first_section sheet)

-- the place after the sections of n bulks, and the messages in them
unfoldable pub end_from : List ℕ → ℕ → ℕ → ℕ → ℕ
end_from sheet zero head at = at
end_from sheet (suc n) head at = end_from sheet n (head + header_width) (after_messages sheet head at)

unfoldable pub messages_from : List ℕ → ℕ → ℕ → ℕ → ℕ
messages_from sheet zero head at = 0
messages_from sheet (suc n) head at = count_at sheet at + messages_from sheet n (head + header_width) (after_messages sheet head at)

abbrev pub message_count : List ℕ → ℕ
message_count sheet = messages_from sheet (bulk_count sheet) count_width (first_section sheet)

-- The last section ends where the sheet does. Places only move forward, so that no section before it ran past the end either; the
-- first two tests follow from the last, and spare the walk where a count is beyond all bounds.
unfoldable pub whole : List ℕ → Bool
whole sheet =
    leb count_width (length sheet)
    && leb (first_section sheet) (length sheet)
    && eqb (end_from sheet (bulk_count sheet) count_width (first_section sheet)) (length sheet)

-- how many bulks and messages a whole sheet holds
unfoldable pub shape : List ℕ → Option (ℕ × ℕ)
shape sheet = cond (whole sheet) (some (bulk_count sheet, message_count sheet)) none

-- ---- the kinds of the bulks

-- pacs.008 and pacs.004
abbrev pub payment_kind : ℕ
payment_kind = 1

abbrev pub return_kind : ℕ
return_kind = 3

abbrev pub known_kind : ℕ → Bool
known_kind kind = eqb kind payment_kind || eqb kind return_kind

abbrev pub headers_of : List ℕ → ℕ → List (List ℕ)
headers_of sheet n = records_at sheet header_width n count_width

unfoldable pub kinds_known : List (List ℕ) → Bool
kinds_known [] = true
kinds_known (h ∷ hs) = known_kind (kind_of h) && kinds_known hs

-- a payment stands after a return, or after one that was seen before
unfoldable pub mixed : Bool → List (List ℕ) → Bool
mixed seen [] = false
mixed seen (h ∷ hs) = seen && eqb (kind_of h) payment_kind || mixed (seen || eqb (kind_of h) return_kind) hs
