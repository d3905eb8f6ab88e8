-- Headers, messages and a sheet written out from their fields, for cases and the values at the edges. Assumes nothing.
use Rattle.std.specs.Prelude.{ℕ, List, ◌++◌, map, length}
use Prim.Native.String.{String}
use Rattle.wire.specs.Field.{bytes_of}
use Rattle.wire.specs.Written.{padded, joined}
use Rattle.sheet.specs.Sheet.{identifier_width, sender_width, receiver_width, reason_width, name_width, kind_width, number_width, cents_width, date_width, marks_width, count_width, Bulk}

-- kind, identifier, sender, stated number and sum, value date, marks
abbrev pub header_bytes : ℕ → String → String → ℕ → ℕ → ℕ → ℕ → List ℕ
header_bytes kind identifier sender number sum date marks =
    bytes_of kind_width kind
    ++ padded identifier_width identifier
    ++ padded sender_width sender
    ++ bytes_of number_width number
    ++ bytes_of cents_width sum
    ++ bytes_of date_width date
    ++ bytes_of marks_width marks

-- identifier, receiver, amount, original amount, reason, original name
abbrev pub message_bytes : String → String → ℕ → ℕ → String → String → List ℕ
message_bytes identifier receiver amount original reason name =
    padded identifier_width identifier
    ++ padded receiver_width receiver
    ++ bytes_of cents_width amount
    ++ bytes_of cents_width original
    ++ padded reason_width reason
    ++ padded name_width name

-- a message that tells of no original
abbrev pub payment_bytes : String → String → ℕ → List ℕ
payment_bytes identifier receiver amount = message_bytes identifier receiver amount 0 "" ""

abbrev pub sheet_bytes : List Bulk → List ℕ
sheet_bytes bulks =
    bytes_of count_width (length bulks)
    ++ joined (map (λ b. b.header) bulks)
    ++ joined (map (λ b. bytes_of count_width (length b.messages) ++ joined b.messages) bulks)
