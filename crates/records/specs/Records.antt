-- The sheet's records, from the places at which the fields' texts begin. Assumes nothing.
use Rattle.std.specs.Prelude.{ℕ, ◌+◌, ◌*◌, Bool, cond, not, List, [], ◌++◌, eqb}
use Rattle.wire.specs.Field.{bit, bytes_of}
use Rattle.sheet.specs.Sheet.{kind_width, marks_width, payment_kind, return_kind}
use Rattle.prose.specs.Prose.{said_at}
use Rattle.paths.specs.Roles as roles
use Rattle.fields.specs.Fields.{field_bytes, is_clearing, is_system}

-- a place for each role; 0 where no element plays it, since nothing that is needed begins there
abbrev pub Places : Type 0
Places = ℕ → ℕ

abbrev pub there : Places → ℕ → Bool
there places role = not (eqb (places role) 0)

-- what a field's text says; nothing where it is missing
abbrev pub said_of : List ℕ → Places → ℕ → List ℕ
said_of s places role = cond (there places role) (said_at s (places role)) []

-- its bytes: of nothing, an amount is 0 and a text is blank
abbrev pub field_of : List ℕ → Places → ℕ → List ℕ
field_of s places role = field_bytes role (said_of s places role)

-- a document holds payments or returns
abbrev pub kind_of : Places → ℕ
kind_of places = cond (there places roles.payments) payment_kind return_kind

-- method CLRG, system EKS, a bulk recipient
abbrev pub marks_of : List ℕ → Places → ℕ
marks_of s places =
    bit (is_clearing (said_of s places roles.method)) + 2 * bit (is_system (said_of s places roles.system)) + 4 * bit (there places roles.recipient)

unfoldable pub header_of : List ℕ → Places → List ℕ
header_of s places =
    bytes_of kind_width (kind_of places)
    ++ field_of s places roles.bulk_identifier
    ++ field_of s places roles.sender
    ++ field_of s places roles.stated_number
    ++ field_of s places roles.stated_sum
    ++ field_of s places roles.value_date
    ++ bytes_of marks_width (marks_of s places)

unfoldable pub message_of : List ℕ → Places → List ℕ
message_of s places =
    field_of s places roles.identifier
    ++ field_of s places roles.receiver
    ++ field_of s places roles.amount
    ++ field_of s places roles.original_amount
    ++ field_of s places roles.reason
    ++ field_of s places roles.original_name
