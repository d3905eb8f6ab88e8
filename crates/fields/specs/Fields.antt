-- The fields: which form the text of each must have, and the bytes of the sheet that it becomes. Assumes nothing.
use Rattle.std.specs.Prelude.{ℕ, Bool, true, cond, ◌||◌, List, length, leb, eqb, Option, Some, None, is_some}
use Rattle.wire.specs.Field.{bytes_of, text, same}
use Rattle.meanings.specs.Meanings as meanings
use Rattle.paths.specs.Roles as roles

-- ---- the form of a field's text

-- how long the text of a field is at most, where it is kept as text
abbrev pub width_of : ℕ → ℕ
width_of role =
    cond (eqb role roles.sender) 8
    (cond (eqb role roles.receiver) 11
    (cond (eqb role roles.reason) 4
    (cond (eqb role roles.original_name) 15
    35)))

-- a text that is only asked whether it is a given one
abbrev pub is_mark : ℕ → Bool
is_mark role = eqb role roles.method || eqb role roles.system

-- whether a text means a number
abbrev pub is_meant : Option ℕ → Bool
is_meant m = is_some m

unfoldable pub fits : ℕ → List ℕ → Bool
fits role t =
    cond (is_mark role) true
    (cond (eqb role roles.stated_number) (meanings.is_number t)
    (cond (eqb role roles.value_date) (meanings.is_date t)
    (cond (roles.is_amount role) (meanings.is_amount t)
    (leb (length t) (width_of role)))))

-- ---- its bytes

-- a number in so many bytes; 0 for a text that means none, which no text that fits does
abbrev pub meant_bytes : ℕ → Option ℕ → List ℕ
meant_bytes w (Some n) = bytes_of w n
meant_bytes w None = bytes_of w 0

unfoldable pub field_bytes : ℕ → List ℕ → List ℕ
field_bytes role t =
    cond (eqb role roles.stated_number) (meant_bytes 8 (meanings.number_meant t))
    (cond (eqb role roles.value_date) (meant_bytes 4 (meanings.date_meant t))
    (cond (roles.is_amount role) (meant_bytes 8 (meanings.amount_meant t))
    (cond (eqb role roles.receiver) (meanings.receiver t)
    (meanings.filled (width_of role) t))))

-- how many they are
abbrev pub field_width : ℕ → ℕ
field_width role =
    cond (eqb role roles.stated_number) 8
    (cond (eqb role roles.value_date) 4
    (cond (roles.is_amount role) 8
    (width_of role)))

-- ---- marks

unfoldable pub is_clearing : List ℕ → Bool
is_clearing t = same t (text "CLRG")

unfoldable pub is_system : List ℕ → Bool
is_system t = same t (text "EKS")
