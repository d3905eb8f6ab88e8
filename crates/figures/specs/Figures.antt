-- The lines that show figures only. Assumes nothing.
use Prim.Native.Char.{code}
use Rattle.std.specs.Prelude.{ℕ, cond, List, [], ◌∷◌, ◌++◌, eqb}
use Rattle.wire.specs.Field.{text}
use Rattle.positions.specs.Positions.{negative, magnitude}
use Rattle.decimals.specs.Decimal.{decimal, field, line_end}

-- the whole number that 64 bits stand for, after a space
unfoldable pub signed_text : ℕ → List ℕ
signed_text bits = cond (negative bits) (text " -" ++ decimal (magnitude bits)) (field (magnitude bits))

-- the position of a row, of which these are the bits, if it isn't 0
unfoldable pub position_text : ℕ → ℕ → List ℕ
position_text row bits = cond (eqb bits 0) [] (text "P" ++ field row ++ signed_text bits ++ line_end)

-- a letter and one number
unfoldable pub number_text : ℕ → ℕ → List ℕ
number_text letter number = (letter ∷ []) ++ field number ++ line_end

-- the entries in use
abbrev pub used_text : ℕ → List ℕ
used_text number = number_text (code "=") number

abbrev pub refusal_text : ℕ → List ℕ
refusal_text number = number_text (code "X") number
