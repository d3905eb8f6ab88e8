-- Numbers as they are printed. Assumes nothing.
use Prim.Native.Char.{code}
use Rattle.std.specs.Prelude.{ℕ, zero, suc, ◌+◌, ◌/◌, ◌%◌, cond, List, [], ◌∷◌, ◌++◌, ltb}
use Rattle.wire.specs.Field.{text}

-- the character of the last digit
abbrev pub digit : ℕ → ℕ
digit n = code "0" + n % 10

-- the last k digits, with the zeros in front
unfoldable pub digits_of : ℕ → ℕ → List ℕ
digits_of zero n = []
digits_of (suc k) n = digits_of k (n / 10) ++ (digit n ∷ [])

-- a number of at most k digits, without zeros in front; 0 is one digit
unfoldable pub decimal_in : ℕ → ℕ → List ℕ
decimal_in zero n = []
decimal_in (suc k) n = let longer = decimal_in k (n / 10) ++ (digit n ∷ []) in cond (ltb n 10) (digit n ∷ []) longer

-- n + 1 digits are enough for any n; `one_digit` and `more_digits` of the proofs say what this comes to
unfoldable pub decimal : ℕ → List ℕ
decimal n = decimal_in (suc n) n

-- a number after a space
abbrev pub field : ℕ → List ℕ
field n = text " " ++ decimal n

abbrev pub line_end : List ℕ
line_end = 10 ∷ []
