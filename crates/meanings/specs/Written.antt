-- Texts that mean a given number, as a sender would write them. Assumes nothing.
use Prim.Native.Char.{code}
use Rattle.std.specs.Prelude.{ℕ, ◌/◌, List, ◌∷◌, ◌++◌}
use Rattle.decimals.specs.Decimal.{digits_of, decimal}

-- without zeros in front; 0 is one digit
abbrev pub decimal_text : ℕ → List ℕ
decimal_text n = decimal n

-- whole euros, a point, two digits
unfoldable pub amount_text : ℕ → List ℕ
amount_text n = decimal (n / 100) ++ (code "." ∷ digits_of 2 n)

-- YYYY-MM-DD
unfoldable pub date_text : ℕ → List ℕ
date_text n = digits_of 4 (n / 10000) ++ (code "-" ∷ (digits_of 2 (n / 100) ++ (code "-" ∷ digits_of 2 n)))
