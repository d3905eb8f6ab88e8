-- The amounts that documents can carry, in cents, and how each is written: 18 digits, of which at most two stand behind the point.
-- Assumes nothing.
use Prim.Native.Char.{code}
use Rattle.std.specs.Prelude.{ℕ, ◌/◌, ◌%◌, ◌^◌, Bool, cond, ◌&&◌, ◌||◌, List, ◌∷◌, ◌++◌, ltb, eqb}
use Rattle.decimals.specs.Decimal.{digits_of, decimal}
use Rattle.meanings.specs.Written.{decimal_text, amount_text}

-- two digits behind the point, one, or none. Of eight bytes, those with no text are: from 10^18 on, what 10 does not divide; from 10^19 on,
-- what 100 does not divide
abbrev pub carried_amount : ℕ → Bool
carried_amount n = ltb n (10 ^ 18) || (eqb (n % 10) 0 && ltb n (10 ^ 19)) || eqb (n % 100) 0

-- whole euros, a point, one digit
unfoldable pub tenths_text : ℕ → List ℕ
tenths_text n = decimal (n / 100) ++ (code "." ∷ digits_of 1 (n / 10))

-- with as many digits behind the point as there is room for
unfoldable pub euro_text : ℕ → List ℕ
euro_text n = cond (ltb n (10 ^ 18)) (amount_text n) (cond (eqb (n % 100) 0) (decimal_text (n / 100)) (tenths_text n))
