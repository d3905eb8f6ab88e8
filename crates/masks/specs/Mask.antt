-- A list of facts as one number, a bit for each, and the reading of a bit. Assumes nothing.
use Rattle.std.specs.Prelude.{ℕ, ◌+◌, ◌*◌, ◌/◌, ◌%◌, ◌^◌, Bool, List, [], ◌∷◌, eqb}
use Rattle.wire.specs.Field.{bit}

-- the first fact is bit 0
unfoldable pub mask : List Bool → ℕ
mask [] = 0
mask (fact ∷ facts) = bit fact + 2 * mask facts

-- bit k is set
abbrev pub shown : ℕ → ℕ → Bool
shown mask k = eqb (mask / 2 ^ k % 2) 1
