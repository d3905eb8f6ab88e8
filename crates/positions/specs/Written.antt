-- Positions written out from the cents of each row, for cases and the values at the edges. Assumes nothing.
use Rattle.std.specs.Prelude.{ℕ, suc, ◌-◌, ◌^◌, List, map, ℤ, pos, negsuc}
use Rattle.wire.specs.Field.{bytes_of}
use Rattle.wire.specs.Written.{joined}
use Rattle.positions.specs.Positions.{position_width}

-- the 64 bits of a whole number
abbrev pub bits_of : ℤ → ℕ
bits_of (pos n) = n
bits_of (negsuc n) = 2 ^ 64 - suc n

abbrev pub positions_bytes : List ℤ → List ℕ
positions_bytes rows = joined (map (λ cents. bytes_of position_width (bits_of cents)) rows)
