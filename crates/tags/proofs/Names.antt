-- The law of a byte of a name: the order of the tests does not matter. Assumes nothing.
use mathlib.Core.Path.{◌≡◌, refl, sym}
use mathlib.Core.Bool.{Bool, true, false, cond, not, ◌||◌}
use Prim.Native.Nat.{ℕ, ◌<◌}
use native.Mathlib.Omega.{arith}
use lib.Dec.{eqb}
use Rattle.wire.specs.Places.{every_from}
use Rattle.wire.proofs.Scans.{every_holds}
use Rattle.letters.specs.Places.{within}
use Rattle.tags.specs.Names.{name_start, name_byte}

-- a byte of a name, with the letters asked for last
abbrev pub in_name : ℕ → Bool
in_name b = eqb b 45 || eqb b 46 || within 48 57 b || eqb b 58 || eqb b 95 || within 97 122 b || within 65 90 b

abbrev agree : Bool → Bool → Bool
agree a b = cond a b (not b)

agree_equal : (a b : Bool) → agree a b ≡ true → a ≡ b
agree_equal true true e = refl
agree_equal true false e = sym e
agree_equal false true e = e
agree_equal false false e = refl

-- of all 256 bytes, by computing
every_byte : every_from (λ b. agree (in_name b) (name_byte b)) 256 0 ≡ true
unfolding every_from name_byte name_start
every_byte = refl

pub in_name_byte : (b : ℕ) → b < 256 → in_name b ≡ name_byte b
in_name_byte b byte =
    agree_equal (in_name b) (name_byte b)
    (every_holds (λ k. agree (in_name k) (name_byte k)) 256 0 b every_byte (omega arith) (omega arith))
