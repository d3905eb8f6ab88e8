-- How long these lines can be. Assumes nothing.
use mathlib.Core.Bool.{Bool, true, false, cond}
use mathlib.Core.List.{[], ◌++◌}
use Prim.Native.Char.{code}
use Prim.Native.Nat.{ℕ, suc, ◌+◌, ◌-◌, ◌^◌, ◌≤◌, ◌<◌}
use native.Mathlib.Omega.{arith}
use lib.Dec.{eqb, lit≤}
use lib.ListN.{length, length-append}
use Rattle.wire.specs.Field.{text}
use Rattle.positions.specs.Positions.{negative, magnitude}
use Rattle.decimals.specs.Decimal.{decimal, field, line_end}
use Rattle.decimals.proofs.Lengths.{decimal_short, field_short}
use Rattle.figures.specs.Figures.{signed_text, position_text, number_text, refusal_text}

-- ---- a letter and one number

pub number_line_short : (k letter n : ℕ) → n < 10 ^ suc k → length (number_text letter n) ≤ k + 4
unfolding number_text
number_line_short k letter n h = let number = field_short k n h in simp length-append (omega arith)

pub refusal_short : (n : ℕ) → n < 100 → length (refusal_text n) ≤ 5
refusal_short n h = number_line_short 1 (code "X") n h

-- ---- positions

magnitude_small : (bits : ℕ) → bits < 2 ^ 64 → magnitude bits ≤ 2 ^ 64
magnitude_small bits h = by_test (negative bits)
  where
    by_test : (t : Bool) → cond t (2 ^ 64 - bits) bits ≤ 2 ^ 64
    by_test true = omega arith
    by_test false = omega arith

signed_short : (bits : ℕ) → bits < 2 ^ 64 → length (signed_text bits) ≤ 22
unfolding signed_text
signed_short bits h = by_test (magnitude bits) (magnitude_small bits h) (negative bits)
  where
    by_test : (n : ℕ) → n ≤ 2 ^ 64 → (t : Bool) → length (cond t (text " -" ++ decimal n) (field n)) ≤ 22
    by_test n small true = let short = decimal_short 19 n (omega arith) in omega arith
    by_test n small false = let short = decimal_short 19 n (omega arith) in omega arith

pub position_short : (row bits : ℕ) → row < 10 ^ 20 → bits < 2 ^ 64 → length (position_text row bits) ≤ 48
unfolding position_text
position_short row bits small h = by_test (eqb bits 0)
  where
    by_test : (t : Bool) → length (cond t [] (text "P" ++ field row ++ signed_text bits ++ line_end)) ≤ 48
    by_test true = lit≤ tt
    by_test false =
        let number = field_short 19 row small in
        let cents = signed_short bits h in
        simp length-append (omega arith)
