-- A number in two halves, divided by 10^9 limb by limb: the two pieces are the number. Assumes nothing.
use mathlib.Core.Path.{◌≡◌, sym, ap, ◌∙◌}
use mathlib.Core.List.{◌++◌}
use Prim.Native.Nat.{ℕ, ◌+◌, ◌*◌, ◌/◌, ◌%◌, ◌^◌}
use native.Mathlib.Omega.{arith}
use Rattle.decimals.specs.Decimal.{digits_of, decimal}
use Rattle.decimals.proofs.Decimals.{decimal_split}

abbrev pub high_limb : ℕ → ℕ → ℕ
high_limb h l = h * 4294967296 + l / 4294967296

abbrev pub low_limb : ℕ → ℕ → ℕ
low_limb h l = high_limb h l % 1000000000 * 4294967296 + l % 4294967296

abbrev pub front_limb : ℕ → ℕ → ℕ
front_limb h l = high_limb h l / 1000000000 * 4294967296 + low_limb h l / 1000000000

limbs : (h l : ℕ) → front_limb h l * 1000000000 + low_limb h l % 1000000000 ≡ h * 2 ^ 64 + l
limbs h l = omega arith

pub no_front : (h l : ℕ) → front_limb h l ≡ 0 → decimal (low_limb h l % 1000000000) ≡ decimal (h * 2 ^ 64 + l)
no_front h l none = let all = limbs h l in ap decimal (omega arith)

pub front : (h l : ℕ) → (front_limb h l ≡ 0 → ⊥) → decimal (front_limb h l) ++ digits_of 9 (low_limb h l % 1000000000) ≡ decimal (h * 2 ^ 64 + l)
front h l some =
    sym (decimal_split 9 (front_limb h l) (low_limb h l % 1000000000) (omega arith) (omega arith)) ∙ ap decimal (limbs h l)
