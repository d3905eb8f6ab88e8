-- How large the fields of a line can be. Assumes nothing.
use mathlib.Core.Path.{◌≡◌}
use mathlib.Core.List.{List}
use Prim.Native.Nat.{ℕ, ◌+◌, ◌*◌, ◌^◌, ◌≤◌, ◌<◌}
use native.Mathlib.Omega.{arith}
use lib.ListN.{length}
use Rattle.wire.specs.Field.{Bytes}
use Rattle.wire.proofs.Numbers.{number_small_lem}
use Rattle.wire.proofs.Texts.{part_short}
use Rattle.report.specs.Line.{identifier_width, faults_place, faults_width, number_width, accepted_number_place, accepted_cents_place, accepted_cents_width, rejected_number_place, rejected_cents_place, rejected_cents_width, identifier_in, faults_in, totals_in}

-- ---- the fields of a line

pub identifier_width_lem : (line : List ℕ) → length (identifier_in line) ≤ identifier_width
identifier_width_lem line = part_short line 0 identifier_width

module _ (line : List ℕ) (bytes : Bytes line) where
  pub faults_small : faults_in line < 256 ^ faults_width
  faults_small = number_small_lem line faults_place faults_width bytes

  pub accepted_number_small : (totals_in line).accepted_number < 256 ^ number_width
  accepted_number_small = number_small_lem line accepted_number_place number_width bytes

  pub accepted_cents_small : (totals_in line).accepted_cents < 256 ^ accepted_cents_width
  accepted_cents_small = number_small_lem line accepted_cents_place accepted_cents_width bytes

  pub rejected_number_small : (totals_in line).rejected_number < 256 ^ number_width
  rejected_number_small = number_small_lem line rejected_number_place number_width bytes

  pub rejected_cents_small : (totals_in line).rejected_cents < 256 ^ rejected_cents_width
  rejected_cents_small = number_small_lem line rejected_cents_place rejected_cents_width bytes

  -- so two bytes are left for the high half
  pub half_small : (h l : ℕ) → h * 2 ^ 64 + l ≡ (totals_in line).rejected_cents → h < 65536
  half_small h l e = let below = rejected_cents_small in omega arith
