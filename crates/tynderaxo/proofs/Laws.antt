-- What the doors need of their structs. Assumes nothing.
use mathlib.Core.Path.{◌≡◌, refl, sym, ap, ◌∙◌}
use mathlib.Core.Bool.{Bool, true, false}
use mathlib.Core.List.{List}
use Prim.Native.Nat.{ℕ, ◌<◌, ◌^◌}
use native.Mathlib.Nat.{lt_of_lt_of_le}
use lib.Dec.{lit≤}
use mir.Val.{bool_byte}
use Rattle.wire.specs.Field.{bit}
use Rattle.routing.specs.Lookup.{Routed, values_of}
use Rattle.routing.specs.Promise.{AnswerTold}
use Rattle.routing.specs.declared.Refusal.{Refusal}
use Rattle.routing.specs.declared.Row.{Row}
use Rattle.std.specs.Prelude.{Option, Some, Result, Ok}

byte_is_bit : (b : Bool) → bool_byte b ≡ bit b
byte_is_bit true = refl
byte_is_bit false = refl

-- a row that was named has a number that fits 32 bits
pub row_fits : (table : List ℕ) (answer : Result (Option Row) Refusal) (expected : Routed) (row : Row) → AnswerTold table answer expected → answer ≡ Ok (Some row) → row.place < 2 ^ 32
row_fits table answer expected row told e = lt_of_lt_of_le (rw e at told.small) (lit≤ tt)

pub row_told : (table : List ℕ) (answer : Result (Option Row) Refusal) (expected : Routed) (row : Row) → AnswerTold table answer expected → answer ≡ Ok (Some row)
    → record { number = 0; found = 1; row = row.place; reachable = bool_byte row.reachable } ≡ expected
row_told table answer expected row told e = rw (byte_is_bit row.reachable) (ap values_of (sym e) ∙ told.is)
