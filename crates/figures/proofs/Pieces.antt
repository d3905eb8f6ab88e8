-- Which text a test picks. Assumes nothing.
use mathlib.Core.Path.{◌≡◌, sym}
use mathlib.Core.Bool.{Bool, true, false}
use mathlib.Core.List.{[], ◌++◌}
use Prim.Native.Nat.{ℕ}
use borrow.Author.Tests.{eq-eqb, ne_eqb}
use Rattle.wire.specs.Field.{text}
use Rattle.positions.specs.Positions.{negative, magnitude}
use Rattle.decimals.specs.Decimal.{decimal, field, line_end}
use Rattle.figures.specs.Figures.{signed_text, position_text}

pub signed_minus : (bits n : ℕ) (told : Bool) → n ≡ magnitude bits → told ≡ negative bits → told ≡ true → text " -" ++ decimal n ≡ signed_text bits
unfolding signed_text
signed_minus bits n told is tells e = rw is (sym (rw (← tells, e)))

pub signed_plus : (bits n : ℕ) (told : Bool) → n ≡ magnitude bits → told ≡ negative bits → told ≡ false → field n ≡ signed_text bits
unfolding signed_text
signed_plus bits n told is tells e = rw is (sym (rw (← tells, e)))

pub position_none : (row bits : ℕ) → bits ≡ 0 → [] ≡ position_text row bits
unfolding position_text
position_none row bits e = sym (rw (eq-eqb bits 0 e))

pub position_some : (row bits : ℕ) → (bits ≡ 0 → ⊥) → text "P" ++ field row ++ signed_text bits ++ line_end ≡ position_text row bits
unfolding position_text
position_some row bits some = sym (rw (ne_eqb bits 0 some))
