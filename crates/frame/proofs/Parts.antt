-- The parts of an input, read from their places. Assumes nothing.
use mathlib.Core.Path.{◌≡◌, ap, ◌∙◌}
use mathlib.Core.Bool.{Bool, ◌&&◌}
use mathlib.Core.List.{List}
use Prim.Native.Nat.{ℕ, ◌+◌}
use lib.Dec.{leb, eqb}
use lib.ListN.{length, drop}
use Rattle.wire.specs.Field.{part}
use Rattle.wire.proofs.Texts.{rest_read}
use Rattle.frame.specs.Frame.{length_width, most_part, length_in, fits, part_in, after_part, table_on, register_on, sheet_on, in_shape}

pub after_read : (s r : List ℕ) (n : ℕ) → n ≡ length_in s → r ≡ part s (length_width + n) (length s) → r ≡ after_part s
after_read s r n is e = rest_read s r (length_width + n) e ∙ ap (λ (k : ℕ). drop (length_width + k) s) is

pub part_read : (s r : List ℕ) (n : ℕ) → n ≡ length_in s → r ≡ part s length_width n → r ≡ part_in s
part_read s r n is e = e ∙ ap (λ (k : ℕ). part s length_width k) is

pub fits_read : (s : List ℕ) (n : ℕ) → n ≡ length_in s → (leb n most_part && leb (length_width + n) (length s)) ≡ fits s
fits_read s n is = ap (λ (k : ℕ). leb k most_part && leb (length_width + k) (length s)) is

pub shape_read : (input table register sheet behind : List ℕ) (a b c : Bool)
    → table ≡ table_on input → register ≡ register_on input → sheet ≡ sheet_on input → behind ≡ after_part sheet
    → a ≡ fits table → b ≡ fits register → c ≡ fits sheet
    → (a && b && c && eqb (length behind) 0) ≡ in_shape input
unfolding in_shape
shape_read input table register sheet behind a b c et er es eb ea' eb' ec' = rw (ea', eb', ec', eb, et, er, es)
