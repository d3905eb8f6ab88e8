-- What an input in shape says of its parts and of its length. Assumes nothing.
use mathlib.Core.Path.{◌≡◌, refl, sym, ap, ◌∙◌}
use mathlib.Core.Logic.{⊎_elim}
use mathlib.Core.Bool.{Bool, true, false, ◌&&◌, and-eq-true_iff}
use mathlib.Core.List.{List}
use Prim.Native.Nat.{ℕ, ◌+◌, ◌≤◌, ◌<◌}
use native.Mathlib.Nat.{le_trans}
use native.Mathlib.Omega.{arith}
use lib.Dec.{leb, eqb}
use lib.ListN.{length, take, length-take, length-drop}
use lib.Seq.{take_all}
use borrow.Author.Tests.{leb-true, eqb-true}
use Rattle.wire.proofs.Texts.{part_short}
use Rattle.wire.proofs.Sides.{le_or_lt}
use Rattle.frame.specs.Frame.{date_width, length_width, most_part, most_input, length_in, fits, part_in, after_part, table_on, register_on, sheet_on, in_shape, table_in, register_in, sheet_in}
use Rattle.frame.specs.Read.{Begins, ReadOf}

-- ---- the parts

length_fits : (s : List ℕ) → fits s ≡ true → length_in s ≤ most_part
length_fits s e = leb-true (length_in s) most_part ((and-eq-true_iff (leb (length_in s) most_part) (leb (length_width + length_in s) (length s))).0 e).0

part_fits : (s : List ℕ) → fits s ≡ true → length (part_in s) ≤ most_part
part_fits s e = le_trans (part_short s length_width (length_in s)) (length_fits s e)

-- all four tests hold
pub record Shaped (input : List ℕ) : Type 0 where
  pub table_fits : fits (table_on input) ≡ true
  pub register_fits : fits (register_on input) ≡ true
  pub sheet_fits : fits (sheet_on input) ≡ true
  pub nothing_more : length (after_part (sheet_on input)) ≡ 0

shaped : (input : List ℕ) → in_shape input ≡ true → Shaped input
unfolding in_shape
shaped input e =
    let two = fits (table_on input) && fits (register_on input) in
    let all = (and-eq-true_iff (two && fits (sheet_on input)) (eqb (length (after_part (sheet_on input))) 0)).0 e in
    let three = (and-eq-true_iff two (fits (sheet_on input))).0 all.0 in
    let both = (and-eq-true_iff (fits (table_on input)) (fits (register_on input))).0 three.0 in
    record {
      table_fits = both.0;
      register_fits = both.1;
      sheet_fits = three.1;
      nothing_more = eqb-true (length (after_part (sheet_on input))) 0 all.1;
    }

module _ (input : List ℕ) (e : in_shape input ≡ true) where
  pub table_fits_lem : length (table_in input) ≤ most_part
  table_fits_lem = part_fits (table_on input) (shaped input e).table_fits

  pub register_fits_lem : length (register_in input) ≤ most_part
  register_fits_lem = part_fits (register_on input) (shaped input e).register_fits

  pub sheet_fits_lem : length (sheet_in input) ≤ most_part
  sheet_fits_lem = part_fits (sheet_on input) (shaped input e).sheet_fits

  pub shape_short : length input ≤ most_input
  shape_short =
      let is = shaped input e in
      let table = length_fits (table_on input) is.table_fits in
      let register = length_fits (register_on input) is.register_fits in
      let sheet = length_fits (sheet_on input) is.sheet_fits in
      let end = is.nothing_more in
      let a = length-drop date_width input in
      let b = length-drop (length_width + length_in (table_on input)) (table_on input) in
      let c = length-drop (length_width + length_in (register_on input)) (register_on input) in
      let d = length-drop (length_width + length_in (sheet_on input)) (sheet_on input) in
      omega arith

-- ---- longer input

long_not : (input : List ℕ) → most_input < length input → in_shape input ≡ false
long_not input long = by_test (in_shape input) refl
  where
    by_test : (t : Bool) → t ≡ in_shape input → t ≡ false
    by_test true e = absurd (let short = shape_short input (sym e) in omega arith)
    by_test false e = refl

-- one byte more than the longest tells
module _ (all read : List ℕ) (most : ℕ) (enough : most_input < most) (begins : Begins all most read) where
  short_same : length all ≤ most → all ≡ read
  short_same short = sym (take_all most all short) ∙ begins

  read_long : most < length all → most_input < length read
  read_long long =
      let cut : length read ≡ most = ap length (sym begins) ∙ (rw (length-take most all) (omega arith)) in
      omega arith

  pub read_shape : in_shape read ≡ in_shape all
  read_shape = ⊎_elim
      (λ (short : length all ≤ most). ap in_shape (sym (short_same short)))
      (λ (long : most < length all). long_not read (read_long long) ∙ sym (long_not all (omega arith)))
      (le_or_lt (length all) most)

  pub read_whole : in_shape all ≡ true → all ≡ read
  read_whole e = let fits = shape_short all e in short_same (omega arith)

-- a buffer that takes one byte more than the longest input
pub read_of : (buffer : List ℕ) (n : ℕ) (read : List ℕ) → most_input < length buffer → read ≡ take n buffer → ReadOf buffer n read
read_of buffer n read enough is =
    record {
      bytes = is;
      shape = λ all begins. read_shape all read (length buffer) enough begins;
      whole = λ all begins e. read_whole all read (length buffer) enough begins e;
    }
