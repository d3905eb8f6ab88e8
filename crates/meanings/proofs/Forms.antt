-- The laws of each form: what its test tells, how large its number can be, and what the code's tests come to. Assumes nothing.
use mathlib.Core.Path.{◌≡◌, refl, sym, ap, ◌∙◌}
use mathlib.Core.Bool.{Bool, true, false, ◌&&◌, ◌||◌, and-eq-true_iff}
use mathlib.Core.List.{List, [], ◌∷◌, ◌++◌}
use Prim.Native.Nat.{ℕ, suc, ◌+◌, ◌*◌, ◌^◌, ◌≤◌, ◌<◌}
use native.Mathlib.Nat.{pow-le-pow_right, lt_of_lt_of_le}
use native.Mathlib.Numerals.{add-one}
use native.Mathlib.Omega.{arith}
use lib.Dec.{leb, ltb, eqb, lit<}
use lib.ListN.{length, take, drop, replicate, length-append}
use borrow.Author.Tests.{leb-true, ltb-true, eqb-true}
use Rattle.std.specs.Prelude.{Option, Some, None}
use Rattle.wire.specs.Field.{part}
use Rattle.wire.proofs.Texts.{part_length, rest_read}
use Rattle.letters.specs.Places.{byte_at, run}
use Rattle.letters.specs.References.{digit_of, numeral_from}
use Rattle.meanings.specs.Meanings.{digit, digits, decimal, is_number, wholes, parts, cents, amount_digits, is_amount, amount_meant, date_digits, is_date, date_number, meant_if}
use Rattle.meanings.proofs.Decimals.{digits_append, decimal_append, decimal_below, run_digits}

both : (a b : Bool) → (a && b) ≡ true → (a ≡ true) × (b ≡ true)
both a b e = (and-eq-true_iff a b).0 e

-- ---- what a test leaves

pub meant_is : (test : Bool) (r n : ℕ) → test ≡ true → r ≡ n → Some r ≡ meant_if test n
meant_is test r n e same = rw (e, same)

pub meant_nothing : (test : Bool) (n : ℕ) → test ≡ false → None ≡ meant_if test n
meant_nothing test n e = rw e

pub decimal_small : (t : List ℕ) (n : ℕ) → digits t ≡ true → length t ≤ n → decimal t < 10 ^ n
decimal_small t n e short = lt_of_lt_of_le (decimal_below t e) (pow-le-pow_right (lit< tt) {i = length t} {j = n} short)

-- ---- numbers

pub number_form : (t : List ℕ) → is_number t ≡ true → (digits t ≡ true) × (1 ≤ length t) × (length t ≤ 15)
unfolding is_number
number_form t e =
    let outer = both (digits t && leb 1 (length t)) (leb (length t) 15) e in
    let inner = both (digits t) (leb 1 (length t)) outer.0 in
    (inner.0, leb-true 1 (length t) inner.1, leb-true (length t) 15 outer.1)

pub number_test : (t : List ℕ) (d : Bool) → d ≡ digits t → (d && leb 1 (length t) && leb (length t) 15) ≡ is_number t
unfolding is_number
number_test t d e = rw e

pub number_small_lem : (t : List ℕ) → is_number t ≡ true → decimal t < 10 ^ 15
number_small_lem t e = let form = number_form t e in decimal_small t 15 form.0 form.2

-- ---- amounts

-- all of an amount's form but its size
abbrev formed : List ℕ → Bool
formed t =
    (digits t || eqb (byte_at t (run digit t)) 46)
    && digits (parts t)
    && leb (length (parts t)) 2
    && leb 1 (amount_digits t)
    && leb (amount_digits t) 18

pub amount_small : (t : List ℕ) → is_amount t ≡ true → cents t < 2 ^ 64
unfolding is_amount
amount_small t e = ltb-true (cents t) (2 ^ 64) (both (formed t) (ltb (cents t) (2 ^ 64)) e).1

-- one digit behind the point counts tenths, and so a zero stands behind it; two digits or none are read as they stand
pub tenths : (t : List ℕ) → length t ≡ 1 → decimal t * 10 ≡ decimal (take 2 (t ++ replicate 2 48))
unfolding numeral_from digit_of
tenths [] e = absurd (omega arith)
tenths (a ∷ []) e = omega arith
tenths (a ∷ b ∷ t) e = absurd (omega arith)

pub as_it_stands_lem : (t : List ℕ) → length t ≤ 2 → (length t ≡ 1 → ⊥) → decimal t ≡ decimal (take 2 (t ++ replicate 2 48))
unfolding numeral_from digit_of
as_it_stands_lem [] short other = refl
as_it_stands_lem (a ∷ []) short other = absurd (other refl)
as_it_stands_lem (a ∷ b ∷ []) short other = refl
as_it_stands_lem (a ∷ b ∷ d ∷ t) short other = absurd (omega arith)

-- what the code finds in a text: the run that it begins with, the digits on both sides of the point, and its test
module _ (t : List ℕ) (n : ℕ) (w p : List ℕ) (b : ℕ) (d : Bool) (en : n ≡ run digit t) (ew : w ≡ part t 0 n) (ep : p ≡ part t (n + 1) (length t))
    (eb : b ≡ byte_at t n) (ed : d ≡ digits p) where
  whole_part : w ≡ wholes t
  whole_part = ew ∙ ap (λ (k : ℕ). take k t) en

  behind_part : p ≡ parts t
  behind_part = rest_read t p (n + 1) ep ∙ ap (λ (k : ℕ). drop k t) (add-one n ∙ ap suc en)

  abbrev count : ℕ
  count = length w + length p

  abbrev short : Bool
  short = (eqb n (length t) || eqb b 46) && d && leb (length p) 2

  abbrev tested : Bool
  tested = short && leb 1 count && leb count 18

  same_test : tested ≡ formed t
  same_test = rw (eb, ed, whole_part, behind_part, en)

  pub amount_wholes : tested ≡ true → (digits w ≡ true) × (length w ≤ 18)
  amount_wholes e =
      let few = leb-true count 18 (both (short && leb 1 count) (leb count 18) e).1 in
      (rw whole_part (run_digits t), omega arith)

  pub amount_parts : tested ≡ true → (digits p ≡ true) × (length p ≤ 2)
  amount_parts e =
      let point = eqb n (length t) || eqb b 46 in
      let front = both (point && d) (leb (length p) 2) (both short (leb 1 count) (both (short && leb 1 count) (leb count 18) e).0).0 in
      (sym ed ∙ (both point d front.0).1, leb-true (length p) 2 front.1)

  pub amount_told : tested ≡ true → (whole rest : ℕ) (r : Option ℕ) → whole ≡ decimal w → rest ≡ decimal (take 2 (p ++ replicate 2 48))
      → r ≡ meant_if (ltb (whole * 100 + rest) (2 ^ 64)) (whole * 100 + rest) → r ≡ amount_meant t
  unfolding is_amount cents
  amount_told e whole rest r ewhole erest er =
      let sum : whole * 100 + rest ≡ cents t = rw (ewhole, erest, whole_part, behind_part) in
      let form : formed t ≡ true = sym same_test ∙ e in
      er ∙ (rw (sum, form))

  pub amount_nothing : tested ≡ false → None ≡ amount_meant t
  unfolding is_amount
  amount_nothing e = let form : formed t ≡ false = sym same_test ∙ e in rw form

-- ---- dates

abbrev year : List ℕ → List ℕ
year t = part t 0 4

abbrev month : List ℕ → List ℕ
month t = part t 5 2

abbrev day : List ℕ → List ℕ
day t = part t 8 2

digits_three : (xs ys zs : List ℕ) → digits (xs ++ (ys ++ zs)) ≡ (digits xs && (digits ys && digits zs))
digits_three xs ys zs = rw (digits_append xs (ys ++ zs), digits_append ys zs)

pub date_test : (t : List ℕ) (y m d : Bool) (first second : ℕ)
    → y ≡ digits (year t) → m ≡ digits (month t) → d ≡ digits (day t) → first ≡ byte_at t 4 → second ≡ byte_at t 7
    → (eqb (length t) 10 && (y && (m && d)) && eqb first 45 && eqb second 45) ≡ is_date t
unfolding is_date
date_test t y m d first second ey em ed e4 e7 = rw (ey, em, ed, e4, e7, digits_three (year t) (month t) (day t))

pub record Pieces (t : List ℕ) : Type 0 where
  pub years : digits (year t) ≡ true
  pub months : digits (month t) ≡ true
  pub days : digits (day t) ≡ true
  pub four : length (year t) ≡ 4
  pub two : length (month t) ≡ 2
  pub last : length (day t) ≡ 2

pub date_form : (t : List ℕ) → is_date t ≡ true → Pieces t
unfolding is_date
date_form t e =
    let size = eqb (length t) 10 in
    let all = digits (date_digits t) in
    let front = both size all (both (size && all) (eqb (byte_at t 4) 45) (both (size && all && eqb (byte_at t 4) 45) (eqb (byte_at t 7) 45) e).0).0 in
    let long : length t ≡ 10 = eqb-true (length t) 10 front.0 in
    let three : (digits (year t) && (digits (month t) && digits (day t))) ≡ true = sym (digits_three (year t) (month t) (day t)) ∙ front.1 in
    let first = both (digits (year t)) (digits (month t) && digits (day t)) three in
    let rest = both (digits (month t)) (digits (day t)) first.1 in
    record {
      years = first.0;
      months = rest.0;
      days = rest.1;
      four = part_length t 0 4 (omega arith);
      two = part_length t 5 2 (omega arith);
      last = part_length t 8 2 (omega arith);
    }

date_number_lem : (t : List ℕ) → Pieces t → decimal (year t) * 10000 + decimal (month t) * 100 + decimal (day t) ≡ date_number t
date_number_lem t pieces =
    let back : length (month t ++ day t) ≡ 4 = simp length-append (omega arith) in
    sym (decimal_append (year t) (month t ++ day t)
    ∙ (rw (back, decimal_append (month t) (day t), pieces.last) (omega arith)))

-- the pieces as the code reads them
module _ (t : List ℕ) {y m d : ℕ} {ys ms ds : List ℕ} (e : is_date t ≡ true) (eys : ys ≡ year t) (ey : y ≡ decimal ys)
    (ems : ms ≡ month t) (em : m ≡ decimal ms) (eds : ds ≡ day t) (ed : d ≡ decimal ds) where
  pub date_room : (y < 10000) × (m < 100) × (d < 100)
  date_room =
      let pieces = date_form t e in (
        rw (ey, eys) (decimal_small (year t) 4 pieces.years (omega arith)),
        rw (em, ems) (decimal_small (month t) 2 pieces.months (omega arith)),
        rw (ed, eds) (decimal_small (day t) 2 pieces.days (omega arith)),
      )

  pub date_sum : {r : ℕ} → r ≡ y * 10000 + m * 100 + d → r ≡ date_number t
  date_sum er = er ∙ (rw (ey, eys, em, ems, ed, eds) (date_number_lem t (date_form t e)))

pub date_small : (t : List ℕ) → is_date t ≡ true → date_number t < 10 ^ 8
unfolding is_date
date_small t e =
    let pieces = date_form t e in
    let all : digits (date_digits t) ≡ true = digits_three (year t) (month t) (day t) ∙ (rw (pieces.years, pieces.months, pieces.days)) in
    decimal_small (date_digits t) 8 all (simp length-append (omega arith))
