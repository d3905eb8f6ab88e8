-- The text that is written of a number is of its form, and becomes the field's own bytes. Assumes nothing.
use mathlib.Core.Path.{◌≡◌, refl, sym, ap, ◌∙◌}
use mathlib.Core.Bool.{Bool, true, false, cond, ◌||◌, or-true, and-eq-true_iff}
use mathlib.Core.List.{List, [], ◌∷◌, ◌++◌, append-nil}
use Prim.Native.Nat.{ℕ, suc, ◌+◌, ◌/◌, ◌%◌, ◌^◌, ◌≤◌, ◌<◌}
use native.Mathlib.Omega.{arith}
use lib.Dec.{eqb, ltb}
use lib.ListN.{length, take, drop, replicate}
use lib.Seq.{take-add, drop-drop}
use borrow.Author.Tests.{le-leb}
use Rattle.std.specs.Prelude.{Some, None}
use Rattle.wire.specs.Field.{Bytes, part, bytes_of, number_at}
use Rattle.wire.proofs.Numbers.{read_written}
use Rattle.wire.proofs.Texts.{part_bytes_lem, part_length}
use Rattle.letters.specs.Characters.{single}
use Rattle.letters.proofs.Characters.{width_first}
use Rattle.decimals.specs.Decimal.{digits_of}
use Rattle.meanings.specs.Meanings.{digits, is_number, is_date, is_amount, amount_meant}
use Rattle.meanings.specs.Written.{decimal_text, amount_text, date_text}
use Rattle.meanings.proofs.Decimals.{digits_both, digit_bounds}
use Rattle.meanings.proofs.Written.{number_written, date_written, shown_digits, printed_digits}
use Rattle.paths.specs.Roles as roles
use Rattle.fields.specs.Fields.{fits, field_bytes, meant_bytes}
use Rattle.fields.proofs.Computing.{fields_compute}
use Rattle.documents.specs.Amounts.{carried_amount, tenths_text, euro_text}
use Rattle.documents.specs.Carried.{characters_by, characters}
use Rattle.documents.proofs.Here.{all}
use Rattle.documents.proofs.Amounts.{euro_written}

-- ---- texts of characters of one byte

pub single_true : (b : ℕ) → 32 ≤ b → b ≤ 127 → single b ≡ true
single_true b low high = rw (le-leb 32 b low, le-leb b 127 high) (or-true (eqb b 9 || eqb b 10 || eqb b 13))

pub singles : (t : List ℕ) → all single t ≡ true → characters t ≡ true
unfolding characters_by all
singles [] h = refl
singles (b ∷ bs) h =
    let both = (and-eq-true_iff (single b) (all single bs)).0 h in
    rw (← (width_first (b ∷ bs) 0 both.0), singles bs both.1) (or-true (eqb (suc (length bs)) 0))

digits_single : (t rest : List ℕ) → digits t ≡ true → all single rest ≡ true → all single (t ++ rest) ≡ true
unfolding all
digits_single [] rest e h = h
digits_single (b ∷ bs) rest e h =
    let both = digits_both b bs e in
    let bounds = digit_bounds b both.0 in
    rw (single_true b (omega arith) (omega arith)) (digits_single bs rest both.1 h)

digits_alone : (t : List ℕ) → digits t ≡ true → all single t ≡ true
unfolding all
digits_alone t e = ap (all single) (sym (append-nil t)) ∙ digits_single t [] e refl

number_characters : (n : ℕ) → characters (decimal_text n) ≡ true
number_characters n = singles (decimal_text n) (digits_alone (decimal_text n) (printed_digits n))

module _ (n : ℕ) where
  -- with a point and some digits behind it
  pointed : (k m : ℕ) → characters (decimal_text (n / 100) ++ (46 ∷ digits_of k m)) ≡ true
  unfolding all
  pointed k m =
      singles (decimal_text (n / 100) ++ (46 ∷ digits_of k m))
      (digits_single (decimal_text (n / 100)) (46 ∷ digits_of k m) (printed_digits (n / 100)) (digits_alone (digits_of k m) (shown_digits k m)))

  amount_characters : characters (euro_text n) ≡ true
  unfolding euro_text amount_text tenths_text
  amount_characters = by_form (ltb n (10 ^ 18)) (eqb (n % 100) 0)
    where
      by_form : (a c : Bool) → characters (cond a (amount_text n) (cond c (decimal_text (n / 100)) (tenths_text n))) ≡ true
      by_form true c = pointed 2 n
      by_form false true = number_characters (n / 100)
      by_form false false = pointed 1 (n / 10)

  date_characters : characters (date_text n) ≡ true
  unfolding date_text all
  date_characters =
      singles (date_text n)
      (digits_single (digits_of 4 (n / 10000)) (45 ∷ (digits_of 2 (n / 100) ++ (45 ∷ digits_of 2 n))) (shown_digits 4 (n / 10000))
      (digits_single (digits_of 2 (n / 100)) (45 ∷ digits_of 2 n) (shown_digits 2 (n / 100)) (digits_alone (digits_of 2 n) (shown_digits 2 n))))

-- ---- a number's bytes

pub number_back : (s : List ℕ) (at w : ℕ) → Bytes s → at + w ≤ length s → bytes_of w (number_at s at w) ≡ part s at w
number_back s at w bytes h =
    ap (λ (k : ℕ). bytes_of k (number_at s at w)) (sym (part_length s at w h)) ∙ read_written (part s at w) (part_bytes_lem s at w bytes)

-- ---- what is written of each kind of field

pub record Carries (role : ℕ) (said bytes : List ℕ) : Type 0 where
  pub carried : characters said ≡ true
  pub form : fits role said ≡ true
  pub back : field_bytes role said ≡ bytes

meant_held : (t : Bool) (m n : ℕ) → cond t (Some m) None ≡ Some n → t ≡ true
meant_held true m n e = refl
meant_held false m n e = absurd (let z : ◌≡◌ {A = ℕ} 0 1 = cc in omega arith)

pub number_carries : (n : ℕ) → n < 10 ^ 15 → Carries roles.stated_number (decimal_text n) (bytes_of 8 n)
unfolding fits field_bytes
number_carries n h =
    record { carried = number_characters n; form = meant_held (is_number (decimal_text n)) _ n (number_written n h); back = rw (number_written n h) }

pub date_carries : (n : ℕ) → n < 10 ^ 8 → Carries roles.value_date (date_text n) (bytes_of 4 n)
unfolding fits field_bytes
date_carries n h =
    record { carried = date_characters n; form = meant_held (is_date (date_text n)) _ n (date_written n h); back = rw (date_written n h) }

-- the roles of amounts
module _ (n : ℕ) (h : carried_amount n ≡ true) (small : n < 2 ^ 64) where
  amount_form : is_amount (euro_text n) ≡ true
  amount_form = meant_held (is_amount (euro_text n)) _ n (euro_written n h small)

  amount_back : meant_bytes 8 (amount_meant (euro_text n)) ≡ bytes_of 8 n
  amount_back = ap (meant_bytes 8) (euro_written n h small)

  pub sum_carries : Carries roles.stated_sum (euro_text n) (bytes_of 8 n)
  unfolding fits field_bytes
  sum_carries = record { carried = amount_characters n; form = amount_form; back = amount_back }

  pub amount_carries : Carries roles.amount (euro_text n) (bytes_of 8 n)
  unfolding fits field_bytes
  amount_carries = record { carried = amount_characters n; form = amount_form; back = amount_back }

  pub original_carries : Carries roles.original_amount (euro_text n) (bytes_of 8 n)
  unfolding fits field_bytes
  original_carries = record { carried = amount_characters n; form = amount_form; back = amount_back }

-- ---- what a payment does not tell

pub no_amount : field_bytes roles.original_amount [] ≡ bytes_of 8 0
unfolding fields_compute
no_amount = refl

pub no_reason : field_bytes roles.reason [] ≡ replicate 4 32
unfolding fields_compute
no_reason = refl

pub no_name : field_bytes roles.original_name [] ≡ replicate 15 32
unfolding fields_compute
no_name = refl

-- ---- parts side by side

pub part_then : (s : List ℕ) (at m n : ℕ) → part s at m ++ part s (at + m) n ≡ part s at (m + n)
part_then s at m n = ap (λ (l : List ℕ). take m (drop at s) ++ take n l) (sym (drop-drop m at s)) ∙ sym (take-add m n (drop at s))
