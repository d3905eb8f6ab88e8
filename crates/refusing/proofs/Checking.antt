-- The refusals asked in parts, one after the other, are all of them in their order; and what a whole sheet holds. Assumes nothing.
use Rattle.std.proofs.Common.{ℕ, ◌+◌, ◌*◌, ◌≤◌, ◌≡◌, refl, sym, ap, ◌∙◌, Bool, true, false, cond, List, [], ◌∷◌, ◌++◌, length, Result, Ok, Err, Option, Some, None}
use Rattle.sheet.specs.Sheet.{count_width, header_width, shape}
use Rattle.sheet.specs.Reading.{shape_of}
use Rattle.sheet.proofs.Laws.{whole_facts, shape_facts, shape_none}
use Rattle.refusing.specs.Refusals.{refusal_number, holds_given, first_holding}
use Rattle.refusing.specs.Checking.{from, first_of, asks, Measured}
use Rattle.sheet.specs.declared.Contents.{Contents}
use Rattle.refusing.specs.declared.Lent.{Lent}
use Rattle.refusing.specs.declared.Refusal.{Refusal}
use Rattle.refusing.specs.declared.Refusal.TheVariants.{Sheet, Size}

-- ---- part by part

abbrev pub number_told : Result Unit Refusal → ℕ
number_told (Err r) = refusal_number r
number_told (Ok _) = 0

abbrev pub else_of : Result Unit Refusal → Result Unit Refusal → Result Unit Refusal
else_of (Err r) later = Err r
else_of (Ok _) later = later

module _ (test : Refusal → Bool) where
  number_of_first : (rs : List Refusal) → first_holding test rs ≡ number_told (first_of test rs)
  unfolding first_holding
  number_of_first [] = refl
  number_of_first (r ∷ rs) =
      elim (test r) as (λ t. cond t (refusal_number r) (first_holding test rs) ≡ number_told (cond t (Err r) (first_of test rs))) [
        | true ↦ refl
        | false ↦ number_of_first rs
      ]

  first_of_both : (rs more : List Refusal) → first_of test (rs ++ more) ≡ else_of (first_of test rs) (first_of test more)
  first_of_both [] more = refl
  first_of_both (r ∷ rs) more =
      elim (test r) as (λ t. cond t (Err r) (first_of test (rs ++ more)) ≡ else_of (cond t (Err r) (first_of test rs)) (first_of test more)) [
        | true ↦ refl
        | false ↦ first_of_both rs more
      ]

  -- what two parts tell, one after the other
  pub told_by_both : (rs more : List Refusal) (told later : Result Unit Refusal) → told ≡ first_of test rs → later ≡ first_of test more
      → first_holding test (rs ++ more) ≡ number_told (else_of told later)
  told_by_both rs more told later e f =
      number_of_first (rs ++ more) ∙ ap number_told (first_of_both rs more ∙ sym (λ i. else_of (e i) (f i)))

-- ---- the sheet's own condition

module _ (lent : Lent) where
  pub sheet_stops : (told : Option Contents) → told ≡ None → shape_of told ≡ shape lent.sheet.now → Err Sheet ≡ first_of (asks lent) (from Sheet)
  unfolding holds_given
  sheet_stops told e f = rw (shape_none lent.sheet.now (sym f ∙ ap shape_of e))

  pub sheet_passes : (contents : Contents) → Measured lent.sheet.now contents → (told : Result Unit Refusal) → told ≡ first_of (asks lent) (from Size)
      → told ≡ first_of (asks lent) (from Sheet)
  unfolding holds_given
  sheet_passes contents m told e = rw m.whole e

-- ---- what a whole sheet holds

pub measured_told : (sheet : List ℕ) (told : Option Contents) (contents : Contents) → told ≡ Some contents → shape_of told ≡ shape sheet → Measured sheet contents
measured_told sheet told contents e f =
    let facts = shape_facts sheet contents.bulks contents.messages (sym f ∙ ap shape_of e) in
    record { whole = facts.whole; bulk_count = facts.bulks; message_count = facts.messages }

pub header_room : (sheet : List ℕ) (contents : Contents) → Measured sheet contents → count_width + header_width * contents.bulks ≤ length sheet
header_room sheet contents m = rw m.bulk_count (whole_facts sheet m.whole).headed
