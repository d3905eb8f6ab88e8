-- The laws of the answer: the spaces lent, the text of each outcome, and the response to an input in shape or not. Assumes nothing.
use mathlib.Core.Path.{◌≡◌, refl, sym, ap, ◌∙◌}
use mathlib.Core.Bool.{Bool, true, false}
use mathlib.Core.List.{List, ◌∷◌}
use Prim.Native.Nat.{ℕ, zero, suc, ◌+◌, ◌*◌, ◌≤◌}
use native.Mathlib.Nat.{le_trans}
use native.Mathlib.Omega.{arith}
use lib.Dec.{lit<, lit≤}
use lib.ListN.{length, take, length-replicate}
use lib.Seq.{sets, length-take-le, length-sets}
use Rattle.wire.specs.Field.{part}
use Rattle.wire.proofs.Stores.{part_stored}
use Rattle.routing.specs.Table.{rows}
use Rattle.positions.specs.Positions.{position_width}
use Rattle.refusing.specs.Refusals.{refusal_number}
use Rattle.judging.specs.Outcome.{Outcome, left, outcome}
use Rattle.rules.specs.Terms.{dated}
use Rattle.refusing.specs.Checking.{call_of}
use Rattle.std.specs.Prelude.{Result, Ok, Err}
use Rattle.refusing.specs.declared.Refusal.{Refusal}
use Rattle.refusing.proofs.Numbers.{some_number}
use Rattle.figures.specs.Figures.{refusal_text}
use Rattle.figures.proofs.Lengths.{refusal_short}
use Rattle.sections.specs.Sections.{judged_text}
use Rattle.frame.specs.Frame.{most_part, in_shape, date_in, table_in, register_in, sheet_in}
use Rattle.frame.proofs.Laws.{table_fits_lem, register_fits_lem, sheet_fits_lem}
use Rattle.printing.specs.Response.{zeros, call_with, outcome_text, another_shape, most_response, response}
use Rattle.printing.specs.Writing.{PartsFit}

-- ---- the parts

pub parts_fit : (input sheet table register : List ℕ) (told : Bool) → told ≡ in_shape input → told ≡ true
    → sheet ≡ sheet_in input → table ≡ table_in input → register ≡ register_in input → PartsFit sheet table register
parts_fit input sheet table register told is e es et er =
    let kept : in_shape input ≡ true = sym is ∙ e in
    record {
      sheet_fits = rw es (sheet_fits_lem input kept);
      table_fits = rw et (table_fits_lem input kept);
      register_fits = rw er (register_fits_lem input kept);
    }

-- ---- the spaces

take_zeros : (n m : ℕ) → n ≤ m → take n (zeros m) ≡ zeros n
unfolding zeros
take_zeros zero m h = refl
take_zeros (suc n) zero h = absurd (omega arith)
take_zeros (suc n) (suc m) h = ap (λ (r : List ℕ). 0 ∷ r) (take_zeros n m (omega arith))

pub zeros_length : (n : ℕ) → length (zeros n) ≡ n
unfolding zeros
zeros_length n = length-replicate n 0

places_few : (table : List ℕ) → length table ≤ most_part → position_width * rows table ≤ most_part
places_few table h = omega arith

module _ (sheet table given space : List ℕ) (fit : PartsFit sheet table given) (blank : space ≡ zeros most_part) where
  space_length : length space ≡ most_part
  space_length = ap length blank ∙ zeros_length most_part

  -- the register's copy, and a position of 0 for each row
  pub copy_length : (copy : List ℕ) → copy ≡ sets space 0 given → length given ≡ length (take (length given) copy)
  copy_length copy e =
      let long : length copy ≡ most_part = ap length e ∙ length-sets space 0 given ∙ space_length in
      let few = fit.register_fits in
      sym (length-take-le (length given) copy (omega arith))

  pub copy_is : (copy : List ℕ) → copy ≡ sets space 0 given → take (length given) copy ≡ given
  copy_is copy e =
      let long = space_length in
      let few = fit.register_fits in
      rw e (part_stored space 0 (length given) given refl (omega arith))

  pub places_length : (n : ℕ) → n ≡ rows table → position_width * n ≡ length (take (position_width * n) space)
  places_length n is =
      let long = space_length in
      let few : position_width * n ≤ most_part = rw is (places_few table fit.table_fits) in
      sym (length-take-le (position_width * n) space (omega arith))

  pub places_are : (n : ℕ) → n ≡ rows table → take (position_width * n) space ≡ zeros (position_width * rows table)
  places_are n is = rw (is, blank) (take_zeros (position_width * rows table) most_part (places_few table fit.table_fits))

pub same_call : (date : ℕ) (sheet table given register positions report : List ℕ)
    → register ≡ given → positions ≡ zeros (position_width * rows table) → report ≡ zeros most_part
    → outcome_text (outcome (call_of (dated date) sheet table register positions report)) ≡ outcome_text (outcome (call_with date sheet table given))
same_call date sheet table given register positions report er ep eo = rw (er, ep, eo)

-- what is lent of the positions is short, so that the answer is too
pub answer_fits : (sheet table given positions : List ℕ) (n : ℕ) → PartsFit sheet table given → n ≡ rows table → length positions ≡ position_width * n
    → 2 * length sheet + 6 * length positions + 13 ≤ most_response
answer_fits sheet table given positions n fit is long =
    let few : position_width * n ≤ most_part = rw is (places_few table fit.table_fits) in
    let small = fit.sheet_fits in
    let table_small = fit.table_fits in
    omega arith

-- ---- the text of an outcome

refused : (r : Refusal) (register positions report : List ℕ) → refusal_text (refusal_number r) ≡ outcome_text (left (Err r) register positions report)
unfolding outcome_text
refused r register positions report = sym (rw (some_number r))

module _ (answered : Result ℕ Refusal) (register positions report : List ℕ) (told : Outcome) (is : left answered register positions report ≡ told) where
  pub refused_text : (r : Refusal) (n : ℕ) → answered ≡ Err r → n ≡ refusal_number r → refusal_text n ≡ outcome_text told
  refused_text r n e en =
      ap refusal_text en
      ∙ refused r register positions report
      ∙ ap (λ (a : Result ℕ Refusal). outcome_text (left a register positions report)) (sym e)
      ∙ ap outcome_text is

  pub judged_text_lem : (n : ℕ) (text : List ℕ) → answered ≡ Ok n → text ≡ part report 0 n → judged_text register positions text ≡ outcome_text told
  unfolding outcome_text
  judged_text_lem n text e cut =
      ap (λ (t : List ℕ). judged_text register positions t) cut
      ∙ ap (λ (a : Result ℕ Refusal). outcome_text (left a register positions report)) (sym e)
      ∙ ap outcome_text is

-- ---- the response

pub response_else : (input : List ℕ) (told : Bool) → told ≡ in_shape input → told ≡ false → refusal_text another_shape ≡ response input
unfolding response
response_else input told is e = sym (rw (← is, e))

pub response_is : (input sheet table register : List ℕ) (date : ℕ) (told : Bool) → told ≡ in_shape input → told ≡ true
    → date ≡ date_in input → sheet ≡ sheet_in input → table ≡ table_in input → register ≡ register_in input
    → outcome_text (outcome (call_with date sheet table register)) ≡ response input
unfolding response
response_is input sheet table register date told is e ed es et er = rw (ed, es, et, er) (sym (rw (← is, e)))

pub refusal_fits : length (refusal_text another_shape) ≤ most_response
refusal_fits = le_trans (refusal_short another_shape (lit< tt)) (lit≤ tt)
