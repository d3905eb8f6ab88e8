-- What the functions that look for a refusal ask of one another and tell, each of some of the conditions. Contract plumbing:
-- the conditions and their order are defined in Refusals. Assumes nothing.
use Rattle.std.specs.Prelude.{ℕ, ◌≤◌, ◌≡◌, Bool, true, cond, ◌&&◌, List, [], ◌∷◌, eqb, Option, Some, None, Result, Ok, Err}
use Rattle.std.specs.Option.{is_some}
use Rattle.std.specs.Borrow.{Bor}
use Rattle.sheet.specs.Sheet.{bulk_count, message_count, whole}
use Rattle.rules.specs.declared.Terms.{Terms}
use Rattle.refusing.specs.Refusals.{Call, most_bulks, most_messages, refusal_number, length_wrong, contents_wrong, holds_given, refusals, first_holding}
use Rattle.refusing.specs.declared.Refusal.{Refusal}
use Rattle.sheet.specs.declared.Contents.{Contents}
use Rattle.refusing.specs.declared.Lent.{Lent}

abbrev pub call_of : Terms → List ℕ → List ℕ → List ℕ → List ℕ → List ℕ → Call
call_of terms sheet table register positions report =
    record { terms = terms; sheet = sheet; table = table; register = register; positions = positions; report = report }

-- the refusals from r on, in their order
abbrev pub from_in : List Refusal → Refusal → List Refusal
from_in [] r = []
from_in (x ∷ xs) r = cond (eqb (refusal_number x) (refusal_number r)) (x ∷ xs) (from_in xs r)

abbrev pub from : Refusal → List Refusal
from r = from_in refusals r

-- and those before it
abbrev pub until_in : List Refusal → Refusal → List Refusal
until_in [] r = []
until_in (x ∷ xs) r = cond (eqb (refusal_number x) (refusal_number r)) [] (x ∷ until_in xs r)

abbrev pub until : Refusal → List Refusal
until r = until_in refusals r

-- a whole sheet was measured
pub record Measured (sheet : List ℕ) (contents : Contents) : Type 0 where
  pub whole : whole sheet ≡ true
  pub bulk_count : contents.bulks ≡ bulk_count sheet
  pub message_count : contents.messages ≡ message_count sheet

-- and holds no more than a file may
pub record Few (sheet : List ℕ) (contents : Contents) : Type 0 where
  pub measured : Measured sheet contents
  pub bulks : contents.bulks ≤ most_bulks
  pub messages : contents.messages ≤ most_messages

-- which conditions are asked: also those of an index, where one is lent
abbrev pub asked : Bool → List ℕ → Call → Refusal → Bool
asked indexed index call r =
    holds_given (indexed && length_wrong index call.register) (indexed && contents_wrong index call.register) r call

-- the same, of what is lent
abbrev pub lent_bytes : Option (Bor (List ℕ)) → List ℕ
lent_bytes (Some index) = index.now
lent_bytes None = []

abbrev pub asks : Lent → Refusal → Bool
asks lent r = asked (is_some lent.index) (lent_bytes lent.index) (call_of lent.terms lent.sheet.now lent.table.now lent.register.now lent.positions.now lent.report.now) r

-- the first of some refusals that holds
abbrev pub first_of : (Refusal → Bool) → List Refusal → Result Unit Refusal
first_of test [] = Ok tt
first_of test (r ∷ rs) = cond (test r) (Err r) (first_of test rs)

-- of the refusals from r on the first that holds, or that none does, with what the sheet holds
abbrev pub Told : Refusal → (Refusal → Bool) → List ℕ → Result Contents Refusal → Type 0
Told r test sheet (Err s) = first_holding test (from r) ≡ refusal_number s
Told r test sheet (Ok contents) = (first_holding test (from r) ≡ 0) × Measured sheet contents
