-- The outcome of a call with an index, and of building one from a register. Assumes nothing.
use Rattle.std.specs.Prelude.{ℕ, true, cond, List, eqb, Result, Ok, Err}
use Rattle.sheet.specs.Sheet.{bulks_of}
use Rattle.register.specs.Register.{well_formed}
use Rattle.index.specs.Index.{index_of}
use Rattle.index.specs.Searches.{Search, slots_read_by}
use Rattle.refusing.specs.Refusals.{Call, refusal_number, length_wrong, indexed_refusal}
use Rattle.refusing.specs.declared.Refusal.{Refusal}
use Rattle.refusing.specs.declared.Refusal.TheVariants.{Register, IndexLength}
use Rattle.judging.specs.Searches.{searches}
use Rattle.judging.specs.Outcome.{Outcome, turned_away, judgement, judged_of, left}
use Rattle.judging.specs.declared.Judged.{Judged}

-- ---- a call with an index

pub record IndexedOutcome : Type 0 where
  pub outcome : Outcome
  pub slots : ℕ
  pub index : List ℕ

-- the searches of a call that is judged
abbrev pub searches_of : Call → List Search
searches_of call = searches call.terms call.table (bulks_of call.sheet) (record { register = call.register; positions = call.positions })

-- what is judged and left is what the plain judge judges and leaves; besides, the slots that the searches read, and the index of the
-- register that is left
abbrev pub indexed_judged : Call → IndexedOutcome
indexed_judged call =
    record {
      outcome = judged_of call (judgement call);
      slots = slots_read_by true (searches_of call);
      index = index_of (judgement call).after.register;
    }

-- a refusal changes no byte of the index either
abbrev pub indexed_away : Call → List ℕ → ℕ → IndexedOutcome
indexed_away call index n = record { outcome = turned_away call n; slots = 0; index = index }

unfoldable pub indexed_outcome : Call → List ℕ → IndexedOutcome
indexed_outcome call index =
    cond (eqb (indexed_refusal call index) 0) (indexed_judged call) (indexed_away call index (indexed_refusal call index))

-- an answer and the bytes that were left
abbrev pub indexed_left : Result Judged Refusal → List ℕ → List ℕ → List ℕ → List ℕ → IndexedOutcome
indexed_left (Err r) register positions report index =
    record { outcome = left (Err r) register positions report; slots = 0; index = index }
indexed_left (Ok judged) register positions report index =
    record { outcome = left (Ok judged.length) register positions report; slots = judged.slots; index = index }

-- ---- an index built from a register

pub record IndexBuilt : Type 0 where
  pub number : ℕ
  pub index : List ℕ

unfoldable pub index_built : List ℕ → List ℕ → IndexBuilt
index_built register index =
    cond (well_formed register)
    (cond (length_wrong index register)
    (record { number = refusal_number IndexLength; index = index })
    (record { number = 0; index = index_of register }))
    (record { number = refusal_number Register; index = index })

abbrev pub building_number : Result Unit Refusal → ℕ
building_number (Err r) = refusal_number r
building_number (Ok _) = 0

abbrev pub built_left : Result Unit Refusal → List ℕ → IndexBuilt
built_left r index = record { number = building_number r; index = index }
