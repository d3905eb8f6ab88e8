-- What is promised of a judge with an index: the demands, that it tells what the plain judge tells, and how many slots its searches read; and of
-- what builds an index. Assumes nothing.
use Rattle.std.specs.Prelude.{ℕ, ◌≤◌, ◌≡◌, true, false, List, [], ◌∷◌, ◌++◌, length}
use Rattle.wire.specs.Field.{Bytes}
use Rattle.sheet.specs.Sheet.{bulk_count}
use Rattle.register.specs.Register.{well_formed}
use Rattle.index.specs.Index.{index_of, index_length}
use Rattle.index.specs.Searches.{slots_read_by, most_read}
use Rattle.rules.specs.declared.Terms.{Terms}
use Rattle.refusing.specs.Refusals.{Call, refusal_number, indexed_refusal}
use Rattle.refusing.specs.declared.Refusal.TheVariants.{Register, IndexLength, IndexContents}
use Rattle.messages.specs.Messages.{State}
use Rattle.judging.specs.Indexed.{IndexedOutcome, IndexBuilt, searches_of}
use Rattle.promises.specs.Reading.{Judge, InBytes, accepted, recorded}
use Rattle.promises.specs.Demands.{Untouched, LinesTell, Leaves}
use Rattle.promises.specs.Cut.{first_part, second_part, first_call, second_call, Enough, PartsMakeTheWhole}
use Rattle.promises.specs.Runs.{File, Ran, call_on, RunHolds}

-- any judge with an index, as far as a caller can tell, and anything that builds one
abbrev pub IndexedJudge : Type 0
IndexedJudge = Call → List ℕ → IndexedOutcome

abbrev pub Builder : Type 0
Builder = List ℕ → List ℕ → IndexBuilt

-- ---- one call: the first demand, and the second

pub record IndexedUntouched (call : Call) (index : List ℕ) (left : IndexedOutcome) : Type 0 where
  pub rest : Untouched call left.outcome
  pub slots : left.slots ≡ 0
  pub kept : left.index ≡ index

-- of a call that is judged: its lines and what it leaves; the index left is that of the register left; what was counted is what the searches
-- read, and that is no more than a slot for each entry used and one, for each of them
pub record IndexedTells (call : Call) (left : IndexedOutcome) : Type 0 where
  pub lines : LinesTell call left.outcome
  pub rest : Leaves call left.outcome
  pub index : left.index ≡ index_of left.outcome.register
  pub slots : left.slots ≡ slots_read_by true (searches_of call)
  pub few : left.slots ≤ most_read (searches_of call)

pub record IndexedDemanded (call : Call) (index : List ℕ) (left : IndexedOutcome) : Type 0 where
  -- the number of the first condition that holds, 0 for none
  pub number : left.outcome.number ≡ indexed_refusal call index
  pub untouched : (indexed_refusal call index ≡ 0 → ⊥) → IndexedUntouched call index left
  pub tells : InBytes call → indexed_refusal call index ≡ 0 → IndexedTells call left
  -- judged or refused, an index that is the register's own is left as that of the register left
  pub own : index ≡ index_of call.register → left.index ≡ index_of left.outcome.register

abbrev pub IndexedMeets : IndexedJudge → Type 0
IndexedMeets judge = (call : Call) (index : List ℕ) → IndexedDemanded call index (judge call index)

-- unless 12 or 13 is answered, all that the plain judge answers and leaves is answered and left
abbrev pub TellsAsPlain : Judge → IndexedJudge → Type 0
TellsAsPlain plain judge =
    (call : Call) (index : List ℕ)
    → ((judge call index).outcome.number ≡ refusal_number IndexLength → ⊥) → ((judge call index).outcome.number ≡ refusal_number IndexContents → ⊥)
    → (judge call index).outcome ≡ plain call

-- ---- demand 3, the cut: the index too ends equal

pub record IndexedPartsMakeTheWhole (whole first second : IndexedOutcome) : Type 0 where
  pub parts : PartsMakeTheWhole whole.outcome first.outcome second.outcome
  pub index : second.index ≡ whole.index

abbrev pub IndexedCutsAnywhere : IndexedJudge → Type 0
IndexedCutsAnywhere judge =
    (call : Call) (index : List ℕ) → InBytes call → indexed_refusal call index ≡ 0
    → (k : ℕ) → k ≤ bulk_count call.sheet
    → (space space' : List ℕ) → Enough (first_part call.sheet k) space → Enough (second_part call.sheet k) space'
    → let first = judge (first_call call k space) index in
    IndexedPartsMakeTheWhole (judge call index) first (judge (second_call call k first.outcome space') first.index)

-- ---- demand 3, the run: each file is judged on the register, the positions and the index that the one before it left

pub record IndexedRan : Type 0 where
  pub ran : Ran
  pub index : List ℕ

module _ (judge : IndexedJudge) (terms : Terms) (table : List ℕ) where
  unfoldable pub indexed_run : List File → State → List ℕ → IndexedRan
  indexed_run [] before index = record { ran = record { accepted = []; recorded = []; after = before }; index = index }
  indexed_run (f ∷ fs) before index =
      let left = judge (call_on terms table f before) index in
      let rest = indexed_run fs (record { register = left.outcome.register; positions = left.outcome.positions }) left.index in
      record {
        ran = record {
          accepted = accepted f.sheet left.outcome ++ rest.ran.accepted;
          recorded = recorded f.sheet left.outcome ++ rest.ran.recorded;
          after = rest.ran.after;
        };
        index = rest.index;
      }

pub record IndexedRunHolds (terms : Terms) (table : List ℕ) (before : State) (index : List ℕ) (ran : IndexedRan) : Type 0 where
  pub run : RunHolds terms table before ran.ran
  -- an index that is the register's stays so
  pub kept : index ≡ index_of before.register → ran.index ≡ index_of ran.ran.after.register

-- for any files, refused ones among them, from any register, any positions and any index
abbrev pub IndexedRunsAsPromised : IndexedJudge → Type 0
IndexedRunsAsPromised judge =
    (terms : Terms) (table : List ℕ) (before : State) (index : List ℕ) (files : List File) → Bytes before.positions
    → IndexedRunHolds terms table before index (indexed_run judge terms table files before index)

-- ---- what builds an index

pub record Builds (register index : List ℕ) (built : IndexBuilt) : Type 0 where
  pub unformed : well_formed register ≡ false → (built.number ≡ refusal_number Register) × (built.index ≡ index)
  pub other_length : well_formed register ≡ true → (length index ≡ index_length register → ⊥) → (built.number ≡ refusal_number IndexLength) × (built.index ≡ index)
  pub fits : well_formed register ≡ true → length index ≡ index_length register → (built.number ≡ 0) × (built.index ≡ index_of register)

abbrev pub BuildsAsWritten : Builder → Type 0
BuildsAsWritten build = (register index : List ℕ) → Builds register index (build register index)

-- a judge that is handed what was built never answers 12 or 13
pub record NeverRefused (left : IndexedOutcome) : Type 0 where
  pub length : left.outcome.number ≡ refusal_number IndexLength → ⊥
  pub contents : left.outcome.number ≡ refusal_number IndexContents → ⊥

abbrev pub BuildsForTheJudge : Builder → IndexedJudge → Type 0
BuildsForTheJudge build judge =
    (call : Call) (index : List ℕ) → (build call.register index).number ≡ 0 → NeverRefused (judge call (build call.register index).index)

-- ---- all of it

pub record AllIndexed (plain : Judge) (judge : IndexedJudge) (build : Builder) : Type 0 where
  pub meets : IndexedMeets judge
  pub as_plain : TellsAsPlain plain judge
  pub cut : IndexedCutsAnywhere judge
  pub run : IndexedRunsAsPromised judge
  pub builds : BuildsAsWritten build
  pub for_the_judge : BuildsForTheJudge build judge
