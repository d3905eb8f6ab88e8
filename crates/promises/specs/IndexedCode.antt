-- From what is promised of a judge with an index, and of what builds one, to the code of both, and of their doors in C. Assumes nothing.
use Rattle.std.specs.Prelude.{List, ℕ}
use seplogic.Ra.Ura.{Ura}
use base.Logic.{SProp}
use prog.Model.{Model}
use prog.Memory.{Memory}
use prog.Routine.{Routine}
use types.Logic.{Logic}
use contract.Monad.{Fun}
use contract.Running.{Running}
use Rattle.std.specs.Borrow.{MutBor}
use Rattle.refusing.specs.Refusals.{Call}
use Rattle.judging.specs.Indexed.{IndexedOutcome, IndexBuilt, indexed_left, built_left}
use Rattle.rules.specs.Terms.{dated}
use Rattle.tynderaxo.specs.Doors.{indexed_door_outcome}
use Rattle.judging.specs.contracts as judging
use Rattle.judging.proofs as judging_code
use Rattle.tynderaxo.specs.contracts as tynderaxo
use Rattle.tynderaxo.proofs as tynderaxo_code
use Rattle.promises.specs.Reading.{Judge}
use Rattle.promises.specs.Indexed.{IndexedJudge, Builder, IndexedDemanded, Builds, AllIndexed}
use Rattle.promises.specs.Entries.{Asked, Entry, EachMeets, AllowedBy, CodeMeets}
use Rattle.promises.specs.Code.{asked_of_judge, Lent, call_from, left_from}

-- ---- what is asked

-- of a call with an index
abbrev pub asked_with_index : Asked
asked_with_index = record { Given = Call × List ℕ; Left = IndexedOutcome; each = λ given left. IndexedDemanded given.0 given.1 left }

-- of a building: it is given a register, and the space for its index
abbrev pub asked_of_builder : Asked
asked_of_builder = record { Given = List ℕ × List ℕ; Left = IndexBuilt; each = λ given built. Builds given.0 given.1 built }

-- ---- how a call of a function is read

-- the index is lent behind the five slices
abbrev pub index_from : {Rest : Type 0} → Lent (MutBor (List ℕ) × Rest) → List ℕ
index_from a = a.1.1.1.1.1.0.now

module _ {M : Type 1} (𝓤 : Ura M) where
  module _ (𝓛 : Logic 𝓤) (mem : Memory → SProp 𝓤) (run : Routine → Fun 𝓤) where
    -- `judging::judge_indexed`
    abbrev pub the_indexed_judge : Entry 𝓤 asked_with_index
    the_indexed_judge =
        record {
          function = judging.judge_indexed.ended;
          contract = judging.judge_indexed.clauses 𝓛 mem run;
          given = λ κs a. (call_from a.0 a.1, index_from a.1);
          left = λ κs r e. left_from (indexed_left r) e.1 (index_from e.1);
        }

    -- `tynderaxo_judge_indexed`
    abbrev pub the_indexed_door : Entry 𝓤 asked_with_index
    the_indexed_door =
        record {
          function = tynderaxo.tynderaxo_judge_indexed.ended;
          contract = tynderaxo.tynderaxo_judge_indexed.clauses 𝓛 mem run;
          given = λ κs a. (call_from (dated a.0) a.1, index_from a.1);
          left = λ κs r e. left_from (indexed_door_outcome r) e.1 (index_from e.1);
        }

    -- `judging::build_index`
    abbrev pub the_builder : Entry 𝓤 asked_of_builder
    the_builder =
        record {
          function = judging.build_index.ended;
          contract = judging.build_index.clauses 𝓛 mem run;
          given = λ κs a. (a.0.now, a.1.0.now);
          left = λ κs r e. built_left r e.1.0.now;
        }

    -- `tynderaxo_build_index`
    abbrev pub the_builder_door : Entry 𝓤 asked_of_builder
    the_builder_door =
        record {
          function = tynderaxo.tynderaxo_build_index.ended;
          contract = tynderaxo.tynderaxo_build_index.clauses 𝓛 mem run;
          given = λ κs a. (a.0.now, a.1.0.now);
          left = λ κs r e. record { number = r; index = e.1.0.now };
        }

  -- ---- the statements

  -- of a plain judge, one with an index, and what builds one
  pub record ContractsMeet (plain : Entry 𝓤 asked_of_judge) (indexed : Entry 𝓤 asked_with_index) (builder : Entry 𝓤 asked_of_builder) : Type 1 where
    -- whatever the contracts allow for a call with an index, and for a building, meets what is asked of it
    pub judged : EachMeets 𝓤 indexed
    pub built : EachMeets 𝓤 builder
    -- and any three whose every answer they allow meet all that is promised of them together
    pub all : (judge : Judge) (judge' : IndexedJudge) (build : Builder)
        → AllowedBy 𝓤 plain judge → AllowedBy 𝓤 indexed (λ given. judge' given.0 given.1) → AllowedBy 𝓤 builder (λ given. build given.0 given.1)
        → AllIndexed judge judge' build

  module _ (𝓛 : Logic 𝓤) (𝓜 : Model 𝓤 𝓛.H) (𝓡 : Running 𝓤 𝓛.H 𝓜) where
    -- the code of `judging::judge_indexed`, that of `judging::build_index`, and those of their doors, called with anything, meets what is asked
    abbrev pub IndexedJudgeCodeMeets : Type 1
    IndexedJudgeCodeMeets = CodeMeets 𝓤 𝓛 𝓜 𝓡 (the_indexed_judge 𝓛 𝓜.mem 𝓡.returns) judging_code.judge_indexed.Symbol.code judging_code.judge_indexed.Symbol.name

    abbrev pub IndexedDoorCodeMeets : Type 1
    IndexedDoorCodeMeets = CodeMeets 𝓤 𝓛 𝓜 𝓡 (the_indexed_door 𝓛 𝓜.mem 𝓡.returns) tynderaxo_code.tynderaxo_judge_indexed.Symbol.code tynderaxo_code.tynderaxo_judge_indexed.Symbol.name

    abbrev pub BuilderCodeMeets : Type 1
    BuilderCodeMeets = CodeMeets 𝓤 𝓛 𝓜 𝓡 (the_builder 𝓛 𝓜.mem 𝓡.returns) judging_code.build_index.Symbol.code judging_code.build_index.Symbol.name

    abbrev pub BuilderDoorCodeMeets : Type 1
    BuilderDoorCodeMeets = CodeMeets 𝓤 𝓛 𝓜 𝓡 (the_builder_door 𝓛 𝓜.mem 𝓡.returns) tynderaxo_code.tynderaxo_build_index.Symbol.code tynderaxo_code.tynderaxo_build_index.Symbol.name
