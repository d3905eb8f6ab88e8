-- What is promised of a judge with an index, and of what builds one, holds of whatever their own contracts allow, and of their code; the same for
-- the doors in C. Assumes nothing.
use mathlib.Core.Path.{◌≡◌}
use seplogic.Ra.Ura.{Ura}
use base.Logic.{SProp, emp, id⊢}
use prog.Model.{Model}
use prog.Memory.{Memory}
use prog.Routine.{Routine}
use types.Logic.{Logic}
use contract.Monad.{Fun}
use contract.Running.{Running}
use Rattle.judging.specs.Outcome.{outcome}
use Rattle.judging.specs.Indexed.{indexed_outcome, index_built}
use Rattle.judging.proofs as judging_code
use Rattle.tynderaxo.proofs as tynderaxo_code
use Rattle.promises.specs.Reading.{Judge}
use Rattle.promises.specs.Indexed.{IndexedJudge, Builder, AllIndexed}
use Rattle.promises.specs.Entries.{Entry}
use Rattle.promises.specs.Code.{asked_of_judge, the_judge, the_door}
use Rattle.promises.specs.IndexedCode.{asked_with_index, asked_of_builder, the_indexed_judge, the_indexed_door, the_builder, the_builder_door, ContractsMeet, IndexedJudgeCodeMeets, IndexedDoorCodeMeets, BuilderCodeMeets, BuilderDoorCodeMeets}
use Rattle.promises.proofs.Entries.{Defined, Tells, each_meets, all_defined, code_meets}
use Rattle.promises.proofs.IndexReadings.{indexed_outcomes, index_builts}
use Rattle.promises.proofs.Indexing.{all_indexed}
use Rattle.promises.proofs.Meeting.{judge_defined, judge_tells, door_tells}

abbrev indexed_defined : Defined asked_with_index
indexed_defined = record { out = λ given. indexed_outcome given.0 given.1; set = indexed_outcomes }

abbrev builder_defined : Defined asked_of_builder
builder_defined = record { out = λ given. index_built given.0 given.1; set = index_builts }

indexed_holds : (given : asked_with_index.Given) → asked_with_index.each given (indexed_defined.out given)
indexed_holds given = all_indexed.meets given.0 given.1

builder_holds : (given : asked_of_builder.Given) → asked_of_builder.each given (builder_defined.out given)
builder_holds given = all_indexed.builds given.0 given.1

-- three that are what is defined are promised what that is
together : {judge : Judge} {judge' : IndexedJudge} {build : Builder} → judge ≡ outcome → judge' ≡ indexed_outcome → build ≡ index_built → AllIndexed judge judge' build
together p q e = rw (p, q, e) all_indexed

module _ {M : Type 1} (𝓤 : Ura M) where
  meet : (plain : Entry 𝓤 asked_of_judge) (indexed : Entry 𝓤 asked_with_index) (builder : Entry 𝓤 asked_of_builder)
      → Tells 𝓤 judge_defined plain → Tells 𝓤 indexed_defined indexed → Tells 𝓤 builder_defined builder → ContractsMeet 𝓤 plain indexed builder
  meet plain indexed builder tells tells' tells'' =
      record {
        judged = each_meets 𝓤 indexed_defined indexed tells' indexed_holds;
        built = each_meets 𝓤 builder_defined builder tells'' builder_holds;
        all = λ judge judge' build comes comes' comes''.
            together (all_defined 𝓤 judge_defined plain tells judge comes)
            (λ i call index. all_defined 𝓤 indexed_defined indexed tells' _ comes' i (call, index))
            (λ i register index. all_defined 𝓤 builder_defined builder tells'' _ comes'' i (register, index));
      }

  module _ (𝓛 : Logic 𝓤) (mem : Memory → SProp 𝓤) (run : Routine → Fun 𝓤) where
    indexed_tells : Tells 𝓤 indexed_defined (the_indexed_judge 𝓤 𝓛 mem run)
    indexed_tells = record { ghost = λ κs a. tt; requires = λ κs a. id⊢ 𝓤 (emp 𝓤); ensures = λ κs a g r e. id⊢ 𝓤 _ }

    indexed_door_tells : Tells 𝓤 indexed_defined (the_indexed_door 𝓤 𝓛 mem run)
    indexed_door_tells = record { ghost = λ κs a. tt; requires = λ κs a. id⊢ 𝓤 (emp 𝓤); ensures = λ κs a g r e. id⊢ 𝓤 _ }

    builder_tells : Tells 𝓤 builder_defined (the_builder 𝓤 𝓛 mem run)
    builder_tells = record { ghost = λ κs a. tt; requires = λ κs a. id⊢ 𝓤 (emp 𝓤); ensures = λ κs a g r e. id⊢ 𝓤 _ }

    builder_door_tells : Tells 𝓤 builder_defined (the_builder_door 𝓤 𝓛 mem run)
    builder_door_tells = record { ghost = λ κs a. tt; requires = λ κs a. id⊢ 𝓤 (emp 𝓤); ensures = λ κs a g r e. id⊢ 𝓤 _ }

    pub indexed_meets : ContractsMeet 𝓤 (the_judge 𝓤 𝓛 mem run) (the_indexed_judge 𝓤 𝓛 mem run) (the_builder 𝓤 𝓛 mem run)
    indexed_meets = meet _ _ _ (judge_tells 𝓤 𝓛 mem run) indexed_tells builder_tells

    pub indexed_doors_meet : ContractsMeet 𝓤 (the_door 𝓤 𝓛 mem run) (the_indexed_door 𝓤 𝓛 mem run) (the_builder_door 𝓤 𝓛 mem run)
    indexed_doors_meet = meet _ _ _ (door_tells 𝓤 𝓛 mem run) indexed_door_tells builder_door_tells

  module _ (𝓛 : Logic 𝓤) (𝓜 : Model 𝓤 𝓛.H) (𝓡 : Running 𝓤 𝓛.H 𝓜) where
    pub indexed_judge_code_meets : IndexedJudgeCodeMeets 𝓤 𝓛 𝓜 𝓡
    indexed_judge_code_meets =
        code_meets 𝓤 indexed_defined _ (indexed_tells 𝓛 𝓜.mem 𝓡.returns) indexed_holds 𝓛 𝓜 𝓡
        judging_code.judge_indexed.Symbol.code judging_code.judge_indexed.Symbol.name
        (judging_code.judge_indexed.Met.met 𝓤 𝓛 𝓜 𝓡)

    pub indexed_door_code_meets : IndexedDoorCodeMeets 𝓤 𝓛 𝓜 𝓡
    indexed_door_code_meets =
        code_meets 𝓤 indexed_defined _ (indexed_door_tells 𝓛 𝓜.mem 𝓡.returns) indexed_holds 𝓛 𝓜 𝓡
        tynderaxo_code.tynderaxo_judge_indexed.Symbol.code tynderaxo_code.tynderaxo_judge_indexed.Symbol.name
        (tynderaxo_code.tynderaxo_judge_indexed.Met.met 𝓤 𝓛 𝓜 𝓡)

    pub builder_code_meets : BuilderCodeMeets 𝓤 𝓛 𝓜 𝓡
    builder_code_meets =
        code_meets 𝓤 builder_defined _ (builder_tells 𝓛 𝓜.mem 𝓡.returns) builder_holds 𝓛 𝓜 𝓡
        judging_code.build_index.Symbol.code judging_code.build_index.Symbol.name
        (judging_code.build_index.Met.met 𝓤 𝓛 𝓜 𝓡)

    pub builder_door_code_meets : BuilderDoorCodeMeets 𝓤 𝓛 𝓜 𝓡
    builder_door_code_meets =
        code_meets 𝓤 builder_defined _ (builder_door_tells 𝓛 𝓜.mem 𝓡.returns) builder_holds 𝓛 𝓜 𝓡
        tynderaxo_code.tynderaxo_build_index.Symbol.code tynderaxo_code.tynderaxo_build_index.Symbol.name
        (tynderaxo_code.tynderaxo_build_index.Met.met 𝓤 𝓛 𝓜 𝓡)
