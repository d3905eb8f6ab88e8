-- The demands hold of whatever the judge's own contract allows, and of its code; the same for the door in C. Assumes nothing.
use mathlib.Core.Path.{sym, subst}
use seplogic.Ra.Ura.{Ura}
use base.Logic.{SProp, emp, id⊢}
use prog.Model.{Model}
use prog.Memory.{Memory}
use prog.Routine.{Routine}
use types.Logic.{Logic}
use contract.Monad.{Fun}
use contract.Running.{Running}
use Rattle.refusing.specs.Refusals.{Call}
use Rattle.judging.specs.Outcome.{outcome}
use Rattle.judging.proofs as judging_code
use Rattle.tynderaxo.proofs as tynderaxo_code
use Rattle.promises.specs.Entries.{Entry}
use Rattle.promises.specs.Code.{Demanded, AllDemands, asked_of_judge, the_judge, the_door, ContractMeets, JudgeCodeMeets, DoorCodeMeets}
use Rattle.promises.proofs.Cutting.{cut_anywhere}
use Rattle.promises.proofs.Entries.{Defined, Tells, each_meets, all_defined, code_meets}
use Rattle.promises.proofs.Readings.{outcomes}
use Rattle.promises.proofs.Running.{runs_as_promised}
use Rattle.promises.proofs.Leaving.{leaves_the_rest}
use Rattle.promises.proofs.Telling.{refuses_as_written, every_line_tells}

-- the outcome that is defined meets them
demanded : (call : Call) → Demanded call (outcome call)
demanded call = record { refuses = refuses_as_written call; lines = every_line_tells call; rest = leaves_the_rest call }

all_demands : AllDemands outcome
all_demands =
    record { refuses = refuses_as_written; lines = every_line_tells; rest = leaves_the_rest; cut = cut_anywhere; run = runs_as_promised }

abbrev pub judge_defined : Defined asked_of_judge
judge_defined = record { out = outcome; set = outcomes }

module _ {M : Type 1} (𝓤 : Ura M) where
  meets : (entry : Entry 𝓤 asked_of_judge) → Tells 𝓤 judge_defined entry → ContractMeets 𝓤 entry
  meets entry tells =
      record {
        each = each_meets 𝓤 judge_defined entry tells demanded;
        all = λ judge comes. subst AllDemands (sym (all_defined 𝓤 judge_defined entry tells judge comes)) all_demands;
      }

  module _ (𝓛 : Logic 𝓤) (mem : Memory → SProp 𝓤) (run : Routine → Fun 𝓤) where
    pub judge_tells : Tells 𝓤 judge_defined (the_judge 𝓤 𝓛 mem run)
    judge_tells = record { ghost = λ κs a. tt; requires = λ κs a. id⊢ 𝓤 (emp 𝓤); ensures = λ κs a g r e. id⊢ 𝓤 _ }

    pub door_tells : Tells 𝓤 judge_defined (the_door 𝓤 𝓛 mem run)
    door_tells = record { ghost = λ κs a. tt; requires = λ κs a. id⊢ 𝓤 (emp 𝓤); ensures = λ κs a g r e. id⊢ 𝓤 _ }

    pub judge_meets : ContractMeets 𝓤 (the_judge 𝓤 𝓛 mem run)
    judge_meets = meets (the_judge 𝓤 𝓛 mem run) judge_tells

    pub door_meets : ContractMeets 𝓤 (the_door 𝓤 𝓛 mem run)
    door_meets = meets (the_door 𝓤 𝓛 mem run) door_tells

  module _ (𝓛 : Logic 𝓤) (𝓜 : Model 𝓤 𝓛.H) (𝓡 : Running 𝓤 𝓛.H 𝓜) where
    pub judge_code_meets : JudgeCodeMeets 𝓤 𝓛 𝓜 𝓡
    judge_code_meets =
        code_meets 𝓤 judge_defined (the_judge 𝓤 𝓛 𝓜.mem 𝓡.returns) (judge_tells 𝓛 𝓜.mem 𝓡.returns) demanded 𝓛 𝓜 𝓡
        judging_code.judge.Symbol.code judging_code.judge.Symbol.name
        (judging_code.judge.Met.met 𝓤 𝓛 𝓜 𝓡)

    pub door_code_meets : DoorCodeMeets 𝓤 𝓛 𝓜 𝓡
    door_code_meets =
        code_meets 𝓤 judge_defined (the_door 𝓤 𝓛 𝓜.mem 𝓡.returns) (door_tells 𝓛 𝓜.mem 𝓡.returns) demanded 𝓛 𝓜 𝓡
        tynderaxo_code.tynderaxo_judge.Symbol.code tynderaxo_code.tynderaxo_judge.Symbol.name
        (tynderaxo_code.tynderaxo_judge.Met.met 𝓤 𝓛 𝓜 𝓡)
