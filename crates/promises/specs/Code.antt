-- From the demands to the code of the judge, and of its door in C: a call of either is read as a `Call` and an `Outcome`. Assumes nothing.
use Rattle.std.specs.Prelude.{◌≡◌, List, ℕ}
use seplogic.Ra.Ura.{Ura}
use base.Logic.{SProp}
use prog.Model.{Model}
use prog.Memory.{Memory}
use prog.Routine.{Routine}
use types.Logic.{Logic}
use contract.Monad.{Fun}
use contract.Running.{Running}
use Rattle.std.specs.Borrow.{Bor, MutBor}
use Rattle.refusing.specs.Refusals.{Call, refusal}
use Rattle.judging.specs.Outcome.{Outcome, left}
use Rattle.rules.specs.declared.Terms.{Terms}
use Rattle.rules.specs.Terms.{dated}
use Rattle.tynderaxo.specs.Doors.{door_outcome}
use Rattle.judging.specs.contracts as judging
use Rattle.judging.proofs as judging_code
use Rattle.tynderaxo.specs.contracts as tynderaxo
use Rattle.tynderaxo.proofs as tynderaxo_code
use Rattle.promises.specs.Reading.{Judge, InBytes}
use Rattle.promises.specs.Demands.{Refuses, LinesTell, Leaves, RefusesAsWritten, EveryLineTells, LeavesTheRest}
use Rattle.promises.specs.Cut.{CutsAnywhere}
use Rattle.promises.specs.Runs.{RunsAsPromised}
use Rattle.promises.specs.Entries.{Asked, Entry, EachMeets, AllowedBy, CodeMeets}

-- ---- what is asked

-- of one call: the first two demands
pub record Demanded (call : Call) (left : Outcome) : Type 0 where
  pub refuses : Refuses call left
  pub lines : InBytes call → refusal call ≡ 0 → LinesTell call left
  pub rest : InBytes call → refusal call ≡ 0 → Leaves call left

-- of a judge: all three
pub record AllDemands (judge : Judge) : Type 0 where
  pub refuses : RefusesAsWritten judge
  pub lines : EveryLineTells judge
  pub rest : LeavesTheRest judge
  pub cut : CutsAnywhere judge
  pub run : RunsAsPromised judge

abbrev pub asked_of_judge : Asked
asked_of_judge = record { Given = Call; Left = Outcome; each = Demanded }

-- ---- how a call of a function is read

-- the five slices that are lent to a judge, in the order in which it takes them, and what else is
abbrev pub Lent : Type 0 → Type 0
Lent Rest = Bor (List ℕ) × (Bor (List ℕ) × (MutBor (List ℕ) × (MutBor (List ℕ) × (MutBor (List ℕ) × Rest))))

abbrev pub call_from : {Rest : Type 0} → Terms → Lent Rest → Call
call_from terms a =
    record {
      terms = terms;
      sheet = a.0.now;
      table = a.1.0.now;
      register = a.1.1.0.now;
      positions = a.1.1.1.0.now;
      report = a.1.1.1.1.0.now;
    }

-- what the bytes that are left make up: those of register, positions and report
abbrev pub left_from : {Rest X : Type 0} → (List ℕ → List ℕ → List ℕ → X) → Lent Rest → X
left_from make e = make e.1.1.0.now e.1.1.1.0.now e.1.1.1.1.0.now

module _ {M : Type 1} (𝓤 : Ura M) where
  module _ (𝓛 : Logic 𝓤) (mem : Memory → SProp 𝓤) (run : Routine → Fun 𝓤) where
    -- `judging::judge`
    abbrev pub the_judge : Entry 𝓤 asked_of_judge
    the_judge =
        record {
          function = judging.judge.ended;
          contract = judging.judge.clauses 𝓛 mem run;
          given = λ κs a. call_from a.0 a.1;
          left = λ κs r e. left_from (left r) e.1;
        }

    -- `tynderaxo_judge`, which is given a date and no other terms
    abbrev pub the_door : Entry 𝓤 asked_of_judge
    the_door =
        record {
          function = tynderaxo.tynderaxo_judge.ended;
          contract = tynderaxo.tynderaxo_judge.clauses 𝓛 mem run;
          given = λ κs a. call_from (dated a.0) a.1;
          left = λ κs r e. left_from (door_outcome r) e.1;
        }

  -- ---- the statements

  pub record ContractMeets (entry : Entry 𝓤 asked_of_judge) : Type 1 where
    -- whatever its contract allows for a call meets the first two demands
    pub each : EachMeets 𝓤 entry
    -- and a judge whose every answer it allows meets all three
    pub all : (judge : Judge) → AllowedBy 𝓤 entry judge → AllDemands judge

  module _ (𝓛 : Logic 𝓤) (𝓜 : Model 𝓤 𝓛.H) (𝓡 : Running 𝓤 𝓛.H 𝓜) where
    -- the code of `judging::judge`, and that of `tynderaxo_judge`, called with anything, meets the first two demands
    abbrev pub JudgeCodeMeets : Type 1
    JudgeCodeMeets = CodeMeets 𝓤 𝓛 𝓜 𝓡 (the_judge 𝓛 𝓜.mem 𝓡.returns) judging_code.judge.Symbol.code judging_code.judge.Symbol.name

    abbrev pub DoorCodeMeets : Type 1
    DoorCodeMeets = CodeMeets 𝓤 𝓛 𝓜 𝓡 (the_door 𝓛 𝓜.mem 𝓡.returns) tynderaxo_code.tynderaxo_judge.Symbol.code tynderaxo_code.tynderaxo_judge.Symbol.name
