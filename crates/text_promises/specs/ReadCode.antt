-- From the statements over texts to the code. What the contract of `reading::read`, and that of its door in C, allow a call to come to is
-- read as what a reader leaves. The statements are asked of that, and of the code itself. Assumes nothing.
use Rattle.std.specs.Prelude.{◌≡◌, List, ℕ}
use seplogic.Ra.Ura.{Ura}
use base.Logic.{SProp, emp}
use prog.Model.{Model}
use prog.Memory.{Memory}
use prog.Routine.{Routine}
use prog.Wired.{Code, Wired}
use mir.Syntax.{Callee}
use types.Logic.{Logic}
use contract.Lifetimes.{Lfts}
use contract.Monad.{Fun, fact}
use contract.Running.{Running}
use denote.Triple.Entry.{Args, Res}
use denote.Triple.Spec.{Meets}
use denote.Triple.Clauses.{Ended, Clauses, Lasts, AtExit, at_exit, closing}
use Rattle.reading.specs.Reading.{outcome}
use Rattle.tynderaxo.specs.Doors.{ReadOutcome, read_outcome, in_numbers}
use Rattle.reading.specs.contracts as reading
use Rattle.reading.proofs as reading_code
use Rattle.tynderaxo.specs.contracts as tynderaxo
use Rattle.tynderaxo.proofs as tynderaxo_code
use Rattle.promises.specs.Reading.{Judge}
use Rattle.promises.specs.Determined.{Allows}
use Rattle.promises.specs.Code.{AllDemands}
use Rattle.text_promises.specs.Texts.{Reader, WasRead, sheet_left, AnswersRight, AnswersAsWritten, HoldsDocuments, SheetHoldsDocuments, Keeps, KeepsTheSpace, ReadIsWhole, EveryDocumentTold, CutsBetweenDocuments}
use Rattle.text_promises.specs.TextCuts.{ReadsInParts, CutsTexts}
use Rattle.text_promises.specs.TextRuns.{TextsRunAsPromised}

-- ---- what is asked

-- of one reading
pub record WellRead (text space : List ℕ) (left : ReadOutcome) : Type 0 where
  pub answer : AnswersRight text space left
  pub keeps : Keeps space left
  pub holds : WasRead left → HoldsDocuments text (sheet_left left)

-- of a reader, beside a judge
pub record OverTexts (reader : Reader) (judge : Judge) : Type 0 where
  pub answer : AnswersAsWritten reader
  pub sheet : SheetHoldsDocuments reader
  pub space : KeepsTheSpace reader
  pub whole : ReadIsWhole reader judge
  pub lines : EveryDocumentTold reader judge
  pub cut : CutsBetweenDocuments reader judge
  pub parts : ReadsInParts reader
  pub text_cut : CutsTexts reader judge
  pub run : TextsRunAsPromised reader judge

module _ {M : Type 1} (𝓤 : Ura M) where
  -- ---- how a call is read

  -- a function whose calls are so read: its signature, its contract, the text and the space that it is given, and what it leaves
  pub record ReadEntry : Type 2 where
    pub function : Ended
    pub contract : Clauses 𝓤 function
    pub text : (κs : Lfts function.signature.lifetimes) → Args function.signature κs → List ℕ
    pub space : (κs : Lfts function.signature.lifetimes) → Args function.signature κs → List ℕ
    pub left : (κs : Lfts function.signature.lifetimes) → Res function.signature κs → AtExit function κs → ReadOutcome

  -- the contract allows some call that is read so to come to what is read so
  pub record ReadComes (entry : ReadEntry) (text space : List ℕ) (out : ReadOutcome) : Type 1 where
    pub lifetimes : Lfts entry.function.signature.lifetimes
    pub arguments : Args entry.function.signature lifetimes
    pub ghost : (entry.contract lifetimes arguments).ghost
    pub result : Res entry.function.signature lifetimes
    pub last : Lasts entry.function lifetimes arguments
    pub allowed : Allows 𝓤 entry.function entry.contract lifetimes arguments ghost result last
    pub given : entry.text lifetimes arguments ≡ text
    pub lent : entry.space lifetimes arguments ≡ space
    pub left : entry.left lifetimes result (at_exit entry.function lifetimes arguments last) ≡ out

  module _ (𝓛 : Logic 𝓤) (mem : Memory → SProp 𝓤) (run : Routine → Fun 𝓤) where
    -- `reading::read`
    abbrev pub the_read : ReadEntry
    the_read =
        record {
          function = reading.read.ended;
          contract = reading.read.clauses 𝓛 mem run;
          text = λ κs a. a.0.now;
          space = λ κs a. a.1.0.now;
          left = λ κs r e. in_numbers (outcome r e.1.0.now);
        }

    -- `tynderaxo_read`
    abbrev pub the_read_door : ReadEntry
    the_read_door =
        record {
          function = tynderaxo.tynderaxo_read.ended;
          contract = tynderaxo.tynderaxo_read.clauses 𝓛 mem run;
          text = λ κs a. a.0.now;
          space = λ κs a. a.1.0.now;
          left = λ κs r e. read_outcome r e.1.0.now;
        }

  -- ---- the statements

  pub record ReadContractMeets (entry : ReadEntry) : Type 1 where
    -- whatever its contract allows for a call is well read
    pub each : (text space : List ℕ) (out : ReadOutcome) → ReadComes entry text space out → WellRead text space out
    -- and a reader whose every answer it allows meets all, beside any judge that meets the demands
    pub all : (reader : Reader) → ((text space : List ℕ) → ReadComes entry text space (reader text space))
        → (judge : Judge) → AllDemands judge → OverTexts reader judge

  -- a contract that requires nothing, and ensures that what is left is well read
  abbrev pub reading_well : (entry : ReadEntry) → Clauses 𝓤 entry.function
  reading_well entry κs a =
      record {
        ghost = Unit {0};
        requires = λ g. emp 𝓤;
        ensures = λ g r e. fact 𝓤 (WellRead (entry.text κs a) (entry.space κs a) (entry.left κs r e));
      }

  module _ (𝓛 : Logic 𝓤) (𝓜 : Model 𝓤 𝓛.H) (𝓡 : Running 𝓤 𝓛.H 𝓜) where
    -- code, called by its name with anything, meets it, wherever names stand for that code
    abbrev pub CodeReads : ReadEntry → Code → Callee → Type 1
    CodeReads entry code name =
        Wired 𝓡.env code → Meets 𝓛 entry.function.signature (𝓡.run (𝓡.env name)) (closing 𝓛 entry.function (reading_well entry))

    -- the code of `reading::read`, and that of `tynderaxo_read`
    abbrev pub ReadCodeMeets : Type 1
    ReadCodeMeets = CodeReads (the_read 𝓛 𝓜.mem 𝓡.returns) reading_code.read.Symbol.code reading_code.read.Symbol.name

    abbrev pub ReadDoorCodeMeets : Type 1
    ReadDoorCodeMeets = CodeReads (the_read_door 𝓛 𝓜.mem 𝓡.returns) tynderaxo_code.tynderaxo_read.Symbol.code tynderaxo_code.tynderaxo_read.Symbol.name
