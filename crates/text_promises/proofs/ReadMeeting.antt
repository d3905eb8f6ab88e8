-- The statements over texts hold of whatever the reader's own contract allows, and of its code; the same for the door in C. Assumes
-- nothing.
use mathlib.Core.Path.{◌≡◌, refl, sym, ap, subst, ◌∙◌}
use mathlib.Core.List.{List, is_set}
use Prim.Native.Nat.{ℕ}
use native.Mathlib.Nat.{ℕ_set}
use seplogic.Ra.Ura.{Ura}
use base.Logic.{SProp, emp, ent, id⊢, via, mono_r}
use prog.Model.{Model}
use prog.Memory.{Memory}
use prog.Routine.{Routine}
use prog.Wired.{Code, Wired}
use mir.Syntax.{Callee}
use types.Logic.{Logic, sem}
use contract.Lifetimes.{Lfts}
use contract.Monad.{Fun, fact, fact_i, fact_mono, fm→mono}
use contract.Running.{Running}
use denote.Triple.Table.{run_framed}
use denote.Triple.Weaken.{weaken_under}
use denote.Triple.Clauses.{AtExit, at_exit, lasts, closing}
use denote.Triple.Entry.{Args, Res}
use denote.Triple.Spec.{Meets}
use Rattle.tynderaxo.specs.Doors.{ReadOutcome, in_numbers}
use Rattle.reading.proofs as reading_code
use Rattle.tynderaxo.proofs as tynderaxo_code
use Rattle.promises.specs.Reading.{Judge}
use Rattle.promises.specs.Code.{AllDemands}
use Rattle.text_promises.specs.Texts.{Reader, the_reader, sheet_left}
use Rattle.text_promises.specs.ReadCode.{WellRead, OverTexts, ReadEntry, ReadComes, the_read, the_read_door, ReadContractMeets, reading_well, CodeReads, ReadCodeMeets, ReadDoorCodeMeets}
use Rattle.promises.proofs.Told.{tell, both, taken}
use Rattle.text_promises.proofs.Answered.{answers_as_written}
use Rattle.text_promises.proofs.Texts.{sheet_holds_documents, keeps_the_space, read_is_whole, every_document_told, cuts_between_documents}
use Rattle.text_promises.proofs.TextCuts.{reads_in_parts, cuts_texts}
use Rattle.text_promises.proofs.TextRuns.{texts_run_as_promised}

-- what is left by a reading is three numbers and its bytes
read_outcomes : IsSet ReadOutcome
read_outcomes x y p q = λ j i. record {
  number = ℕ_set x.number y.number (λ k. (p k).number) (λ k. (q k).number) j i;
  length = ℕ_set x.length y.length (λ k. (p k).length) (λ k. (q k).length) j i;
  at = ℕ_set x.at y.at (λ k. (p k).at) (λ k. (q k).at) j i;
  sheet = is_set ℕ_set x.sheet y.sheet (λ k. (p k).sheet) (λ k. (q k).sheet) j i;
}

-- the reader that is defined meets them, and so does whatever it leaves
well_read : (text space : List ℕ) → WellRead text space (the_reader text space)
well_read text space =
    record {
      answer = answers_as_written text space;
      keeps = keeps_the_space text space;
      holds = λ was. sheet_holds_documents text (sheet_left (the_reader text space)) (record { space = space; was = was; made = refl });
    }

as_well : {text space : List ℕ} {out : ReadOutcome} → out ≡ the_reader text space → WellRead text space out
as_well {text} {space} {out} e = rw e (well_read text space)

-- Beside a judge that meets the demands, the reader meets them over texts.
pub over_texts : (judge : Judge) → AllDemands judge → OverTexts the_reader judge
over_texts judge demands =
    record {
      answer = answers_as_written;
      sheet = sheet_holds_documents;
      space = keeps_the_space;
      whole = read_is_whole judge demands.refuses;
      lines = every_document_told judge demands.lines;
      cut = cuts_between_documents judge demands.cut;
      parts = reads_in_parts;
      text_cut = cuts_texts judge demands.cut;
      run = texts_run_as_promised judge demands.run;
    }

module _ {M : Type 1} (𝓤 : Ura M) where
  -- an entry whose contract tells that reader's outcome
  abbrev TellsIt : ReadEntry 𝓤 → Type 1
  TellsIt entry = (text space : List ℕ) (out : ReadOutcome) → ReadComes 𝓤 entry text space out → out ≡ the_reader text space

  meets : (entry : ReadEntry 𝓤) → TellsIt entry → ReadContractMeets 𝓤 entry
  meets entry tells =
      record {
        each = λ text space out comes. as_well (tells text space out comes);
        all = λ reader comes judge demands.
            let same : reader ≡ the_reader = λ i text space. tells text space (reader text space) (comes text space) i in
            subst (λ (r : Reader). OverTexts r judge) (sym same) (over_texts judge demands);
      }

  module _ (𝓛 : Logic 𝓤) (mem : Memory → SProp 𝓤) (run : Routine → Fun 𝓤) where
    read_tells : TellsIt (the_read 𝓤 𝓛 mem run)
    read_tells text space out comes =
        sym comes.left
        ∙ both 𝓤 read_outcomes (λ e u. ap in_numbers e) comes.allowed.told (tell 𝓤 {φ = Unit {0}} tt)
        ∙ (λ i. the_reader (comes.given i) (comes.lent i))

    pub read_meets : ReadContractMeets 𝓤 (the_read 𝓤 𝓛 mem run)
    read_meets = meets (the_read 𝓤 𝓛 mem run) read_tells

    read_door_tells : TellsIt (the_read_door 𝓤 𝓛 mem run)
    read_door_tells text space out comes =
        sym comes.left ∙ taken 𝓤 (read_outcomes _ _) comes.allowed.told ∙ (λ i. the_reader (comes.given i) (comes.lent i))

    pub read_door_meets : ReadContractMeets 𝓤 (the_read_door 𝓤 𝓛 mem run)
    read_door_meets = meets (the_read_door 𝓤 𝓛 mem run) read_door_tells

  -- by the rule of consequence, from the contract that the code is proved to meet
  module _ (𝓛 : Logic 𝓤) (𝓜 : Model 𝓤 𝓛.H) (𝓡 : Running 𝓤 𝓛.H 𝓜) where
    -- an entry that requires nothing, and tells that reader's outcome
    open 𝓛 use {H}

    record Tells (entry : ReadEntry 𝓤) : Type 1 where
      ghost : (κs : Lfts entry.function.signature.lifetimes) (a : Args entry.function.signature κs) → (entry.contract κs a).ghost
      requires : (κs : Lfts entry.function.signature.lifetimes) (a : Args entry.function.signature κs) → ent 𝓤 (emp 𝓤) ((entry.contract κs a).requires (ghost κs a))
      ensures : (κs : Lfts entry.function.signature.lifetimes) (a : Args entry.function.signature κs) (r : Res entry.function.signature κs) (e : AtExit entry.function κs)
          → ent 𝓤 ((entry.contract κs a).ensures (ghost κs a) r e) (fact 𝓤 (entry.left κs r e ≡ the_reader (entry.text κs a) (entry.space κs a)))

    code_reads : (entry : ReadEntry 𝓤) (code : Code) (name : Callee) → Tells entry
        → (Wired 𝓡.env code → Meets 𝓛 entry.function.signature (𝓡.run (𝓡.env name)) (closing 𝓛 entry.function entry.contract))
        → CodeReads 𝓤 𝓛 𝓜 𝓡 entry code name
    code_reads entry code name told met wired =
        weaken_under 𝓛 entry.function entry.contract (reading_well 𝓤 entry)
        (λ κs a g. told.ghost κs a)
        (λ κs a g. Unit {0})
        (λ κs a g. fact_i 𝓤 (Unit {0}) (emp 𝓤) tt)
        (λ κs a g known. told.requires κs a)
        (λ κs a g known r ws.
        let e = at_exit entry.function κs a ws in
        let is = entry.left κs r e ≡ the_reader (entry.text κs a) (entry.space κs a) in
        let asked = WellRead (entry.text κs a) (entry.space κs a) (entry.left κs r e) in
        mono_r 𝓤 (sem 𝓛 (lasts entry.function κs a ws)) (via 𝓤 (fact 𝓤 is) (told.ensures κs a r e) (fact_mono 𝓤 is asked as_well)))
        (𝓡.run (𝓡.env name))
        (λ vs. fm→mono 𝓤 (𝓡.run (𝓡.env name) vs) (run_framed 𝓤 H 𝓜 𝓡 (𝓡.env name) vs))
        (met wired)

    pub read_code_meets : ReadCodeMeets 𝓤 𝓛 𝓜 𝓡
    read_code_meets =
        code_reads (the_read 𝓤 𝓛 𝓜.mem 𝓡.returns) reading_code.read.Symbol.code reading_code.read.Symbol.name
        (record { ghost = λ κs a. tt; requires = λ κs a. id⊢ 𝓤 (emp 𝓤); ensures = λ κs a r e. fact_mono 𝓤 _ _ (λ told. ap in_numbers told) })
        (reading_code.read.Met.met 𝓤 𝓛 𝓜 𝓡)

    pub read_door_code_meets : ReadDoorCodeMeets 𝓤 𝓛 𝓜 𝓡
    read_door_code_meets =
        code_reads (the_read_door 𝓤 𝓛 𝓜.mem 𝓡.returns) tynderaxo_code.tynderaxo_read.Symbol.code tynderaxo_code.tynderaxo_read.Symbol.name
        (record { ghost = λ κs a. tt; requires = λ κs a. id⊢ 𝓤 (emp 𝓤); ensures = λ κs a r e. id⊢ 𝓤 _ })
        (tynderaxo_code.tynderaxo_read.Met.met 𝓤 𝓛 𝓜 𝓡)
