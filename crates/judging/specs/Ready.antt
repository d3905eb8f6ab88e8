-- What the functions on bulks ask of their one caller, and what they tell it. Contract plumbing: the judgement itself is defined in
-- Judgement. Assumes nothing.
use Rattle.std.specs.Prelude.{ℕ, ◌+◌, ◌*◌, ◌≤◌, ◌≡◌, Bool, cond, List, [], ◌∷◌, eqb, length}
use Rattle.std.proofs.lemmas.List.Edits.{sets}
use Rattle.routing.specs.Table.{rows}
use Rattle.sheet.specs.Sheet.{header_width, Bulk, bulks_of}
use Rattle.sheet.specs.Reading.{HeaderRead, header_in}
use Rattle.sheet.specs.declared.Header.{Header}
use Rattle.sheet.specs.declared.Section.{Section}
use Rattle.register.specs.Register.{add}
use Rattle.index.specs.Searches.{slots_read_by}
use Rattle.index.specs.Ready.{index_by}
use Rattle.positions.specs.Positions.{position_width}
use Rattle.rules.specs.declared.Terms.{Terms}
use Rattle.report.specs.Line.{first_line, sections_place, after_lines, bulk_line_width, report_length}
use Rattle.report.specs.declared.Places.{Places}
use Rattle.refusing.specs.Refusals.{Call, refusals, first_holding}
use Rattle.refusing.specs.Checking.{asked, Few}
use Rattle.sheet.specs.declared.Contents.{Contents}
use Rattle.messages.specs.Messages.{State}
use Rattle.messages.specs.Ready.{messages_of}
use Rattle.judging.specs.Judgement.{bulk_accepted, bulk_partial, bulk_rejected, bulk_line_of, section_of, after_bulk, judge_bulks}
use Rattle.judging.specs.Searches.{bulk_searches, searches}
use Rattle.judging.specs.Outcome.{judgement, judged_of}
use Rattle.judging.specs.declared.bulks.Outcome.{Outcome}
use Rattle.judging.specs.declared.bulks.Outcome.TheVariants.{Accepted, Partial, Rejected}
use Rattle.judging.specs.Indexed.{IndexedOutcome, searches_of, indexed_away}

-- ---- one bulk

-- the number of an outcome
abbrev pub outcome_number : Outcome → ℕ
outcome_number Accepted = bulk_accepted
outcome_number Partial = bulk_partial
outcome_number Rejected = bulk_rejected

abbrev pub bulk_in : List ℕ → Header → Section → Bulk
bulk_in sheet header section = record { header = header_in sheet header; messages = messages_of sheet header.kind section }

pub record HeaderReady (sheet table positions : List ℕ) (header : Header) : Type 0 where
  pub within : header.at + header_width ≤ length sheet
  pub read : HeaderRead sheet header.at header
  pub places : length positions ≡ position_width * rows table

-- the bulk's line lies before its section, and both in the report
pub record BulkSpace (report : List ℕ) (n : ℕ) (places : Places) : Type 0 where
  pub before : places.line + bulk_line_width ≤ places.section
  pub space : after_lines places.section n ≤ length report

pub record BulkTold (terms : Terms) (table : List ℕ) (indexed : Bool) (bulk : Bulk) (before : State) (index report : List ℕ) (places : Places) (register' index' positions' report' : List ℕ) (slots : ℕ) : Type 0 where
  pub register : register' ≡ (after_bulk terms table bulk before).register
  pub kept : index' ≡ index_by indexed index (after_bulk terms table bulk before).register
  pub positions : positions' ≡ (after_bulk terms table bulk before).positions
  pub written : report' ≡ sets (sets report places.section (section_of terms table bulk before)) places.line (bulk_line_of terms table bulk before)
  pub read : slots ≡ slots_read_by indexed (bulk_searches terms table bulk before)

-- its own entry, after its messages
pub record RecordTold (indexed : Bool) (register index key : List ℕ) (accepted : ℕ) (register' index' : List ℕ) (slots : ℕ) : Type 0 where
  pub recorded : register' ≡ cond (eqb accepted 0) register (add register key)
  pub kept : index' ≡ index_by indexed index (cond (eqb accepted 0) register (add register key))
  pub read : slots ≡ slots_read_by indexed (cond (eqb accepted 0) [] (record { register = register; key = key } ∷ []))

-- ---- all bulks

pub record BulksReady (sheet table positions report : List ℕ) (contents : Contents) : Type 0 where
  pub few : Few sheet contents
  pub places : length positions ≡ position_width * rows table
  pub space : report_length contents.bulks contents.messages ≤ length report

-- the bulk lines after the count, the sections after the bulk lines
pub record BulksTold (terms : Terms) (sheet table : List ℕ) (indexed : Bool) (bulks : ℕ) (before : State) (index report register' index' positions' report' : List ℕ) (slots : ℕ) : Type 0 where
  pub register : register' ≡ (judge_bulks terms table (bulks_of sheet) before).after.register
  pub kept : index' ≡ index_by indexed index (judge_bulks terms table (bulks_of sheet) before).after.register
  pub read : slots ≡ slots_read_by indexed (searches terms table (bulks_of sheet) before)
  pub positions : positions' ≡ (judge_bulks terms table (bulks_of sheet) before).after.positions
  pub written : report'
      ≡ sets (sets report first_line (judge_bulks terms table (bulks_of sheet) before).lines) (sections_place bulks) (judge_bulks terms table (bulks_of sheet) before).sections

-- ---- the whole call, either way

-- what a call comes to, of which the plain judge hands out the outcome alone
abbrev pub outcome_by : Bool → Call → List ℕ → IndexedOutcome
outcome_by indexed call index =
    let n = first_holding (asked indexed index call) refusals in
    cond (eqb n 0)
    (record {
      outcome = judged_of call (judgement call);
      slots = slots_read_by indexed (searches_of call);
      index = index_by indexed index (judgement call).after.register;
    })
    (indexed_away call index n)
