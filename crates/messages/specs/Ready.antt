-- What the functions on a bulk's messages ask of their one caller, and what they tell it. Contract plumbing: the judgement itself is
-- defined in Messages. Assumes nothing.
use Rattle.std.specs.Prelude.{ℕ, ◌+◌, ◌*◌, ◌≤◌, ◌≡◌, Bool, List, length}
use Rattle.std.proofs.Math.Option.{Option}
use Rattle.std.proofs.lemmas.List.Edits.{sets}
use Rattle.routing.specs.Table.{rows}
use Rattle.routing.specs.Lookup.{option_of}
use Rattle.routing.specs.Promise.{Below, RowTold}
use Rattle.sheet.specs.Sheet.{header_width, message_width, records_at}
use Rattle.sheet.specs.Reading.{HeaderRead, MessageRead, header_in}
use Rattle.sheet.specs.declared.Message.{Message}
use Rattle.sheet.specs.declared.Section.{Section}
use Rattle.index.specs.Searches.{slots_read, slots_read_by}
use Rattle.index.specs.Ready.{index_by}
use Rattle.positions.specs.Positions.{position_width}
use Rattle.rules.specs.declared.Terms.{Terms}
use Rattle.faults.specs.Faults.{sender_row}
use Rattle.tally.specs.Tally.{Totals, totals_of}
use Rattle.tally.specs.Room.{Room, most_counted}
use Rattle.report.specs.Line.{message_line_width}
use Rattle.messages.specs.Messages.{State, message_accepted, message_rejected, message_fell, is_accepted, faults_of, after_message, line_of, judge_messages}
use Rattle.messages.specs.Searches.{message_search, message_searches}
use Rattle.messages.specs.declared.Outcome.{Outcome}
use Rattle.messages.specs.declared.Outcome.TheVariants.{Accepted, Rejected, Fell}
use Rattle.messages.specs.declared.Ruling.{Ruling}
use Rattle.messages.specs.declared.Verdict.{Verdict}
use Rattle.messages.specs.declared.Counts.{Counts}

-- the number of an outcome
abbrev pub outcome_number : Outcome → ℕ
outcome_number Accepted = message_accepted
outcome_number Rejected = message_rejected
outcome_number Fell = message_fell

abbrev pub state_of : List ℕ → List ℕ → State
state_of register positions = record { register = register; positions = positions }

-- the messages of a section, of a kind
abbrev pub messages_of : List ℕ → ℕ → Section → List (List ℕ)
messages_of sheet kind section = records_at sheet (message_width kind) section.number section.at

-- ---- a section of messages lies in the sheet, and is no longer than a tally may count

pub record SectionReady (sheet : List ℕ) (kind : ℕ) (section : Section) : Type 0 where
  pub within : section.at + message_width kind * section.number ≤ length sheet
  pub few : section.number ≤ most_counted

-- ---- the two rows of a payment are rows

pub record PayReady (table positions : List ℕ) (from to : Option ℕ) : Type 0 where
  pub places : length positions ≡ position_width * rows table
  pub from_within : Below (rows table) from
  pub to_within : Below (rows table) to

-- ---- a tally has room for a message more, either way

pub record CountReady (t : Totals) : Type 0 where
  pub to_accept : Room t.accepted_number t.accepted_cents
  pub to_reject : Room t.rejected_number t.rejected_cents

-- ---- the header was read, and its sender's row looked up

pub record RulingReady (terms : Terms) (sheet table positions : List ℕ) (ruling : Ruling) : Type 0 where
  pub header_within : ruling.header.at + header_width ≤ length sheet
  pub header_read : HeaderRead sheet ruling.header.at ruling.header
  pub row_found : RowTold table (option_of ruling.row) (sender_row terms table (header_in sheet ruling.header))
  pub places : length positions ≡ position_width * rows table

-- ---- one message

pub record MessageReady (sheet : List ℕ) (message : Message) (out : List ℕ) (at : ℕ) : Type 0 where
  pub within : message.at + message_width message.kind ≤ length sheet
  pub read : MessageRead sheet message.kind message.at message
  pub space : at + message_line_width ≤ length out

module _ (terms : Terms) (table header : List ℕ) (fallen indexed : Bool) where
  pub record MessageTold (message : List ℕ) (before : State) (index : List ℕ) (at : ℕ) (out register' index' positions' out' : List ℕ) (verdict : Verdict) : Type 0 where
    pub accepted : verdict.accepted ≡ is_accepted fallen (faults_of terms table header message before)
    pub slots : verdict.slots ≡ slots_read indexed (message_search header message before)
    pub register : register' ≡ (after_message terms table header fallen message before).register
    pub kept : index' ≡ index_by indexed index (after_message terms table header fallen message before).register
    pub positions : positions' ≡ (after_message terms table header fallen message before).positions
    pub line : out' ≡ sets out at (line_of terms table header fallen message before)

  -- ---- the messages of a bulk, whose lines fill what was lent of the report

  pub record MessagesTold (messages : List (List ℕ)) (before : State) (index out register' index' positions' out' : List ℕ) (counts : Counts) : Type 0 where
    pub totals : totals_of counts.tally ≡ (judge_messages terms table header fallen messages before).totals
    pub slots : counts.slots ≡ slots_read_by indexed (message_searches terms table header fallen messages before)
    pub register : register' ≡ (judge_messages terms table header fallen messages before).after.register
    pub kept : index' ≡ index_by indexed index (judge_messages terms table header fallen messages before).after.register
    pub positions : positions' ≡ (judge_messages terms table header fallen messages before).after.positions
    pub lines : out' ≡ sets out 0 (judge_messages terms table header fallen messages before).lines
