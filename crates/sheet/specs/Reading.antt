-- What the sheet's functions ask and tell, and the measure that the definition speaks of. Assumes nothing.
use Rattle.std.specs.Prelude.{ℕ, ◌+◌, ◌≤◌, ◌≡◌, List, length, Option as RustOption, Some, None}
use Rattle.std.proofs.Math.Option.{Option, none, some}
use Rattle.sheet.specs.Sheet.{count_width, header_width, message_width, header_at, message_at, count_at, after_messages, first_section, kind_of, stated_number_of, stated_sum_of, value_date_of, marks_of, amount_of, original_of}
use Rattle.sheet.specs.declared.Counted.{Counted}
use Rattle.sheet.specs.declared.Header.{Header}
use Rattle.sheet.specs.declared.Message.{Message}
use Rattle.sheet.specs.declared.Walk.{Walk}
use Rattle.sheet.specs.declared.BulkRead.{BulkRead}
use Rattle.sheet.specs.declared.Contents.{Contents}

-- the bytes of a header and of a message that were read
abbrev pub header_in : List ℕ → Header → List ℕ
header_in sheet header = header_at sheet header.at

abbrev pub message_in : List ℕ → Message → List ℕ
message_in sheet message = message_at sheet message.kind message.at

-- ---- the cursor

pub record CountRead (sheet : List ℕ) (at : ℕ) (read : Counted) : Type 0 where
  pub count : read.count ≡ count_at sheet at
  pub moved : read.next.at ≡ at + count_width

pub record HeaderRead (sheet : List ℕ) (at : ℕ) (read : Header) : Type 0 where
  pub place : read.at ≡ at
  pub kind : read.kind ≡ kind_of (header_at sheet at)
  pub number : read.number ≡ stated_number_of (header_at sheet at)
  pub sum : read.sum ≡ stated_sum_of (header_at sheet at)
  pub date : read.date ≡ value_date_of (header_at sheet at)
  pub marks : read.marks ≡ marks_of (header_at sheet at)
  pub moved : read.next.at ≡ at + header_width

pub record MessageRead (sheet : List ℕ) (bulk_kind at : ℕ) (read : Message) : Type 0 where
  pub place : read.at ≡ at
  pub kind : read.kind ≡ bulk_kind
  pub amount : read.amount ≡ amount_of (message_at sheet bulk_kind at)
  pub original : read.original ≡ original_of (message_at sheet bulk_kind at)
  pub moved : read.next.at ≡ at + message_width bulk_kind

-- ---- the walk over the bulks

pub record WalkStarted (sheet : List ℕ) (walk : Walk) : Type 0 where
  pub heads : walk.heads.at ≡ count_width
  pub bodies : walk.bodies.at ≡ first_section sheet

-- a bulk lies in the sheet: its header, its count and its messages
pub record Inside (sheet : List ℕ) (head at : ℕ) : Type 0 where
  pub header : head + header_width ≤ length sheet
  pub count : at + count_width ≤ length sheet
  pub messages : after_messages sheet head at ≤ length sheet

pub record BulkTaken (sheet : List ℕ) (head at : ℕ) (read : BulkRead) : Type 0 where
  pub header : HeaderRead sheet head read.header
  pub first : read.section.at ≡ at + count_width
  pub number : read.section.number ≡ count_at sheet at
  pub heads : read.next.heads.at ≡ head + header_width
  pub bodies : read.next.bodies.at ≡ after_messages sheet head at

-- ---- the measure

abbrev pub shape_of : RustOption Contents → Option (ℕ × ℕ)
shape_of None = none
shape_of (Some contents) = some (contents.bulks, contents.messages)
