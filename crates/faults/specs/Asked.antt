-- What the functions that put faults together ask of their callers. Assumes nothing.
use Rattle.std.specs.Prelude.{ℕ, ◌+◌, ◌≤◌, ◌≡◌, List, length, Option}
use Rattle.routing.specs.Lookup.{option_of}
use Rattle.sheet.specs.Sheet.{header_width, message_width}
use Rattle.sheet.specs.Reading.{HeaderRead, MessageRead, header_in, message_in}
use Rattle.sheet.specs.declared.Header.{Header}
use Rattle.sheet.specs.declared.Message.{Message}
use Rattle.rules.specs.declared.Terms.{Terms}
use Rattle.faults.specs.Faults.{sender_row, receiver_row}

-- the header was read at its place, and its sender's row was looked up
pub record BulkAsked (terms : Terms) (sheet table : List ℕ) (header : Header) (row : Option ℕ) : Type 0 where
  pub within : header.at + header_width ≤ length sheet
  pub read : HeaderRead sheet header.at header
  pub found : option_of row ≡ sender_row terms table (header_in sheet header)

-- so was the message, which is of the header's kind, and its receiver's row was looked up
pub record MessageAsked (terms : Terms) (sheet table : List ℕ) (header : Header) (message : Message) (row : Option ℕ) : Type 0 where
  pub header_within : header.at + header_width ≤ length sheet
  pub header_read : HeaderRead sheet header.at header
  pub within : message.at + message_width message.kind ≤ length sheet
  pub read : MessageRead sheet message.kind message.at message
  pub found : option_of row ≡ receiver_row terms table (message_in sheet message)
