-- Which bulks can be read from texts: exactly those that documents can carry. Assumes nothing.
use Rattle.std.specs.Prelude.{ℕ, ◌≡◌, List, length, take, Ok}
use Rattle.wire.specs.Field.{Bytes}
use Rattle.sheet.specs.Sheet.{Bulk}
use Rattle.sheet.specs.Written.{sheet_bytes}
use Rattle.elements.specs.Forest.{Forest}
use Rattle.elements.specs.Grammar.{read}
use Rattle.reading.specs.Text.{parsed}
use Rattle.reading.specs.Meaning.{bulks_in}
use Rattle.reading.specs.Reading.{reads}
use Rattle.documents.specs.Carried.{Carried}

-- the bulks that a text means are carried, whatever the text is, if a sheet is made of them
abbrev pub OnlyCarried : Type 0
OnlyCarried = (s space : List ℕ) (end : ℕ) (f : Forest) (n : ℕ) → Bytes s → parsed s ≡ read end f → (reads s space).answer ≡ Ok n → Carried (bulks_in s f)

-- ---- sheets

-- some text is read as the sheet: it stands at the front of a space, and its length is told
pub record ReadFrom (sheet : List ℕ) : Type 0 where
  pub text : List ℕ
  pub bytes : Bytes text
  pub space : List ℕ
  pub answer : (reads text space).answer ≡ Ok (length sheet)
  pub left : take (length sheet) (reads text space).sheet ≡ sheet

-- it is the sheet of bulks that are carried
pub record OfCarried (sheet : List ℕ) : Type 0 where
  pub bulks : List Bulk
  pub carried : Carried bulks
  pub is : sheet_bytes bulks ≡ sheet

abbrev pub ExactlyThese : Type 0
ExactlyThese = (sheet : List ℕ) → (ReadFrom sheet → OfCarried sheet) × (OfCarried sheet → ReadFrom sheet)
