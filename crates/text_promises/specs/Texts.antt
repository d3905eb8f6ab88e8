-- What holds of a reader, and of a reader and a judge together: the demands read over texts of documents. The statements speak of any
-- reader and any judge. Assumes nothing.
use Rattle.std.specs.Prelude.{ℕ, ◌+◌, ◌≤◌, ◌<◌, ◌≡◌, true, false, List, [], ◌∷◌, map, length, take, drop}
use Rattle.wire.specs.Field.{Bytes}
use Rattle.sheet.specs.Sheet.{identifier_width, kind_of, Bulk, bulks_of, whole}
use Rattle.sheet.specs.Written.{sheet_bytes}
use Rattle.meanings.specs.Meanings.{filled}
use Rattle.paths.specs.Roles as roles
use Rattle.records.specs.Records as records
use Rattle.elements.specs.Forest.{Forest, none, tree}
use Rattle.elements.specs.Grammar.{Parsed, read, broken, deep}
use Rattle.elements.specs.Questions.{first_lack, messages_in}
use Rattle.reading.specs.Text.{parsed}
use Rattle.reading.specs.Meaning.{places_in, bulk_in, sheet_in, fits_in}
use Rattle.reading.specs.Reading as reading
use Rattle.reading.specs.Reading.{reads}
use Rattle.reading.specs.declared.Unread.{Unread}
use Rattle.reading.specs.declared.Unread.TheVariants.{Form, Deep, Lack, Short}
use Rattle.std.specs.Prelude.{Result, Ok, Err}
use Rattle.tynderaxo.specs.Doors.{ReadOutcome, in_numbers}
use Rattle.report.specs.Line.{bulk_line_width, message_line_width, identifier_in, first_line, sections_place, lines_at, after_lines}
use Rattle.refusing.specs.Refusals.{Call, refusal_number, refusal}
use Rattle.refusing.specs.declared.Refusal.TheVariants.{Sheet, Kind}
use Rattle.judging.specs.Outcome.{Outcome}
use Rattle.promises.specs.Reading.{Judge, line_count, bulk_line_from, message_line_from}
use Rattle.promises.specs.Demands.{BulksTell}
use Rattle.promises.specs.Cut.{first_part, second_part, Enough, PartsMakeTheWhole}

-- any reader, as far as a caller can tell: from a text and a space to the number, length and place that it answers, and what it leaves
abbrev pub Reader : Type 0
Reader = List ℕ → List ℕ → ReadOutcome

-- the one that is defined
abbrev pub the_reader : Reader
the_reader text space = in_numbers (reads text space)

abbrev pub WasRead : ReadOutcome → Type 0
WasRead left = left.number ≡ 0

-- the sheet is as many of the bytes that it left as it says
abbrev pub sheet_left : ReadOutcome → List ℕ
sheet_left left = take left.length left.sheet

-- into some space the text is read as this sheet
pub record ReadAs (reader : Reader) (text sheet : List ℕ) : Type 0 where
  pub space : List ℕ
  pub was : WasRead (reader text space)
  pub made : sheet_left (reader text space) ≡ sheet

-- what is lent are bytes: of the sheet that was read it is enough that its text is
pub record TextInBytes (text : List ℕ) (call : Call) : Type 0 where
  pub documents : Bytes text
  pub table : Bytes call.table
  pub register : Bytes call.register
  pub positions : Bytes call.positions
  pub report : Bytes call.report

-- ---- what a text means

unfoldable pub roots_of : Forest → List Forest
roots_of none = []
roots_of (tree role place inner rest) = tree role place inner none ∷ roots_of rest

abbrev pub documents_by : Parsed → List Forest
documents_by (read n f) = roots_of f
documents_by (broken p) = []
documents_by (deep p) = []

-- its documents, in their order: none in a text that is not of the form
unfoldable pub documents : List ℕ → List Forest
documents text = documents_by (parsed text)

-- each of them one bulk
abbrev pub meant : List ℕ → List Bulk
meant text = map (λ (d : Forest). bulk_in text d) (documents text)

-- what the element that plays a role says there
abbrev pub says : List ℕ → Forest → ℕ → List ℕ
says text d role = records.said_of text (places_in d) role

-- ---- the answer is the right one

-- number, length and place of an answer
abbrev pub Says : ReadOutcome → Result ℕ Unread → Type 0
Says left answer = (left.number ≡ reading.number_of answer) × (left.length ≡ reading.length_of answer) × (left.at ≡ reading.where_of answer)

pub record AnswersRight (text space : List ℕ) (left : ReadOutcome) : Type 0 where
  -- a text that is not of the form, or goes too deep, whichever is met first
  pub formless : (p : ℕ) → parsed text ≡ broken p → Says left (Err (Form p))
  pub too_deep : (p : ℕ) → parsed text ≡ deep p → Says left (Err (Deep p))
  -- of the form, and some element lacks something: the first
  pub lacking : (n : ℕ) (f : Forest) → parsed text ≡ read n f → first_lack f (length text) < length text → Says left (Err (Lack (first_lack f (length text))))
  -- none does: the sheet that the documents mean is made where it fits, and only there
  pub too_short : (n : ℕ) (f : Forest) → parsed text ≡ read n f → length text ≤ first_lack f (length text)
      → fits_in text f (length space) ≡ false → Says left (Err Short)
  pub made : (n : ℕ) (f : Forest) → parsed text ≡ read n f → length text ≤ first_lack f (length text)
      → fits_in text f (length space) ≡ true → Says left (Ok (length (sheet_in text f)))

abbrev pub AnswersAsWritten : Reader → Type 0
AnswersAsWritten reader = (text space : List ℕ) → AnswersRight text space (reader text space)

-- ---- the sheet is what the documents mean

pub record HoldsDocuments (text sheet : List ℕ) : Type 0 where
  -- byte for byte
  pub bytes : sheet ≡ sheet_bytes (meant text)
  -- it is whole, and read by its layout it holds one bulk for each document, in order
  pub whole : whole sheet ≡ true
  pub bulks : bulks_of sheet ≡ meant text
  -- whose kind is that of a payment or of a return, by the group that the document holds
  pub kinds : map (λ (b : Bulk). kind_of b.header) (bulks_of sheet) ≡ map (λ (d : Forest). records.kind_of (places_in d)) (documents text)

abbrev pub SheetHoldsDocuments : Reader → Type 0
SheetHoldsDocuments reader = (text sheet : List ℕ) → ReadAs reader text sheet → HoldsDocuments text sheet

-- what a reader leaves of the space that it was lent
pub record Keeps (space : List ℕ) (left : ReadOutcome) : Type 0 where
  -- where nothing was read, all of it, and the length is 0
  pub refused : (WasRead left → ⊥) → (left.length ≡ 0) × (left.sheet ≡ space)
  -- and always what is behind the sheet
  pub behind : drop left.length left.sheet ≡ drop left.length space
  pub long : length left.sheet ≡ length space

abbrev pub KeepsTheSpace : Reader → Type 0
KeepsTheSpace reader = (text space : List ℕ) → Keeps space (reader text space)

-- ---- demand 1: no call on what was read is refused for its form or its kinds

pub record NotForTheSheet (left : Outcome) : Type 0 where
  pub form : left.number ≡ refusal_number Sheet → ⊥
  pub kinds : left.number ≡ refusal_number Kind → ⊥

abbrev pub ReadIsWhole : Reader → Judge → Type 0
ReadIsWhole reader judge = (text : List ℕ) (call : Call) → ReadAs reader text call.sheet → NotForTheSheet (judge call)

-- ---- demand 2: the lines tell of the documents

module _ (text report : List ℕ) where
  -- each message line, from a place on, names what the message's own identifier says
  unfoldable pub MessagesNamed : List Forest → ℕ → Type 0
  MessagesNamed [] at = Unit {0}
  MessagesNamed (m ∷ ms) at =
      (identifier_in (message_line_from report at) ≡ filled identifier_width (says text m roles.identifier)) × MessagesNamed ms (at + message_line_width)

  -- and each bulk line what the document's says, with its messages in the section that belongs to it
  unfoldable pub DocumentsNamed : List Forest → ℕ → ℕ → Type 0
  DocumentsNamed [] at section = Unit {0}
  DocumentsNamed (d ∷ ds) at section =
      (identifier_in (bulk_line_from report at) ≡ filled identifier_width (says text d roles.bulk_identifier))
      × MessagesNamed (messages_in d) (lines_at section)
      × DocumentsNamed ds (at + bulk_line_width) (after_lines section (length (messages_in d)))

pub record DocumentsTold (text : List ℕ) (call : Call) (left : Outcome) : Type 0 where
  pub count : line_count left ≡ length (documents text)
  pub named : DocumentsNamed text left.report (documents text) first_line (sections_place (length (documents text)))
  -- all that `EveryLineTells` says, of the bulks that the documents mean
  pub lines : BulksTell call.terms call.table left.report (meant text) call.register first_line (sections_place (length (documents text)))

abbrev pub EveryDocumentTold : Reader → Judge → Type 0
EveryDocumentTold reader judge =
    (text : List ℕ) (call : Call) → ReadAs reader text call.sheet → TextInBytes text call → refusal call ≡ 0 → DocumentsTold text call (judge call)

-- ---- demand 3, the cut: after any of the documents

-- the call, on another sheet, register, positions and space
abbrev pub on_sheet : Call → List ℕ → List ℕ → List ℕ → List ℕ → Call
on_sheet call sheet register positions space =
    record { terms = call.terms; sheet = sheet; table = call.table; register = register; positions = positions; report = space }

-- the sheets of the first k documents, and of the others
abbrev pub first_documents : List ℕ → ℕ → List ℕ
first_documents text k = sheet_bytes (take k (meant text))

abbrev pub later_documents : List ℕ → ℕ → List ℕ
later_documents text k = sheet_bytes (drop k (meant text))

pub record CutBetween (judge : Judge) (text : List ℕ) (call : Call) (k : ℕ) (space space' : List ℕ) : Type 0 where
  -- they are the parts of the sheet that was read
  pub first : first_part call.sheet k ≡ first_documents text k
  pub later : second_part call.sheet k ≡ later_documents text k
  -- judged one after the other
  pub judged :
      let one = judge (on_sheet call (first_documents text k) call.register call.positions space) in
      PartsMakeTheWhole (judge call) one (judge (on_sheet call (later_documents text k) one.register one.positions space'))

abbrev pub CutsBetweenDocuments : Reader → Judge → Type 0
CutsBetweenDocuments reader judge =
    (text : List ℕ) (call : Call) → ReadAs reader text call.sheet → TextInBytes text call → refusal call ≡ 0
    → (k : ℕ) → k ≤ length (documents text)
    → (space space' : List ℕ) → Enough (first_documents text k) space → Enough (later_documents text k) space'
    → CutBetween judge text call k space space'
