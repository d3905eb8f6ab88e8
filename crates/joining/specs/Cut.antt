-- A text cut between two of its documents. Assumes nothing.
use Rattle.std.specs.Prelude.{ℕ, ◌≤◌, ◌≡◌, List, length, take, drop, Ok}
use Rattle.std.proofs.lemmas.List.Edits.{sets}
use Rattle.sheet.specs.Written.{sheet_bytes}
use Rattle.elements.specs.Forest.{Forest}
use Rattle.elements.specs.Grammar.{read}
use Rattle.reading.specs.Text.{parsed}
use Rattle.reading.specs.Meaning.{bulks_in}
use Rattle.reading.specs.Reading.{outcome, reads}
use Rattle.joining.specs.Lowered.{firsts, others, begins, lowered}

-- of a text and its documents: the place at which the one behind the first k begins; the end of the text, where there is none
unfoldable pub cut_place : List ℕ → Forest → ℕ → ℕ
cut_place text f k = begins (others k f) (length text)

-- the first k documents with all that stands before them and the spaces behind them, and the rest
abbrev pub first_text : List ℕ → Forest → ℕ → List ℕ
first_text text f k = take (cut_place text f k) text

abbrev pub later_text : List ℕ → Forest → ℕ → List ℕ
later_text text f k = drop (cut_place text f k) text

-- each part is a text of its documents, and they mean what they mean in the whole
pub record CutInTwo (text : List ℕ) (f : Forest) (k : ℕ) : Type 0 where
  pub first : parsed (first_text text f k) ≡ read (length (first_text text f k)) (firsts k f)
  pub later : parsed (later_text text f k) ≡ read (length (later_text text f k)) (lowered (cut_place text f k) (others k f))
  pub first_bulks : bulks_in (first_text text f k) (firsts k f) ≡ take k (bulks_in text f)
  pub later_bulks : bulks_in (later_text text f k) (lowered (cut_place text f k) (others k f)) ≡ drop k (bulks_in text f)

-- a text is read as a sheet, into any space that is long enough
abbrev pub ReadsAs : List ℕ → List ℕ → Type 0
ReadsAs text sheet = (space : List ℕ) → length sheet ≤ length space → reads text space ≡ outcome (Ok (length sheet)) (sets space 0 sheet)

-- each part is read as the sheet of its documents' bulks
pub record PartsRead (text : List ℕ) (f : Forest) (k : ℕ) : Type 0 where
  pub first : ReadsAs (first_text text f k) (sheet_bytes (take k (bulks_in text f)))
  pub later : ReadsAs (later_text text f k) (sheet_bytes (drop k (bulks_in text f)))
