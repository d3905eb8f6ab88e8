-- Demand 3 over texts, the cut: a text may be cut between any two of its documents. The parts are texts again: each is read by itself, and
-- they are judged one after the other. The statements speak of any reader and any judge. Assumes nothing.
use Rattle.std.specs.Prelude.{ℕ, ◌<◌, ◌≡◌, List, length, take, drop}
use Rattle.elements.specs.Grammar.{Parsed, read, broken, deep}
use Rattle.reading.specs.Text.{parsed}
use Rattle.joining.specs.Cut.{cut_place}
use Rattle.refusing.specs.Refusals.{Call, refusal}
use Rattle.promises.specs.Reading.{Judge}
use Rattle.promises.specs.Cut.{Enough, PartsMakeTheWhole}
use Rattle.text_promises.specs.Texts.{Reader, ReadAs, TextInBytes, documents, on_sheet, first_documents, later_documents}

-- ---- the parts

abbrev pub cut_by : List ℕ → ℕ → Parsed → ℕ
cut_by text k (read n f) = cut_place text f k
cut_by text k (broken p) = length text
cut_by text k (deep p) = length text

-- the place at which the document behind the first k begins
unfoldable pub cut_at : List ℕ → ℕ → ℕ
cut_at text k = cut_by text k (parsed text)

-- all up to there: what stands before the documents, the first k of them, and the spaces behind them
abbrev pub first_text : List ℕ → ℕ → List ℕ
first_text text k = take (cut_at text k) text

-- the other documents
abbrev pub later_text : List ℕ → ℕ → List ℕ
later_text text k = drop (cut_at text k) text

-- ---- each is read by itself

-- as the sheet of its own documents
pub record BothRead (reader : Reader) (text : List ℕ) (k : ℕ) : Type 0 where
  pub first : ReadAs reader (first_text text k) (first_documents text k)
  pub later : ReadAs reader (later_text text k) (later_documents text k)

abbrev pub ReadsInParts : Reader → Type 0
ReadsInParts reader = (text sheet : List ℕ) → ReadAs reader text sheet → (k : ℕ) → 0 < k → k < length (documents text) → BothRead reader text k

-- ---- and judged

-- whatever sheets the parts are read as, judged one after the other they make what the whole text makes
abbrev pub CutsTexts : Reader → Judge → Type 0
CutsTexts reader judge =
    (text : List ℕ) (call : Call) → ReadAs reader text call.sheet → TextInBytes text call → refusal call ≡ 0
    → (k : ℕ) → 0 < k → k < length (documents text)
    → (sheet sheet' : List ℕ) → ReadAs reader (first_text text k) sheet → ReadAs reader (later_text text k) sheet'
    → (space space' : List ℕ) → Enough sheet space → Enough sheet' space'
    → let one = judge (on_sheet call sheet call.register call.positions space) in
    PartsMakeTheWhole (judge call) one (judge (on_sheet call sheet' one.register one.positions space'))
