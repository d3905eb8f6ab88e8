-- Readers that must be shut out, most of them the right one but for what their name says. Assumes nothing.
use Rattle.std.specs.Prelude.{ℕ, ◌-◌, cond, List, [], ◌∷◌, reverse, length, take, eqb, ltb}
use Rattle.std.proofs.lemmas.List.Edits.{sets}
use Rattle.sheet.specs.Sheet.{count_width, Bulk}
use Rattle.sheet.specs.Written.{sheet_bytes}
use Rattle.elements.specs.Grammar.{Parsed, read, broken, deep}
use Rattle.elements.specs.Questions.{first_lack}
use Rattle.reading.specs.Text.{document_at}
use Rattle.judging.specs.Outcome.{outcome}
use Rattle.tynderaxo.specs.Doors.{ReadOutcome}
use Rattle.text_promises.specs.Texts.{Reader, the_reader, meant, AnswersAsWritten, SheetHoldsDocuments, KeepsTheSpace, ReadIsWhole, EveryDocumentTold, CutsBetweenDocuments}
use Rattle.text_promises.specs.TextRuns.{TextsRunAsPromised}

-- another sheet, and its length, put in place of what was left
abbrev pub with_sheet : ReadOutcome → ℕ → List ℕ → ReadOutcome
with_sheet left n sheet = record { number = left.number; length = n; at = left.at; sheet = sheet }

-- where a text is read, its outcome changed
abbrev pub where_read : (ReadOutcome → ReadOutcome) → Reader
where_read change text space = cond (eqb (the_reader text space).number 0) (change (the_reader text space)) (the_reader text space)

-- where a text is read, the sheet of other bulks
abbrev pub other_bulks : (List Bulk → List Bulk) → Reader
other_bulks change text space =
    where_read (λ left. with_sheet left (length (sheet_bytes (change (meant text)))) (sets space 0 (sheet_bytes (change (meant text))))) text space

-- ---- of the answer

abbrev pub refuses_all : Reader
refuses_all text space = record { number = 21; length = 0; at = 0; sheet = space }

-- a space that holds no sheet is told before the text is looked at
abbrev pub asks_for_space_first : Reader
asks_for_space_first text space = cond (ltb (length space) count_width) (record { number = 24; length = 0; at = 0; sheet = space }) (the_reader text space)

-- what the first document lacks is told before the rest of the text is looked at
abbrev pub lack_in : List ℕ → Parsed → ℕ
lack_in text (read n f) = first_lack f (length text)
lack_in text (broken p) = length text
lack_in text (deep p) = length text

abbrev pub tells_lack_first : Reader
tells_lack_first text space =
    cond (ltb (lack_in text (document_at text 0)) (length text))
    (record { number = 23; length = 0; at = lack_in text (document_at text 0); sheet = space })
    (the_reader text space)

-- ---- of the sheet

abbrev pub stops_at_the_first : Reader
stops_at_the_first = other_bulks (λ bulks. take 1 bulks)

abbrev pub last_document_first : Reader
last_document_first = other_bulks (λ bulks. reverse bulks)

-- the first header says a kind that no document is of
abbrev pub another_kind : Reader
another_kind = where_read (λ left. with_sheet left left.length (sets left.sheet count_width (2 ∷ [])))

abbrev pub a_byte_short : Reader
a_byte_short = where_read (λ left. with_sheet left (left.length - 1) left.sheet)

-- one sheet for every text
abbrev pub one_fixed_sheet : List ℕ → Reader
one_fixed_sheet sheet text space = record { number = 0; length = length sheet; at = 0; sheet = sheet }

-- ---- of the space

abbrev pub writes_before_it_refuses : Reader
writes_before_it_refuses text space =
    cond (eqb (the_reader text space).number 0) (the_reader text space) (with_sheet (the_reader text space) 0 (sets space 0 (1 ∷ [])))

abbrev pub writes_behind_the_sheet : Reader
writes_behind_the_sheet = where_read (λ left. with_sheet left left.length (sets left.sheet left.length (1 ∷ [])))

-- ---- which statement refuses which

pub record ReadersShutOut : Type 0 where
  pub refuses_all : AnswersAsWritten refuses_all → ⊥
  pub asks_for_space_first : AnswersAsWritten asks_for_space_first → ⊥
  pub tells_lack_first : AnswersAsWritten tells_lack_first → ⊥
  pub any_fixed_sheet : (sheet : List ℕ) → AnswersAsWritten (one_fixed_sheet sheet) → ⊥
  pub cuts_after_the_first : CutsBetweenDocuments stops_at_the_first outcome → ⊥
  pub stops_at_the_first : SheetHoldsDocuments stops_at_the_first → ⊥
  pub last_document_first : EveryDocumentTold last_document_first outcome → ⊥
  pub another_kind : ReadIsWhole another_kind outcome → ⊥
  pub a_byte_short : ReadIsWhole a_byte_short outcome → ⊥
  -- and one, handed out for a text that means no payment
  pub one_fixed_sheet : (sheet : List ℕ) × (TextsRunAsPromised (one_fixed_sheet sheet) outcome → ⊥)
  pub writes_before_it_refuses : KeepsTheSpace writes_before_it_refuses → ⊥
  pub writes_behind_the_sheet : KeepsTheSpace writes_behind_the_sheet → ⊥
