-- The lines that are printed of a report. Assumes nothing.
use Prim.Native.Char.{code}
use Rattle.std.specs.Prelude.{ℕ, cond, List, ◌++◌, map, eqb}
use Rattle.wire.specs.Field.{text, part}
use Rattle.wording.specs.Wording.{allowed, is_space, kept, trimmed}
use Rattle.decimals.specs.Decimal.{field, line_end}
use Rattle.report.specs.Line.{identifier_in, outcome_in, faults_in, totals_in}

-- a space that is not a trailing one prints _, a byte outside the set *
abbrev pub shown : ℕ → ℕ
shown c = cond (is_space c) (code "_") (cond (allowed c) c (code "*"))

-- an identifier without its trailing spaces; one of spaces only is one _
unfoldable pub identifier_text : List ℕ → List ℕ
identifier_text identifier = cond (eqb (kept identifier) 0) (text "_") (map shown (trimmed identifier))

-- what both kinds of line show: identifier, the outcome's letter, faults
unfoldable pub head_text : List ℕ → List ℕ → List ℕ
head_text letters line =
    text " " ++ identifier_text (identifier_in line) ++ text " " ++ part letters (outcome_in line) 1 ++ field (faults_in line)

-- accepted number and cents, rejected number and cents
unfoldable pub totals_text : List ℕ → List ℕ
totals_text line =
    let totals = totals_in line in
    field totals.accepted_number
    ++ field totals.accepted_cents
    ++ field totals.rejected_number
    ++ field totals.rejected_cents

-- accepted, partial or rejected
unfoldable pub bulk_text : List ℕ → List ℕ
bulk_text line = text "B" ++ head_text (text "APR") line ++ totals_text line ++ line_end

-- accepted, rejected or fallen
unfoldable pub message_text : List ℕ → List ℕ
message_text line = text "M" ++ head_text (text "ARF") line ++ line_end
