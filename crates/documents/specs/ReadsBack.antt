-- The round trip: what is written of bulks, in any manner, is read as exactly their sheet. Assumes nothing.
use Rattle.std.specs.Prelude.{ℕ, ◌≤◌, ◌<◌, ◌≡◌, List, length, Ok, Err}
use Rattle.std.proofs.lemmas.List.Edits.{sets}
use Rattle.sheet.specs.Sheet.{Bulk}
use Rattle.sheet.specs.Written.{sheet_bytes}
use Rattle.reading.specs.Reading.{reads, outcome}
use Rattle.reading.specs.declared.Unread.TheVariants.{Short}
use Rattle.documents.specs.Carried.{Carried}
use Rattle.documents.specs.Documents.{Manner, documents_of}

-- into a space that is long enough: their sheet, with its length, and the bytes behind it as they were
abbrev pub ReadsBack : Type 0
ReadsBack = (manner : Manner) (bulks : List Bulk) (space : List ℕ) → Carried bulks
    → length (sheet_bytes bulks) ≤ length space
    → reads (documents_of manner bulks) space ≡ outcome (Ok (length (sheet_bytes bulks))) (sets space 0 (sheet_bytes bulks))

-- into one that is not: that answer, and every byte as it was
abbrev pub ToldShort : Type 0
ToldShort = (manner : Manner) (bulks : List Bulk) (space : List ℕ) → Carried bulks
    → length space < length (sheet_bytes bulks)
    → reads (documents_of manner bulks) space ≡ outcome (Err Short) space
