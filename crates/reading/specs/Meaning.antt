-- What the documents mean: the sheet, each document one bulk. Assumes nothing.
use Rattle.std.specs.Prelude.{ℕ, Bool, true, ◌&&◌, List, [], ◌∷◌, map, length, leb, ltb}
use Rattle.sheet.specs.Sheet.{Bulk}
use Rattle.sheet.specs.Written.{sheet_bytes}
use Rattle.records.specs.Records.{Places, header_of, message_of}
use Rattle.elements.specs.Forest.{Forest, none, tree}
use Rattle.elements.specs.Questions.{too_many, place_in, messages_in}

-- ---- a bulk

-- where each role is played
abbrev pub places_in : Forest → Places
places_in f role = place_in role f 0

-- from a document
abbrev pub bulk_in : List ℕ → Forest → Bulk
bulk_in s f = record { header = header_of s (places_in f); messages = map (λ (m : Forest). message_of s (places_in m)) (messages_in f) }

-- ---- the sheet

unfoldable pub bulks_in : List ℕ → Forest → List Bulk
bulks_in s none = []
bulks_in s (tree role place inner rest) = bulk_in s (tree role place inner none) ∷ bulks_in s rest

abbrev pub sheet_in : List ℕ → Forest → List ℕ
sheet_in s f = sheet_bytes (bulks_in s f)

-- ---- whether it can be written

-- a count takes four bytes
abbrev pub countable : ℕ → Bool
countable n = ltb n too_many

unfoldable pub all_countable : Forest → Bool
all_countable none = true
all_countable (tree role place inner rest) = countable (length (messages_in (tree role place inner none))) && all_countable rest

-- in a space of so many bytes
unfoldable pub fits_in : List ℕ → Forest → ℕ → Bool
fits_in s f space = countable (length (bulks_in s f)) && all_countable f && leb (length (sheet_in s f)) space
