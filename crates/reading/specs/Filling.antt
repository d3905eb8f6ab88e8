-- What the functions of the second reading ask and tell. Assumes nothing.
use Rattle.std.specs.Prelude.{ℕ, ◌+◌, ◌*◌, ◌≤◌, ◌<◌, ◌≡◌, Bool, true, ◌||◌, List, ◌++◌, map, length, get_or, replicate, eqb, Result, Ok, Err}
use Rattle.std.proofs.lemmas.List.Edits.{sets}
use Rattle.wire.specs.Field.{bytes_of}
use Rattle.wire.specs.Written.{joined}
use Rattle.sheet.specs.Sheet.{count_width, header_width, Bulk}
use Rattle.letters.specs.Places.{Reach}
use Rattle.paths.specs.Roles as roles
use Rattle.records.specs.Records.{header_of, message_of}
use Rattle.elements.specs.declared.Stop.{Stop}
use Rattle.elements.specs.declared.Stop.TheVariants.{Form, Deep}
use Rattle.elements.specs.Forest.{Forest}
use Rattle.elements.specs.Grammar.{Parsed, read, broken, deep}
use Rattle.elements.specs.Questions.{place_in, messages_in}
use Rattle.reading.specs.Meaning.{places_in, bulk_in, bulks_in, sheet_in, all_countable}
use Rattle.reading.specs.Survey.{needed}
use Rattle.reading.specs.declared.filling.Put.{Put}

-- ---- notes

abbrev pub note_count : ℕ
note_count = 36

-- the fields of a message are the last six roles: they are forgotten before the next message is read
abbrev pub forgotten : List ℕ → List ℕ
forgotten notes = sets notes roles.identifier (replicate 6 0)

-- all other roles are noted from what was read
abbrev pub Carried : Forest → List ℕ → List ℕ → Type 0
Carried f before after = (k : ℕ) → 0 < k → k < roles.identifier → get_or after k 0 ≡ place_in k f (get_or before k 0)

abbrev pub HeaderNoted : Parsed → List ℕ → List ℕ → Type 0
HeaderNoted (read n f) before after = Carried f before after
HeaderNoted (broken p) before after = Unit {0}
HeaderNoted (deep p) before after = Unit {0}

-- ---- an element or a content

abbrev pub message_bytes : List ℕ → Forest → List ℕ
message_bytes s m = message_of s (places_in m)

abbrev pub messages_bytes : List ℕ → Forest → List ℕ
messages_bytes s f = joined (map (λ (m : Forest). message_bytes s m) (messages_in f))

-- something that can be read, with room for its messages from a place on; and all notes are there
pub record Ready (p : Parsed) (at : ℕ) (d notes : List ℕ) : Type 0 where
  pub end : ℕ
  pub forest : Forest
  pub was : p ≡ read end forest
  pub room : at + 81 * length (messages_in forest) ≤ length d
  pub sized : length notes ≡ note_count

-- where it ended, the place after the messages, and they are written
abbrev pub Filled : List ℕ → Parsed → ℕ → List ℕ → List ℕ → Put → Type 0
Filled s (read n f) at before after put =
    (put.next ≡ n) × (put.at ≡ at + 81 * length (messages_in f)) × (after ≡ sets before at (messages_bytes s f))
Filled s (broken p) at before after put = Unit {0}
Filled s (deep p) at before after put = Unit {0}

-- ---- places

abbrev pub place_of : Result ℕ Stop → ℕ
place_of (Ok n) = n
place_of (Err (Form p)) = p
place_of (Err (Deep p)) = p

abbrev pub reached_place : Reach → ℕ
reached_place (Ok n) = n
reached_place (Err p) = p

-- below these roles and no others there may be messages
abbrev pub busy : ℕ → Bool
busy role = eqb role roles.document || eqb role roles.payments || eqb role roles.returns

-- ---- a whole document

-- a section: how many messages, and those
abbrev pub section : Bulk → List ℕ
section b = bytes_of count_width (length b.messages) ++ joined b.messages

-- it stands in the text, was read, and has room for its messages behind its header
pub record Placed (s : List ℕ) (p : Parsed) (i h m : ℕ) (d : List ℕ) : Type 0 where
  pub inside : i < length s
  pub end : ℕ
  pub forest : Forest
  pub was : p ≡ read end forest
  pub apart : h + header_width ≤ m
  pub room : m + 4 + 81 * length (messages_in forest) ≤ length d

-- its header is written at one place, its section at another
abbrev pub PutWhole : List ℕ → Parsed → ℕ → ℕ → List ℕ → List ℕ → Put → Type 0
PutWhole s (read n f) h m before after put =
    (put.next ≡ n) × (put.at ≡ m + 4 + 81 * length (messages_in f)) × (after ≡ sets (sets before h (header_of s (places_in f))) m (section (bulk_in s f)))
PutWhole s (broken p) h m before after put = Unit {0}
PutWhole s (deep p) h m before after put = Unit {0}

-- ---- all documents

-- they were read, can be counted, and have room
pub record Fitting (s : List ℕ) (p : Parsed) (bulks : ℕ) (d : List ℕ) : Type 0 where
  pub end : ℕ
  pub forest : Forest
  pub was : p ≡ read end forest
  pub few : all_countable forest ≡ true
  pub number : bulks ≡ length (bulks_in s forest)
  pub room : 4 + needed forest ≤ length d

-- how long the sheet is, and it is written
abbrev pub PutSheet : List ℕ → Parsed → List ℕ → List ℕ → ℕ → Type 0
PutSheet s (read n f) before after r = (r ≡ length (sheet_in s f)) × (after ≡ sets before 0 (sheet_in s f))
PutSheet s (broken p) before after r = Unit {0}
PutSheet s (deep p) before after r = Unit {0}
