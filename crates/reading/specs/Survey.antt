-- What the functions of the reader tell on the way. Assumes nothing.
use Rattle.std.specs.Prelude.{ℕ, ◌+◌, ◌*◌, ◌-◌, min, ◌≡◌, Bool, cond, ◌&&◌, List, length, leb, ltb, Option, Some, None, Result, Ok, Err}
use Rattle.elements.specs.declared.Stop.{Stop}
use Rattle.elements.specs.declared.Stop.TheVariants as stop
use Rattle.elements.specs.Forest.{Forest, none, tree}
use Rattle.elements.specs.Grammar.{Parsed, read, broken, deep}
use Rattle.elements.specs.Questions.{too_many, first_lack, messages_in}
use Rattle.reading.specs.Meaning.{countable, all_countable, bulks_in, fits_in}
use Rattle.reading.specs.declared.survey.Seen.{Seen}
use Rattle.reading.specs.declared.Unread.{Unread}
use Rattle.reading.specs.declared.Unread.TheVariants.{Form, Deep, Lack, Short}

-- why an element was not read is why no sheet is made
abbrev pub unread_of : Stop → Unread
unread_of (stop.Form p) = Form p
unread_of (stop.Deep p) = Deep p

-- ---- a document that was looked at

-- how many messages it has, as far as they can be counted
abbrev pub message_count : Forest → ℕ
message_count f = min (length (messages_in f)) too_many

abbrev pub Looked : Parsed → ℕ → Seen → Type 0
Looked (read n f) lack seen = (seen.lack ≡ first_lack f lack) × (seen.messages ≡ message_count f)
Looked (broken p) lack seen = Unit {0}
Looked (deep p) lack seen = Unit {0}

-- and where its reading ended
abbrev pub seen_to : Result Seen Stop → Result ℕ Stop
seen_to (Ok seen) = Ok seen.next
seen_to (Err e) = Err e

-- ---- the room that its bulk takes

-- a header, a count and the messages
abbrev pub cost : ℕ → ℕ
cost messages = 69 + 81 * messages

unfoldable pub needed : Forest → ℕ
needed none = 0
needed (tree role place inner rest) = cost (message_count (tree role place inner none)) + needed rest

-- there is room for a count and the bulks
abbrev pub enough : ℕ → Forest → Bool
enough space f = all_countable f && leb (4 + needed f) space

-- none where there was none, or too little, or the messages cannot be counted
abbrev pub taken_of : Option ℕ → ℕ → Option ℕ
taken_of None messages = None
taken_of (Some left) messages = cond (countable messages && leb (cost messages) left) (Some (left - cost messages)) None

-- ---- all documents

abbrev pub concluded : List ℕ → ℕ → Forest → Result ℕ Unread
concluded s space f =
    cond (ltb (first_lack f (length s)) (length s)) (Err (Lack (first_lack f (length s))))
    (cond (fits_in s f space) (Ok (length (bulks_in s f))) (Err Short))

abbrev pub survey_of : List ℕ → ℕ → Parsed → Result ℕ Unread
survey_of s space (read n f) = concluded s space f
survey_of s space (broken p) = Err (Form p)
survey_of s space (deep p) = Err (Deep p)
