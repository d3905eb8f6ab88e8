-- The bulks that documents can carry: each limit is one of the reader's own (`NothingElse`), and they are exactly those that can be read (`ExactlyThese`).
-- Assumes nothing.
use Rattle.std.specs.Prelude.{ℕ, zero, suc, ◌^◌, ◌<◌, ◌≡◌, Bool, true, not, ◌&&◌, ◌||◌, List, [], ◌∷◌, eqb, length, drop, replicate}
use Rattle.wire.specs.Field.{Bytes}
use Rattle.sheet.specs.Sheet.{Bulk, header_width, message_width, reason_width, name_width, payment_kind, known_kind, kind_of, bulk_identifier_of, sender_of, stated_number_of, stated_sum_of, value_date_of, marks_of, identifier_of, receiver_of, amount_of, original_of, reason_of, name_of}
use Rattle.letters.specs.Characters.{width_at}
use Rattle.documents.specs.Amounts.{carried_amount}

-- ---- texts: characters of XML in UTF-8 and nothing else

-- at most n of them
unfoldable pub characters_by : ℕ → List ℕ → Bool
characters_by zero t = eqb (length t) 0
characters_by (suc n) t = eqb (length t) 0 || (not (eqb (width_at t 0) 0) && characters_by n (drop (width_at t 0) t))

-- each takes a byte or more
abbrev pub characters : List ℕ → Bool
characters t = characters_by (length t) t

-- ---- a header: the stated number has at most 15 digits, the date at most 8, and there are three marks

pub record CarriedHeader (header : List ℕ) : Type 0 where
  pub width : length header ≡ header_width
  pub bytes : Bytes header
  pub kind : known_kind (kind_of header) ≡ true
  pub identifier : characters (bulk_identifier_of header) ≡ true
  pub sender : characters (sender_of header) ≡ true
  pub number : stated_number_of header < 10 ^ 15
  pub sum : carried_amount (stated_sum_of header) ≡ true
  pub date : value_date_of header < 10 ^ 8
  pub marks : marks_of header < 8

-- ---- a message of a bulk of a kind

-- what a payment does not tell
pub record NoOriginal (message : List ℕ) : Type 0 where
  pub amount : original_of message ≡ 0
  pub reason : reason_of message ≡ replicate reason_width 32
  pub name : name_of message ≡ replicate name_width 32

pub record CarriedMessage (kind : ℕ) (message : List ℕ) : Type 0 where
  pub width : length message ≡ message_width kind
  pub bytes : Bytes message
  pub identifier : characters (identifier_of message) ≡ true
  pub receiver : characters (receiver_of message) ≡ true
  pub amount : carried_amount (amount_of message) ≡ true
  pub original : carried_amount (original_of message) ≡ true
  pub reason : characters (reason_of message) ≡ true
  pub name : characters (name_of message) ≡ true
  pub payment : kind ≡ payment_kind → NoOriginal message

unfoldable pub CarriedMessages : ℕ → List (List ℕ) → Type 0
CarriedMessages kind [] = Unit {0}
CarriedMessages kind (m ∷ ms) = CarriedMessage kind m × CarriedMessages kind ms

-- ---- bulks, as many as a count of four bytes tells

pub record CarriedBulk (bulk : Bulk) : Type 0 where
  pub header : CarriedHeader bulk.header
  pub messages : CarriedMessages (kind_of bulk.header) bulk.messages
  pub few : length bulk.messages < 2 ^ 32

unfoldable pub CarriedEach : List Bulk → Type 0
CarriedEach [] = Unit {0}
CarriedEach (b ∷ bs) = CarriedBulk b × CarriedEach bs

pub record Carried (bulks : List Bulk) : Type 0 where
  pub each : CarriedEach bulks
  pub some : 0 < length bulks
  pub few : length bulks < 2 ^ 32
