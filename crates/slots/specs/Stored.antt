-- Slots in lent bytes, and keys in records: where each stands, a search, and the index of the first so many records. Every definition is
-- total. Assumes nothing.
use Rattle.std.specs.Prelude.{ℕ, zero, suc, ◌+◌, ◌*◌, ◌/◌, min, Bool, cond, List, [], ◌∷◌, length, replicate}
use Rattle.std.proofs.lemmas.List.Edits.{sets}
use Rattle.wire.specs.Field.{part, number_at, bytes_of}
use Rattle.slots.specs.Slots.{End, names, searched}
use Rattle.slots.specs.declared.Layout.{Layout}

-- ---- what a key comes to: its bytes read to base 257, the first the highest digit

-- the number v, with the digits that follow it
unfoldable pub digits_from : ℕ → List ℕ → ℕ
digits_from v [] = v
digits_from v (b ∷ bs) = digits_from (v * 257 + b) bs

abbrev pub digits : List ℕ → ℕ
digits key = digits_from 0 key

-- ---- slots of four bytes

abbrev pub slot_width : ℕ
slot_width = 4

-- with no more slots than these four digits of a key and a remainder are below 2^64
abbrev pub most_slots : ℕ
most_slots = 2147483648

-- the whole slots
abbrev pub slot_count : List ℕ → ℕ
slot_count index = min (length index / slot_width) most_slots

abbrev pub slot_at : List ℕ → ℕ → ℕ
slot_at index i = number_at index (slot_width * i) slot_width

-- n slots in a row, slot i the first
unfoldable pub slots_from : List ℕ → ℕ → ℕ → List ℕ
slots_from index zero i = []
slots_from index (suc n) i = slot_at index i ∷ slots_from index n (suc i)

abbrev pub slots_of : List ℕ → List ℕ
slots_of index = slots_from index (slot_count index) 0

abbrev pub put : List ℕ → ℕ → ℕ → List ℕ
put index place name = sets index (slot_width * place) (bytes_of slot_width name)

-- ---- keys in records

-- the key of record k
abbrev pub key_in : Layout → List ℕ → ℕ → List ℕ
key_in layout records k = part records (layout.first + layout.stride * k) layout.width

-- the search of a key among the first bound records
abbrev pub searched_in : Layout → List ℕ → ℕ → List ℕ → List ℕ → End
searched_in layout records bound looked index = searched digits (key_in layout records) bound looked (slots_of index)

-- record k, once its key was looked for
abbrev pub added : End → ℕ → List ℕ → List ℕ
added e k index = cond (names k e.name) index (put index e.place (k + 1))

-- the index of so many bytes that names the first k records
unfoldable pub built_in : Layout → List ℕ → ℕ → ℕ → List ℕ
built_in layout records bytes zero = replicate bytes 0
built_in layout records bytes (suc k) =
    added (searched_in layout records k (key_in layout records k) (built_in layout records bytes k)) k (built_in layout records bytes k)

-- the same of those among them that a test picks out; the others are in no slot
unfoldable pub picked_in : (ℕ → Bool) → Layout → List ℕ → ℕ → ℕ → List ℕ
picked_in picks layout records bytes zero = replicate bytes 0
picked_in picks layout records bytes (suc k) =
    let before = picked_in picks layout records bytes k in
    cond (picks k) (added (searched_in layout records k (key_in layout records k) before) k before) before
