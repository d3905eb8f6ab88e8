-- The register of used identifiers: its layout, when it is well formed, what stands in it, and adding a key. Assumes nothing.
use Rattle.std.specs.Prelude.{ℕ, zero, suc, ◌+◌, ◌-◌, ◌*◌, ◌/◌, min, Bool, true, false, ◌&&◌, ◌||◌, List, [], ◌∷◌, ◌++◌, map, length, take, leb, eqb}
use Rattle.std.proofs.Math.Option.{Option, none, some}
use Rattle.std.proofs.lemmas.List.Edits.{sets}
use Rattle.wire.specs.Field.{part, number_at, bytes_of, same}
use Rattle.wire.specs.Places.{first_from}

-- ---- a key, which is looked for: sender, identifier, tag

abbrev pub sender_width : ℕ
sender_width = 8

abbrev pub identifier_width : ℕ
identifier_width = 35

abbrev pub tag_place : ℕ
tag_place = sender_width + identifier_width

abbrev pub key_width : ℕ
key_width = tag_place + 1

abbrev pub message_tag : ℕ
message_tag = 1

abbrev pub bulk_tag : ℕ
bulk_tag = 2

abbrev pub key : List ℕ → List ℕ → ℕ → List ℕ
key sender identifier tag = sender ++ identifier ++ (tag ∷ [])

-- ---- an entry, which is stored for a key and begins with it: nothing more is stored

abbrev pub entry_width : ℕ
entry_width = key_width

unfoldable pub entry : List ℕ → List ℕ
entry key = key

abbrev pub key_in : List ℕ → List ℕ
key_in stored = take key_width stored

-- ---- the number used, then room for whole entries

abbrev pub most_entries : ℕ
most_entries = 60000

abbrev pub used_width : ℕ
used_width = 4

abbrev pub used : List ℕ → ℕ
used register = number_at register 0 used_width

abbrev pub room : List ℕ → ℕ
room register = (length register - used_width) / entry_width

abbrev pub free : List ℕ → ℕ
free register = room register - used register

abbrev pub entry_place : ℕ → ℕ
entry_place k = used_width + entry_width * k

abbrev pub entry_at : List ℕ → ℕ → List ℕ
entry_at register k = part register (entry_place k) entry_width

abbrev pub key_at : List ℕ → ℕ → List ℕ
key_at register k = part register (entry_place k) key_width

-- refusal 4 is given exactly where this does not hold
unfoldable pub well_formed : List ℕ → Bool
well_formed register =
    leb used_width (length register)
    && eqb (length register) (used_width + entry_width * room register)
    && leb (room register) most_entries
    && leb (used register) (room register)

-- ---- what stands in it

-- the entries in use: no more than there is room for
abbrev pub in_use : List ℕ → ℕ
in_use register = min (used register) (room register)

-- the first k entries, in order
unfoldable pub entries_to : List ℕ → ℕ → List (List ℕ)
entries_to register zero = []
entries_to register (suc k) = entries_to register k ++ (entry_at register k ∷ [])

-- those in use, and their keys
abbrev pub entries_of : List ℕ → List (List ℕ)
entries_of register = entries_to register (in_use register)

abbrev pub keys_of : List ℕ → List (List ℕ)
keys_of register = map key_in (entries_of register)

-- the key is one of those listed
unfoldable pub listed : List (List ℕ) → List ℕ → Bool
listed [] key = false
listed (k ∷ ks) key = same k key || listed ks key

-- the place of the first entry in use that has the key, all its bytes
unfoldable pub search : List ℕ → List ℕ → Option ℕ
search register key = first_from (λ k. same (key_at register k) key) (in_use register) 0

abbrev pub is_there : Option ℕ → Bool
is_there none = false
is_there (some k) = true

unfoldable pub stands : List ℕ → List ℕ → Bool
stands register key = is_there (search register key)

-- ---- a key added: its entry is written to the first place not in use, which comes into use
unfoldable pub add : List ℕ → List ℕ → List ℕ
add register key = sets (sets register (entry_place (used register)) (entry key)) 0 (bytes_of used_width (used register + 1))
