-- The index of a register: two slots for each place, the search of a key in it, and the index that adding the entries in use in their order
-- makes. Assumes nothing.
use Rattle.std.specs.Prelude.{ℕ, ◌*◌, List}
use Rattle.slots.specs.Slots.{End}
use Rattle.slots.specs.Stored.{slot_width, searched_in, built_in}
use Rattle.slots.specs.declared.Layout.{Layout}
use Rattle.register.specs.Register.{key_width, entry_width, used_width, room, in_use}

-- where the keys of a register's entries stand
abbrev pub entry_layout : Layout
entry_layout = record { first = used_width; stride = entry_width; width = key_width }

abbrev pub slots_a_place : ℕ
slots_a_place = 2

-- refusal 12 is given exactly where the index has another length
abbrev pub index_length : List ℕ → ℕ
index_length register = slot_width * (slots_a_place * room register)

-- the search of a key among the entries in use
abbrev pub searched_by : List ℕ → List ℕ → List ℕ → End
searched_by register index key = searched_in entry_layout register (in_use register) key index

-- the entries in use, added in order to an empty index; refusal 13 is given exactly where the index is another
unfoldable pub index_of : List ℕ → List ℕ
index_of register = built_in entry_layout register (index_length register) (in_use register)

-- the search of a key in the register's index
abbrev pub end_in : List ℕ → List ℕ → End
end_in register key = searched_by register (index_of register) key
