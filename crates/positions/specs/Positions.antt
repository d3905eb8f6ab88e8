-- The positions of the table's rows: signed cents in two's complement, eight bytes each. Assumes nothing.
use Rattle.std.specs.Prelude.{ℕ, ◌+◌, ◌-◌, ◌*◌, ◌/◌, ◌^◌, ◌≤◌, Bool, cond, not, List, length, ℤ, pos, ◌-ℤ◌, ◌==◌, nat_le, nat_lt}
use Rattle.std.proofs.Math.Option.{Option, none, some}
use Rattle.std.proofs.lemmas.List.Edits.{sets}
use Rattle.wire.specs.Field.{number_at, bytes_of}
use Rattle.wire.specs.Places.{every_from}

abbrev pub position_width : ℕ
position_width = 8

abbrev pub position_place : ℕ → ℕ
position_place i = position_width * i

-- row i lies in the positions
abbrev pub HasRow : List ℕ → ℕ → Type 0
HasRow positions i = position_place i + position_width ≤ length positions

-- the whole rows that they hold, and that they are those of so many rows
abbrev pub rows : List ℕ → ℕ
rows positions = length positions / position_width

abbrev pub fits : List ℕ → ℕ → Bool
fits positions n = length positions == position_width * n

-- the position of row i, as its 64 bits
abbrev pub position_at : List ℕ → ℕ → ℕ
position_at positions i = number_at positions (position_place i) position_width

-- ---- 64 bits in two's complement: the upper half of them stands for what they lack to 2 ^ 64, below 0

abbrev pub negative : ℕ → Bool
negative bits = not (nat_lt bits (2 ^ 63))

-- the whole number that they stand for
abbrev pub signed : ℕ → ℤ
signed bits = cond (negative bits) (pos bits -ℤ pos (2 ^ 64)) (pos bits)

-- what it lies away from 0
abbrev pub magnitude : ℕ → ℕ
magnitude bits = cond (negative bits) (2 ^ 64 - bits) bits

-- ---- room

-- what no position may come to pass
abbrev pub most_position : ℕ
most_position = 10 ^ 18

-- row i could take so many cents more, either way
abbrev pub has_room : List ℕ → ℕ → ℕ → Bool
has_room positions cents i = nat_le (magnitude (position_at positions i) + cents) most_position

unfoldable pub room_for_all : List ℕ → ℕ → Bool
room_for_all positions cents = every_from (has_room positions cents) (rows positions) 0

-- ---- payments

-- row i with so many cents more, or less: bytes_of drops what passes 64 bits, as two's complement does
unfoldable pub gains : List ℕ → ℕ → ℕ → List ℕ
gains positions i cents = sets positions (position_place i) (bytes_of position_width (position_at positions i + cents))

unfoldable pub loses : List ℕ → ℕ → ℕ → List ℕ
loses positions i cents = sets positions (position_place i) (bytes_of position_width (position_at positions i + (2 ^ 64 - cents)))

-- a payment from one row to another, or to itself, where both were found
abbrev pub pays : List ℕ → Option ℕ → Option ℕ → ℕ → List ℕ
pays positions none to cents = positions
pays positions (some from) none cents = positions
pays positions (some from) (some to) cents = gains (loses positions from cents) to cents
