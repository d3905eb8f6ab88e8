-- Positions tried on cases of their reading, of room and of amounts moved: each table one statement. Assumes nothing.
use Rattle.std.proofs.Common.{◌≡◌, ℕ, ◌+◌, ◌-◌, ◌^◌, Bool, true, false, List, [], ◌∷◌, map, replicate, ℤ, pos, negsuc, refl}
use Rattle.wire.specs.Field.{bytes_of}
use Rattle.wire.specs.Written.{joined}
use Rattle.positions.specs.Positions.{fits, negative, signed, magnitude, room_for_all, gains, loses}
use Rattle.positions.proofs.Computing.{positions_compute}

-- ---- the reading: 64 bits, the whole number, whether it is below 0, what it lies away from it

record Reading : Type 0 where
  bits : ℕ
  whole : ℤ
  under : Bool
  away : ℕ

reading : ℕ → ℤ → Bool → ℕ → Reading
reading b w u a = record { bits = b; whole = w; under = u; away = a }

-- negsuc n is -(n + 1)
readings : List Reading
readings =
    reading 0 (pos 0) false 0
    ∷ reading 1 (pos 1) false 1
    ∷ reading (2 ^ 63 - 1) (pos 9223372036854775807) false 9223372036854775807
    ∷ reading (2 ^ 63) (negsuc 9223372036854775807) true 9223372036854775808
    ∷ reading (2 ^ 63 + 1) (negsuc 9223372036854775806) true 9223372036854775807
    ∷ reading (2 ^ 64 - 100) (negsuc 99) true 100
    ∷ reading (2 ^ 64 - 1) (negsuc 0) true 1
    ∷ []

readings_right : (map (λ q. signed q.bits) readings ≡ map (λ q. q.whole) readings) × (map (λ q. negative q.bits) readings ≡ map (λ q. q.under) readings) × (map (λ q. magnitude q.bits) readings ≡ map (λ q. q.away) readings)
unfolding readings reading
readings_right = (refl, refl, refl)

-- ---- as many as the rows: two of them, a byte more, a byte less

fits_right : map (λ n. fits (replicate n 7) 2) (15 ∷ 16 ∷ 17 ∷ 24 ∷ []) ≡ false ∷ true ∷ false ∷ false ∷ []
fits_right = refl

-- ---- room: the bits of each row, so many cents, and whether every row could take them

-- -n
minus : ℕ → ℕ
minus n = 2 ^ 64 - n

rows : List ℕ → List ℕ
rows held = joined (map (bytes_of 8) held)

record Asked : Type 0 where
  held : List ℕ
  cents : ℕ
  room : Bool

asked : List ℕ → ℕ → Bool → Asked
asked h c r = record { held = h; cents = c; room = r }

rooms : List Asked
rooms =
    asked [] (2 ^ 64 - 1) true
    ∷ asked (0 ∷ []) (10 ^ 18) true
    ∷ asked (0 ∷ []) (10 ^ 18 + 1) false
    ∷ asked (0 ∷ []) (2 ^ 64 - 1) false
    -- 10^18 in all, and one over, on both sides of 0
    ∷ asked (10 ^ 18 ∷ []) 0 true
    ∷ asked (10 ^ 18 ∷ []) 1 false
    ∷ asked ((10 ^ 18 + 1) ∷ []) 0 false
    ∷ asked ((10 ^ 18 - 5) ∷ []) 5 true
    ∷ asked ((10 ^ 18 - 5) ∷ []) 6 false
    ∷ asked (minus (10 ^ 18) ∷ []) 0 true
    ∷ asked (minus (10 ^ 18) ∷ []) 1 false
    ∷ asked (minus (10 ^ 18 + 1) ∷ []) 0 false
    ∷ asked (minus 1 ∷ []) (10 ^ 18 - 1) true
    ∷ asked (minus 1 ∷ []) (10 ^ 18) false
    -- the most negative position
    ∷ asked (2 ^ 63 ∷ []) 0 false
    -- one row without room is enough, wherever it stands
    ∷ asked (0 ∷ minus 7 ∷ 8 ∷ []) (10 ^ 18 - 8) true
    ∷ asked (0 ∷ minus 7 ∷ 8 ∷ []) (10 ^ 18 - 7) false
    ∷ asked (0 ∷ minus 8 ∷ 7 ∷ []) (10 ^ 18 - 7) false
    ∷ []

rooms_right : map (λ q. room_for_all (rows q.held) q.cents) rooms ≡ map (λ q. q.room) rooms
unfolding positions_compute rooms asked minus rows
rooms_right = refl

-- ---- an amount moved, of the second of three rows: what it holds, the cents, what it then holds if it gains them, if it loses them

record Move : Type 0 where
  held : ℕ
  cents : ℕ
  gained : ℕ
  lost : ℕ

move : ℕ → ℕ → ℕ → ℕ → Move
move h c g l = record { held = h; cents = c; gained = g; lost = l }

three : ℕ → List ℕ
three x = rows (5 ∷ x ∷ minus 5 ∷ [])

moves : List Move
moves =
    move 0 0 0 0
    ∷ move 0 100 100 (minus 100)
    ∷ move 100 100 200 0
    -- across 0, and onto it
    ∷ move 100 250 350 (minus 150)
    ∷ move (minus 100) 250 150 (minus 350)
    ∷ move (minus 100) 100 0 (minus 200)
    ∷ move (minus 1) 1 0 (minus 2)
    ∷ move 255 1 256 254
    ∷ []

moves_right : (map (λ q. gains (three q.held) 1 q.cents) moves ≡ map (λ q. three q.gained) moves)
    × (map (λ q. loses (three q.held) 1 q.cents) moves ≡ map (λ q. three q.lost) moves)
    × (map (λ q. gains (loses (three q.held) 1 q.cents) 1 q.cents) moves ≡ map (λ q. three q.held) moves)
unfolding positions_compute moves move three minus rows
moves_right = (refl, refl, refl)
