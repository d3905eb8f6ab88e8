-- The index tried on cases of building, of the search and of adding: each table one statement. The registers have three places, so six
-- slots; a key of zeros with last byte b comes to b, and its search starts at slot b of 6. Assumes nothing.
use mathlib.Core.Path.{◌≡◌, refl}
use mathlib.Core.Bool.{Bool, true, false}
use mathlib.Core.List.{List, [], ◌∷◌, ◌++◌, map}
use Prim.Native.Nat.{ℕ}
use lib.ListN.{replicate}
use Rattle.wire.specs.Field.{bytes_of}
use Rattle.wire.specs.Written.{joined}
use Rattle.slots.specs.Slots.{End, names}
use Rattle.slots.specs.Stored.{slot_width, added}
use Rattle.register.specs.Register.{tag_place, used, in_use, stands, add}
use Rattle.register.specs.Written.{register_bytes}
use Rattle.index.specs.Index.{searched_by, index_of, end_in}
use Rattle.index.specs.Searches.{Search, slots_read_by, most_read}
use Rattle.index.proofs.Computing.{index_computes}

last : ℕ → List ℕ
last b = replicate tag_place 0 ++ (b ∷ [])

-- the entries in use, and the places left
register : List ℕ → ℕ → List ℕ
register bs free = register_bytes (map last bs) free

-- an index, by what its slots hold
index : List ℕ → List ℕ
index names = joined (map (bytes_of slot_width) names)

-- ---- building

record Built : Type 0 where
  keys : List ℕ
  free : ℕ
  slots : List ℕ

build : List ℕ → ℕ → List ℕ → Built
build ks n s = record { keys = ks; free = n; slots = s }

builds : List Built
builds =
    build [] 3 (0 ∷ 0 ∷ 0 ∷ 0 ∷ 0 ∷ 0 ∷ [])
    ∷ build (3 ∷ []) 2 (0 ∷ 0 ∷ 0 ∷ 1 ∷ 0 ∷ 0 ∷ [])
    -- each where it starts, and the second of two that start at one slot behind the first
    ∷ build (2 ∷ 0 ∷ 1 ∷ []) 0 (2 ∷ 3 ∷ 1 ∷ 0 ∷ 0 ∷ 0 ∷ [])
    ∷ build (2 ∷ 8 ∷ []) 1 (0 ∷ 0 ∷ 1 ∷ 2 ∷ 0 ∷ 0 ∷ [])
    -- all three start at one slot, and round the end there are more
    ∷ build (4 ∷ 10 ∷ 16 ∷ []) 0 (3 ∷ 0 ∷ 0 ∷ 0 ∷ 1 ∷ 2 ∷ [])
    -- one that starts where another was pushed to goes on
    ∷ build (4 ∷ 10 ∷ 5 ∷ []) 0 (3 ∷ 0 ∷ 0 ∷ 0 ∷ 1 ∷ 2 ∷ [])
    -- one key twice is named once, by the first that has it
    ∷ build (5 ∷ 11 ∷ 5 ∷ []) 0 (2 ∷ 0 ∷ 0 ∷ 0 ∷ 0 ∷ 1 ∷ [])
    ∷ build (5 ∷ 5 ∷ 11 ∷ []) 0 (3 ∷ 0 ∷ 0 ∷ 0 ∷ 0 ∷ 1 ∷ [])
    -- no places, no slots
    ∷ build [] 0 []
    ∷ []

builds_right : map (λ q. index_of (register q.keys q.free)) builds ≡ map (λ q. index q.slots) builds
unfolding index_computes builds build register last index
builds_right = refl

-- ---- the search, where the slots hold 3 0 0 0 1 2

record Looked : Type 0 where
  looked : List ℕ
  place : ℕ
  name : ℕ
  read : ℕ
  found : Bool

look : List ℕ → ℕ → ℕ → ℕ → Bool → Looked
look k p n r f = record { looked = k; place = p; name = n; read = r; found = f }

told : Looked → End
told q = record { place = q.place; name = q.name; read = q.read }

searches : List Looked
searches =
    look (last 4) 4 1 1 true
    ∷ look (last 10) 5 2 2 true
    ∷ look (last 16) 0 3 3 true
    -- not there: past all three, past two, past one, and at once
    ∷ look (last 22) 1 0 4 false
    ∷ look (last 5) 1 0 3 false
    ∷ look (last 0) 1 0 2 false
    ∷ look (last 1) 1 0 1 false
    ∷ look (last 3) 3 0 1 false
    -- the byte before the last counts 257, which starts at slot 5, and the first of all 257 to the 43rd power: at slot 5 too
    ∷ look (replicate 42 0 ++ (1 ∷ 0 ∷ [])) 1 0 3 false
    ∷ look (1 ∷ replicate tag_place 0) 1 0 3 false
    -- the bytes of the second key in another order: 2570, which starts at slot 2
    ∷ look (replicate 42 0 ++ (10 ∷ 0 ∷ [])) 2 0 1 false
    -- no key, and one as of the second entry without its first byte
    ∷ look [] 1 0 2 false
    ∷ look (replicate 42 0 ++ (10 ∷ [])) 1 0 4 false
    ∷ []

full : List ℕ
full = register (4 ∷ 10 ∷ 16 ∷ []) 0

searches_right : map (λ q. end_in full q.looked) searches ≡ map told searches
unfolding index_computes searches look told full register last
searches_right = refl

found_right : (map (λ q. names (in_use full) (end_in full q.looked).name) searches ≡ map (λ q. q.found) searches) × (map (λ q. stands full q.looked) searches ≡ map (λ q. q.found) searches)
unfolding index_computes searches look full register last
found_right = (refl, refl)

-- so many slots are read in all, of so many at most; by the plain search none
searched : List Search
searched = map (λ q. record { register = full; key = q.looked }) searches

read_right : (slots_read_by true searched ≡ 30) × (slots_read_by false searched ≡ 0) × (most_read searched ≡ 52)
unfolding index_computes searched searches look full register last
read_right = (refl, refl, refl)

-- ---- the search in other indexes, which need not be the register's own

record Sought : Type 0 where
  keys : List ℕ
  free : ℕ
  slots : List ℕ
  looked : List ℕ
  place : ℕ
  name : ℕ
  read : ℕ

seek : List ℕ → ℕ → List ℕ → ℕ → ℕ → ℕ → ℕ → Sought
seek ks f s b p n r = record { keys = ks; free = f; slots = s; looked = last b; place = p; name = n; read = r }

ended : Sought → End
ended q = record { place = q.place; name = q.name; read = q.read }

seeks : List Sought
seeks =
    -- nothing in use
    seek [] 3 (0 ∷ 0 ∷ 0 ∷ 0 ∷ 0 ∷ 0 ∷ []) 4 4 0 1
    -- no slots
    ∷ seek [] 0 [] 4 0 0 0
    ∷ seek (4 ∷ []) 0 [] 4 0 0 0
    -- a slot that names an entry not in use counts as empty: the search stops there, though the key is named behind it
    ∷ seek (4 ∷ 10 ∷ []) 1 (2 ∷ 0 ∷ 0 ∷ 0 ∷ 1 ∷ 3 ∷ []) 10 5 3 2
    ∷ seek (4 ∷ 10 ∷ 16 ∷ []) 0 (0 ∷ 0 ∷ 0 ∷ 0 ∷ 4 ∷ 1 ∷ []) 4 4 4 1
    ∷ seek (4 ∷ 10 ∷ 16 ∷ []) 0 (0 ∷ 0 ∷ 0 ∷ 0 ∷ 3 ∷ 1 ∷ []) 4 5 1 2
    -- and so where nothing is in use
    ∷ seek [] 3 (0 ∷ 0 ∷ 0 ∷ 0 ∷ 1 ∷ 0 ∷ []) 4 4 1 1
    -- every slot taken, and none of them names the key
    ∷ seek (4 ∷ 10 ∷ 16 ∷ []) 0 (1 ∷ 2 ∷ 3 ∷ 1 ∷ 2 ∷ 3 ∷ []) 22 6 0 6
    -- the last slot read is the one before the start
    ∷ seek (4 ∷ 10 ∷ 16 ∷ []) 0 (1 ∷ 2 ∷ 1 ∷ 3 ∷ 1 ∷ 2 ∷ []) 16 3 3 6
    -- the first byte of a slot counts the most
    ∷ seek (4 ∷ 10 ∷ 16 ∷ []) 0 (0 ∷ 0 ∷ 0 ∷ 0 ∷ 16777216 ∷ 1 ∷ []) 4 4 16777216 1
    ∷ []

seeks_right : map (λ q. searched_by (register q.keys q.free) (index q.slots) q.looked) seeks ≡ map ended seeks
unfolding index_computes seeks seek ended register last index
seeks_right = refl

-- ---- adding: a key that is there, one that is not, and one past a slot that counts as empty

record Added : Type 0 where
  keys : List ℕ
  free : ℕ
  slots : List ℕ
  key : ℕ
  then : List ℕ

adds : List ℕ → ℕ → List ℕ → ℕ → List ℕ → Added
adds ks f s b t = record { keys = ks; free = f; slots = s; key = b; then = t }

additions : List Added
additions =
    adds (4 ∷ 10 ∷ []) 1 (0 ∷ 0 ∷ 0 ∷ 0 ∷ 1 ∷ 2 ∷ []) 16 (3 ∷ 0 ∷ 0 ∷ 0 ∷ 1 ∷ 2 ∷ [])
    ∷ adds (4 ∷ 10 ∷ []) 1 (0 ∷ 0 ∷ 0 ∷ 0 ∷ 1 ∷ 2 ∷ []) 10 (0 ∷ 0 ∷ 0 ∷ 0 ∷ 1 ∷ 2 ∷ [])
    ∷ adds [] 3 (0 ∷ 0 ∷ 0 ∷ 0 ∷ 0 ∷ 0 ∷ []) 5 (0 ∷ 0 ∷ 0 ∷ 0 ∷ 0 ∷ 1 ∷ [])
    ∷ adds (4 ∷ 10 ∷ []) 1 (7 ∷ 0 ∷ 0 ∷ 0 ∷ 1 ∷ 2 ∷ []) 16 (3 ∷ 0 ∷ 0 ∷ 0 ∷ 1 ∷ 2 ∷ [])
    -- all taken, and no slots at all
    ∷ adds (4 ∷ 10 ∷ 16 ∷ []) 0 (1 ∷ 2 ∷ 3 ∷ 1 ∷ 2 ∷ 3 ∷ []) 22 (1 ∷ 2 ∷ 3 ∷ 1 ∷ 2 ∷ 3 ∷ [])
    ∷ adds [] 0 [] 4 []
    ∷ []

additions_right : map (λ q. (let r = register q.keys q.free in added (searched_by r (index q.slots) (last q.key)) (used r) (index q.slots))) additions ≡ map (λ q. index q.then) additions
unfolding index_computes additions adds register last index
additions_right = refl

-- and in its own index, the one of the register to which the key was added
added_right : added (end_in (register (4 ∷ 10 ∷ []) 1) (last 16)) 2 (index_of (register (4 ∷ 10 ∷ []) 1)) ≡ index_of (add (register (4 ∷ 10 ∷ []) 1) (last 16))
unfolding index_computes register last
added_right = refl
