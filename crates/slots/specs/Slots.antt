-- An index over numbered keys, as a list of slots: 0 is an empty slot, k + 1 names key k. Where the search of a key ends, how many slots
-- it reads, and the index that is got by adding the keys in order. A key is any text, and what it comes to as a number, by which its
-- search starts, is left open: a register's keys and a table's are found alike. Assumes nothing.
use Rattle.std.specs.Prelude.{ℕ, zero, suc, ◌+◌, ◌-◌, ◌%◌, min, Bool, cond, not, ◌&&◌, ◌||◌, List, [], ◌∷◌, ◌++◌, length, take, drop, get_or, set, replicate, leb, ltb, eqb}
use Rattle.wire.specs.Field.{same}

-- ---- the order in which slots are read

-- where among n slots a key begins that comes to v; 0 if there are none
unfoldable pub start_at : ℕ → ℕ → ℕ
start_at v zero = 0
start_at v (suc n) = v % suc n

-- from slot s forward, round the end
abbrev pub turned : ℕ → List ℕ → List ℕ
turned s xs = drop s xs ++ take s xs

-- of n slots, the one that is looked at when p were, beginning with slot s; n stands for none, when all were
unfoldable pub place_after : ℕ → ℕ → ℕ → ℕ
place_after s p n = cond (ltb p n) (cond (ltb (s + p) n) (s + p) (s + p - n)) n

-- the slots in front of the first that a test picks out; all of them if it picks none
unfoldable pub passed : (ℕ → Bool) → List ℕ → ℕ
passed stops [] = 0
passed stops (x ∷ xs) = cond (stops x) 0 (suc (passed stops xs))

-- ---- a search among the first so many keys

-- what a slot holds names one of the first bound keys; any other slot counts as empty
unfoldable pub names : ℕ → ℕ → Bool
names bound x = not (eqb x 0) && leb x bound

-- the end of a search: the slot, its content, and the number of slots that were looked at, this one among them
pub record End : Type 0 where
  pub place : ℕ
  pub name : ℕ
  pub read : ℕ

unfoldable pub end_after : ℕ → List ℕ → ℕ → End
end_after s xs p = record { place = place_after s p (length xs); name = get_or (turned s xs) p 0; read = min (p + 1) (length xs) }

-- it stops at an empty slot, and at one that names the key looked for
unfoldable pub stops_at : (ℕ → List ℕ) → ℕ → List ℕ → ℕ → Bool
stops_at keys bound looked x = not (names bound x) || same (keys (x - 1)) looked

abbrev pub searched : (List ℕ → ℕ) → (ℕ → List ℕ) → ℕ → List ℕ → List ℕ → End
searched number keys bound looked xs =
    let s = start_at (number looked) (length xs) in end_after s xs (passed (stops_at keys bound looked) (turned s xs))

-- ---- the keys added in order

-- key k, once it was looked for among those before it: the slot where that came to its end now names it, if it was not there
abbrev pub placed : End → ℕ → List ℕ → List ℕ
placed e k xs = cond (names k e.name) xs (set xs e.place (k + 1))

-- the first k keys, added to n empty slots
unfoldable pub built_to : (List ℕ → ℕ) → (ℕ → List ℕ) → ℕ → ℕ → List ℕ
built_to number keys n zero = replicate n 0
built_to number keys n (suc k) = placed (searched number keys k (keys k) (built_to number keys n k)) k (built_to number keys n k)
