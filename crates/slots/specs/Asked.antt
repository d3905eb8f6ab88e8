-- What the functions on slots ask of their callers and tell them. Contract plumbing. Assumes nothing.
use Rattle.std.specs.Prelude.{ℕ, suc, ◌+◌, ◌-◌, ◌*◌, ◌/◌, ◌≤◌, ◌<◌, ◌≡◌, cond, List, [], ◌∷◌, eqb, length, take}
use Rattle.std.proofs.Math.Option.{Option, none, some}
use Rattle.slots.specs.Slots.{start_at, End, names}
use Rattle.slots.specs.Stored.{digits, slot_width, most_slots, slot_count, key_in}
use Rattle.slots.specs.declared.Layout.{Layout}
use Rattle.slots.specs.declared.Ended.{Ended}

-- the keys of the first bound records lie in the bytes
abbrev pub Within : Layout → List ℕ → ℕ → Type 0
Within layout records bound = (k : ℕ) → k < bound → layout.first + layout.stride * k + layout.width ≤ length records

-- so many records have slots enough, and no byte is left over
pub record Sized (index : List ℕ) (m : ℕ) : Type 0 where
  pub whole : length index ≡ slot_width * slot_count index
  pub enough : m ≤ slot_count index

-- the front of a key: all but its last eight bytes or some more, so that what follows is whole fours and what is left over
abbrev pub front_width : Layout → ℕ
front_width layout = 4 * (layout.width / 4 - 2)

abbrev pub front_in : Layout → List ℕ → ℕ → List ℕ
front_in layout records k = take (front_width layout) (key_in layout records k)

-- what the front of record k comes to among n slots
abbrev pub front_at : Layout → List ℕ → ℕ → ℕ → ℕ
front_at layout records n k = start_at (digits (front_in layout records k)) n

-- record k lies in the bytes with those before it, and what the front of the one before it comes to is known
pub record Behind (layout : Layout) (records : List ℕ) (n k front : ℕ) : Type 0 where
  pub within : Within layout records (k + 1)
  pub small : n ≤ most_slots
  pub last : 0 < k → front ≡ front_at layout records n (k - 1)

-- some bytes of a key were taken in
pub record Begun (key : List ℕ) (n i v : ℕ) : Type 0 where
  pub small : n ≤ most_slots
  pub inside : i ≤ length key
  pub rest : v ≡ start_at (digits (take i key)) n

abbrev pub end_of : Ended → End
end_of e = record { place = e.place; name = e.name; read = e.read }

-- the slots that are not empty
unfoldable pub taken : List ℕ → ℕ
taken [] = 0
taken (x ∷ xs) = cond (eqb x 0) (taken xs) (suc (taken xs))

-- the record that a slot's content names among the first bound ones, if it names one
abbrev pub named_by : ℕ → ℕ → Option ℕ
named_by bound name = cond (names bound name) (some (name - 1)) none
