-- What the functions of src/twice.rt say to each other: what is kept of a block of attributes, and what it comes to. No public contract names
-- these. Assumes nothing.
use Rattle.std.specs.Prelude.{ℕ, zero, suc, ◌+◌, ◌*◌, ◌%◌, ◌≤◌, ◌<◌, min, ◌≡◌, Bool, false, cond, ◌||◌, List, [], ◌∷◌, length, get_or, set, Ok, Err}
use Rattle.wire.specs.Field.{same}
use Rattle.letters.specs.Places.{byte_at, going, walk, Reach}
use Rattle.letters.specs.declared.Turn.{Turn}
use Rattle.letters.specs.declared.Turn.TheVariants.{On, Ends, Breaks}
use Rattle.tags.specs.Names.{is_space, name_start, space_end, name_at}
use Rattle.tags.specs.declared.twice.Kept.{Kept}
use Rattle.tags.specs.Attributes.{attribute_at, some_attribute, attribute_turn, attributes_at}

-- how many attributes a block has
abbrev pub block : ℕ
block = 256

-- how many slots there are for the marks of a block
abbrev pub slots : ℕ
slots = 2048

-- a number that depends on a name alone, so that equal names have equal ones
unfoldable pub mark_from : ℕ → List ℕ → ℕ
mark_from v [] = v
mark_from v (b ∷ bs) = mark_from (v % 72057594037927936 * 251 + b) bs

abbrev pub mark_at : List ℕ → ℕ → ℕ
mark_at s at = mark_from 0 (name_at s at)

-- the test holds of one of the first n places
unfoldable pub some_of : (ℕ → Bool) → List ℕ → ℕ → Bool
some_of test places zero = false
some_of test places (suc n) = some_of test places n || test (get_or places n 0)

-- the name at place at stands at one of the first n places too
abbrev pub among : List ℕ → List ℕ → ℕ → ℕ → Bool
among s places n at = some_of (λ k. same (name_at s k) (name_at s at)) places n

-- a turn among attributes, with any test of whether a name stood before
unfoldable pub turn_by : (ℕ → Bool) → List ℕ → ℕ → Turn
turn_by twice s at =
    cond (is_space (byte_at s at))
    (cond (name_start (byte_at s (space_end s at)))
    (cond (twice (space_end s at)) (Breaks (space_end s at)) (going (attribute_at s (space_end s at))))
    (Ends (space_end s at)))
    (Ends at)

-- the first place at which one of two walks over the same attributes breaks
unfoldable pub sooner : Reach → Reach → Reach
sooner (Ok e) r = r
sooner (Err p) (Ok e) = Err p
sooner (Err p) (Err q) = Err (min p q)

-- what is kept with the attribute that follows the spaces at place at, behind the first n
abbrev pub keeping : List ℕ → ℕ → ℕ → Kept → Kept
keeping s n at kept = record {
  places = set kept.places n (space_end s at);
  marks = set kept.marks n (mark_at s (space_end s at));
  seen = set kept.seen (mark_at s (space_end s at) % slots) 1;
}

-- beside each of the first n places stands the mark of its name, and its slot is taken
pub record Marked (s : List ℕ) (kept : Kept) (n : ℕ) : Type 0 where
  pub room : n ≤ length kept.places
  pub beside : n ≤ length kept.marks
  pub marked : (j : ℕ) → j < n → get_or kept.marks j 0 ≡ mark_at s (get_or kept.places j 0)
  pub sized : length kept.seen ≡ slots
  pub taken : (j : ℕ) → j < n → get_or kept.seen (mark_at s (get_or kept.places j 0) % slots) 0 ≡ 1

-- the first n places are those of the attributes between two places, of which no two have one name
pub record Held (s : List ℕ) (from at : ℕ) (kept : Kept) (n : ℕ) : Type 0 where
  pub marks_held : Marked s kept n
  pub onward : from + n ≤ at
  pub inside : 0 < n → from < length s
  pub left : walk (attribute_turn s from) s at ≡ attributes_at s from
  pub covered : (test : ℕ → Bool) (end : ℕ) → at ≤ end → some_attribute test s from end ≡ (some_of test kept.places n || some_attribute test s at end)

-- a block is full, or the attributes end or break before it is
abbrev pub Filled : List ℕ → ℕ → Kept → Turn → Type 0
Filled s from kept (On at) = Held s from at kept block
Filled s from kept (Ends e) = attributes_at s from ≡ Ok e
Filled s from kept (Breaks p) = attributes_at s from ≡ Err p
