-- What the contracts say besides a function's value: facts that a crate above needs. Assumes nothing.
use Rattle.std.specs.Prelude.{ℕ, ◌+◌, ◌*◌, ◌≤◌, ◌≡◌, Bool, true, List, length}
use Rattle.register.specs.Register.{sender_width, identifier_width, used_width, entry_width, most_entries, room, used, free, well_formed}

pub record Formed (register : List ℕ) : Type 0 where
  pub whole : length register ≡ used_width + entry_width * room register
  pub few : room register ≤ most_entries
  pub within : used register ≤ room register

-- well formed, with so many places left at least
pub record Spare (register : List ℕ) (n : ℕ) : Type 0 where
  pub formed : Formed register
  pub left : n ≤ free register

pub record FormTold (register : List ℕ) (told : Bool) : Type 0 where
  pub is : told ≡ well_formed register
  pub formed : told ≡ true → Formed register

-- the parts that a key is put together from have their widths
pub record Parts (sender identifier : List ℕ) : Type 0 where
  pub sender_wide : length sender ≡ sender_width
  pub identifier_wide : length identifier ≡ identifier_width
