-- What the crates above cite of the two ways to search: the index that belongs beside a register, and how many slots a search may read.
-- Assumes nothing.
use mathlib.Core.Path.{◌≡◌, refl, sym}
use mathlib.Core.Bool.{Bool, true, false, cond}
use mathlib.Core.List.{List, [], ◌∷◌, ◌++◌}
use Prim.Native.Nat.{ℕ, ◌+◌, ◌*◌, ◌≤◌}
use native.Mathlib.Nat.{zero-add}
use native.Mathlib.Omega.{arith}
use lib.ListN.{length}
use Rattle.slots.specs.Stored.{most_slots}
use Rattle.slots.proofs.Laws.{stored_reads}
use Rattle.register.specs.Register.{in_use}
use Rattle.register.specs.Room.{Formed}
use Rattle.index.specs.Index.{entry_layout, index_of, end_in}
use Rattle.index.specs.Searches.{Search, slots_read, slots_read_by}
use Rattle.index.specs.Ready.{index_by, nowhere}

-- ---- the index beside a register

module _ (index index' r : List ℕ) where
  -- whatever was lent first
  pub index_then : (t : Bool) → index' ≡ index_by t index r → (r' : List ℕ) → index_by t index' r' ≡ index_by t index r'
  index_then true e r' = refl
  index_then false e r' = e

  pub index_own : (t : Bool) → index' ≡ index_by t index r → index' ≡ index_by t index' r
  index_own true e = e
  index_own false e = refl

-- ---- searches in registers that are well formed

unfoldable pub AllFormed : List Search → Type 0
AllFormed [] = Unit
AllFormed (s ∷ ss) = (Formed s.register) × (AllFormed ss)

-- ---- the slots that are read

pub read_of : (t : Bool) (s : Search) → (cond t (end_in s.register s.key) nowhere).read ≡ slots_read t s
read_of true s = refl
read_of false s = refl

read_few : (t : Bool) (s : Search) → slots_read t s ≤ most_slots
read_few true s = let all = stored_reads entry_layout s.register (in_use s.register) s.key (index_of s.register) in omega arith
read_few false s = omega arith

-- so no count of them passes 64 bits
pub reads_fit : (t : Bool) (ss : List Search) → slots_read_by t ss ≤ most_slots * length ss
unfolding slots_read_by
reads_fit t [] = omega arith
reads_fit t (s ∷ ss) = let one = read_few t s in let rest = reads_fit t ss in omega arith

pub reads_append : (t : Bool) (ss us : List Search) → slots_read_by t (ss ++ us) ≡ slots_read_by t ss + slots_read_by t us
unfolding slots_read_by
reads_append t [] us = sym (zero-add (slots_read_by t us))
reads_append t (s ∷ ss) us = let rest = reads_append t ss us in omega arith
