-- The searches that a judgement makes, and the slots that they read. Assumes nothing.
use Rattle.std.specs.Prelude.{ℕ, ◌+◌, Bool, cond, List, [], ◌∷◌}
use Rattle.register.specs.Register.{used}
use Rattle.index.specs.Index.{end_in}

-- the search of a key in a register
pub record Search : Type 0 where
  pub register : List ℕ
  pub key : List ℕ

-- the slots that it reads in the register's index, which the plain search does not
abbrev pub slots_read : Bool → Search → ℕ
slots_read indexed s = cond indexed (end_in s.register s.key).read 0

unfoldable pub slots_read_by : Bool → List Search → ℕ
slots_read_by indexed [] = 0
slots_read_by indexed (s ∷ ss) = slots_read indexed s + slots_read_by indexed ss

-- a slot for each entry used, and one
unfoldable pub most_read : List Search → ℕ
most_read [] = 0
most_read (s ∷ ss) = used s.register + 1 + most_read ss
