-- What a function that prints into a lent buffer tells. Assumes nothing.
use Rattle.std.specs.Prelude.{ℕ, ◌+◌, min, ◌≡◌, List, length}
use Rattle.std.proofs.lemmas.List.Edits.{sets}

-- the text stands in the buffer from place at on, as far as there is room, and the next place follows it
pub record Printed (before after : List ℕ) (at next : ℕ) (text : List ℕ) : Type 0 where
  pub bytes : after ≡ sets before at text
  pub place : next ≡ min (at + length text) (length before)
