-- The bytes that most of a text is made of: what lets its end be found, and what it says, at one test for each. Assumes nothing.
use Rattle.std.specs.Prelude.{ℕ, Bool, not, ◌&&◌, ◌||◌, eqb}
use Rattle.letters.specs.Characters.{single}

-- a character of one byte that begins nothing else: not '<', '&' or ']'
abbrev pub plain : ℕ → Bool
plain b = single b && not (eqb b 60 || eqb b 38 || eqb b 93)

-- one that says itself, which a carriage return does not
abbrev pub straight : ℕ → Bool
straight b = plain b && not (eqb b 13)
