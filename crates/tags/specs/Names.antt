-- Names and spaces. Assumes nothing.
use Rattle.std.specs.Prelude.{ℕ, Bool, ◌||◌, List, eqb}
use Rattle.letters.specs.Places.{within, run_end, between}

-- space, tab, line feed, carriage return
unfoldable pub is_space : ℕ → Bool
is_space b = eqb b 32 || eqb b 9 || eqb b 10 || eqb b 13

-- A-Z a-z _ :
unfoldable pub name_start : ℕ → Bool
name_start b = within 65 90 b || within 97 122 b || eqb b 95 || eqb b 58

-- these, and 0-9 . -
unfoldable pub name_byte : ℕ → Bool
name_byte b = name_start b || within 48 57 b || eqb b 46 || eqb b 45

abbrev pub space_end : List ℕ → ℕ → ℕ
space_end s at = run_end is_space s at

abbrev pub name_end : List ℕ → ℕ → ℕ
name_end s at = run_end name_byte s at

-- the name that stands from place at on
abbrev pub name_at : List ℕ → ℕ → List ℕ
name_at s at = between s at (name_end s at)
