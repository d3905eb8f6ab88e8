-- How the characters of a text are written: as they stand, or by references. Assumes nothing.
use Rattle.std.specs.Prelude.{ℕ, zero, suc, ◌+◌, ◌*◌, ◌/◌, ◌%◌, Bool, cond, ◌||◌, List, [], ◌∷◌, ◌++◌, ltb, eqb, length, take, drop}
use Rattle.wire.specs.Field.{text}
use Rattle.letters.specs.Characters.{width_at}
use Rattle.decimals.specs.Decimal.{decimal}

-- as it stands; by its number, in decimal or hexadecimal digits; by its name, if it has one
pub data Way : Type 0 where
  itself : Way
  decimally : Way
  hexadecimally : Way
  by_name : Way

-- ---- by its number

abbrev pub decimal_reference : ℕ → List ℕ
decimal_reference c = text "&#" ++ (decimal c ++ text ";")

abbrev pub hexadecimal_digit : ℕ → ℕ
hexadecimal_digit d = cond (ltb d 10) (48 + d) (55 + d)

-- a number of at most k digits, without zeros in front
unfoldable pub hexadecimal_in : ℕ → ℕ → List ℕ
hexadecimal_in zero n = []
hexadecimal_in (suc k) n = cond (ltb n 16) (hexadecimal_digit n ∷ []) (hexadecimal_in k (n / 16) ++ (hexadecimal_digit (n % 16) ∷ []))

-- no character's number has more than six
abbrev pub hexadecimal_reference : ℕ → List ℕ
hexadecimal_reference c = text "&#x" ++ (hexadecimal_in 6 c ++ text ";")

-- ---- a character of one byte

-- '<', '&', '>' and a carriage return never stand as they are
abbrev pub referred : ℕ → Bool
referred c = eqb c 60 || eqb c 38 || eqb c 62 || eqb c 13

abbrev pub plainly : ℕ → List ℕ
plainly c = cond (referred c) (decimal_reference c) (c ∷ [])

abbrev pub named_or : List ℕ → ℕ → List ℕ
named_or other c =
    cond (eqb c 60) (text "&lt;")
    (cond (eqb c 62) (text "&gt;")
    (cond (eqb c 38) (text "&amp;")
    (cond (eqb c 39) (text "&apos;")
    (cond (eqb c 34) (text "&quot;")
    other))))

unfoldable pub spelled_by : Way → ℕ → List ℕ
spelled_by itself c = plainly c
spelled_by decimally c = decimal_reference c
spelled_by hexadecimally c = hexadecimal_reference c
spelled_by by_name c = named_or (plainly c) c

-- ---- a longer one

-- the number of a character, from its bytes in UTF-8
unfoldable pub number_in : List ℕ → ℕ
number_in [] = 0
number_in (a ∷ []) = a
number_in (a ∷ b ∷ []) = a % 32 * 64 + b % 64
number_in (a ∷ b ∷ c ∷ []) = a % 16 * 4096 + b % 64 * 64 + c % 64
number_in (a ∷ b ∷ c ∷ d ∷ more) = a % 8 * 262144 + b % 64 * 4096 + c % 64 * 64 + d % 64

-- none has a name
unfoldable pub long_by : Way → List ℕ → List ℕ
long_by itself bytes = bytes
long_by decimally bytes = decimal_reference (number_in bytes)
long_by hexadecimally bytes = hexadecimal_reference (number_in bytes)
long_by by_name bytes = bytes

-- ---- a text

-- a way for each place of a text, by what is left of it there: a character may be written one way here and another there
abbrev pub Spelling : Type 0
Spelling = List ℕ → Way

-- the first character, whose bytes b begins
abbrev pub first_by : Way → ℕ → List ℕ → List ℕ
first_by way b bs = cond (ltb b 128) (spelled_by way b) (long_by way (take (width_at (b ∷ bs) 0) (b ∷ bs)))

-- at most n characters
unfoldable pub spelled_in : Spelling → ℕ → List ℕ → List ℕ
spelled_in how zero t = []
spelled_in how (suc n) [] = []
spelled_in how (suc n) (b ∷ bs) = first_by (how (b ∷ bs)) b bs ++ spelled_in how n (drop (width_at (b ∷ bs) 0) (b ∷ bs))

-- each takes a byte or more
unfoldable pub spelled : Spelling → List ℕ → List ℕ
spelled how t = spelled_in how (length t) t

-- ---- three spellings

abbrev pub as_it_stands : Spelling
as_it_stands left = itself

abbrev pub by_numbers : Spelling
by_numbers left = decimally

abbrev pub by_names : Spelling
by_names left = by_name
