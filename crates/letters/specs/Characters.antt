-- Characters in UTF-8: those of XML. Assumes nothing.
use Rattle.std.specs.Prelude.{ℕ, ◌+◌, ◌/◌, ◌%◌, Bool, cond, not, ◌&&◌, ◌||◌, List, [], ◌∷◌, leb, ltb, eqb}
use Rattle.letters.specs.Places.{byte_at, within}

-- ---- by their numbers

-- tab, line feed, carriage return; then all but surrogates and the last two of the first plane
unfoldable pub is_character : ℕ → Bool
is_character c =
    eqb c 9 || eqb c 10 || eqb c 13
    || within 32 55295 c
    || within 57344 65533 c
    || within 65536 1114111 c

-- a later byte: six bits of the number, from a given one on
abbrev tailed : ℕ → ℕ → ℕ
tailed from c = 128 + c / from % 64

-- in UTF-8; of a number that is no character, whatever these sums come to
unfoldable pub encoded : ℕ → List ℕ
encoded c =
    cond (ltb c 128) (c ∷ [])
    (cond (ltb c 2048) ((192 + c / 64) ∷ tailed 1 c ∷ [])
    (cond (ltb c 65536) ((224 + c / 4096) ∷ tailed 64 c ∷ tailed 1 c ∷ [])
    ((240 + c / 262144 % 8) ∷ tailed 4096 c ∷ tailed 64 c ∷ tailed 1 c ∷ [])))

-- ---- by their bytes

abbrev pub later : ℕ → Bool
later b = within 128 191 b

-- one byte
abbrev pub single : ℕ → Bool
single a = eqb a 9 || eqb a 10 || eqb a 13 || within 32 127 a

-- two
abbrev pub double : ℕ → ℕ → Bool
double a b = within 194 223 a && later b

-- three: no number that two would hold, no surrogate, and neither of the last two
abbrev pub triple : ℕ → ℕ → ℕ → Bool
triple a b c =
    within 224 239 a && later b && later c
    && not (eqb a 224 && ltb b 160)
    && not (eqb a 237 && leb 160 b)
    && not (eqb a 239 && eqb b 191 && leb 190 c)

-- four: no number that three would hold, and none above 1,114,111
abbrev pub quadruple : ℕ → ℕ → ℕ → ℕ → Bool
quadruple a b c d =
    within 240 244 a && later b && later c && later d
    && not (eqb a 240 && ltb b 144)
    && not (eqb a 244 && leb 144 b)

-- how many bytes the character takes that these begin with; 0 where there is none
unfoldable pub width_of : ℕ → ℕ → ℕ → ℕ → ℕ
width_of a b c d =
    cond (single a) 1
    (cond (double a b) 2
    (cond (triple a b c) 3
    (cond (quadruple a b c d) 4 0)))

unfoldable pub width_at : List ℕ → ℕ → ℕ
width_at s at = width_of (byte_at s at) (byte_at s (at + 1)) (byte_at s (at + 2)) (byte_at s (at + 3))
