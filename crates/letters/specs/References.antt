-- References: what stands for a character. Assumes nothing.
use Rattle.std.specs.Prelude.{ℕ, ◌+◌, ◌*◌, ◌-◌, Bool, cond, List, [], ◌∷◌, length, ltb, eqb, Option, Some, None}
use Rattle.wire.specs.Field.{text, part, same}
use Rattle.letters.specs.Places.{byte_at, within, run_end, between}
use Rattle.letters.specs.Characters.{is_character}
use Rattle.letters.specs.declared.Reference.{Reference}

-- the reference to a character by its number, and the place after it
abbrev pub refers : ℕ → ℕ → Option Reference
refers c next = Some (record { character = c; next = next })

-- what a digit counts; 99 for what is none
unfoldable pub digit_of : ℕ → ℕ
digit_of b =
    cond (within 48 57 b) (b - 48)
    (cond (within 97 102 b) (b - 87)
    (cond (within 65 70 b) (b - 55) 99))

abbrev pub digit_in : ℕ → ℕ → Bool
digit_in base b = ltb (digit_of b) base

-- the number v, with the digits that follow it
unfoldable pub numeral_from : ℕ → ℕ → List ℕ → ℕ
numeral_from base v [] = v
numeral_from base v (b ∷ bs) = numeral_from base (v * base + digit_of b) bs

abbrev pub numeral : ℕ → List ℕ → ℕ
numeral base s = numeral_from base 0 s

-- a character's number and what is after it, where digits stand from one place up to another and a semicolon follows
abbrev pub numbered : ℕ → List ℕ → ℕ → ℕ → Option Reference
numbered base s from to =
    cond (ltb from to)
    (cond (eqb (byte_at s to) 59)
    (cond (is_character (numeral base (between s from to))) (refers (numeral base (between s from to)) (to + 1)) None)
    None)
    None

unfoldable pub numbered_at : ℕ → List ℕ → ℕ → Option Reference
numbered_at base s from = numbered base s from (run_end (digit_in base) s from)

-- the word stands at the place
abbrev pub stands : List ℕ → ℕ → List ℕ → Bool
stands s at word = same (part s at (length word)) word

unfoldable pub reference_at : List ℕ → ℕ → Option Reference
reference_at s at =
    cond (stands s at (text "&lt;")) (refers 60 (at + 4))
    (cond (stands s at (text "&gt;")) (refers 62 (at + 4))
    (cond (stands s at (text "&amp;")) (refers 38 (at + 5))
    (cond (stands s at (text "&apos;")) (refers 39 (at + 6))
    (cond (stands s at (text "&quot;")) (refers 34 (at + 6))
    (cond (stands s at (text "&#x")) (numbered_at 16 s (at + 3))
    (cond (stands s at (text "&#")) (numbered_at 10 s (at + 2))
    None))))))
