-- How texts have to be worded: identifiers, BICs, blanks, reasons and names. Each is a test of its own, of any text. Assumes nothing.
use Prim.Native.Char.{Char, code}
use Rattle.std.specs.Prelude.{ℕ, suc, ◌-◌, Bool, false, cond, not, ◌&&◌, ◌||◌, List, [], ◌∷◌, length, get_or, take, leb, eqb}
use Rattle.wire.specs.Field.{text, same}
use Rattle.wire.specs.Places.{every_from}

-- ---- characters

abbrev pub between : Char → Char → ℕ → Bool
between low high c = leb (code low) c && leb c (code high)

abbrev pub upper : ℕ → Bool
upper c = between "A" "Z" c

abbrev pub lower : ℕ → Bool
lower c = between "a" "z" c

abbrev pub digit : ℕ → Bool
digit c = between "0" "9" c

abbrev pub upper_or_digit : ℕ → Bool
upper_or_digit c = upper c || digit c

abbrev pub space : ℕ
space = code " "

abbrev pub is_space : ℕ → Bool
is_space c = eqb c space

abbrev pub is_slash : ℕ → Bool
is_slash c = eqb c (code "/")

unfoldable pub among : ℕ → List ℕ → Bool
among c [] = false
among c (x ∷ xs) = eqb c x || among c xs

-- the characters of an identifier
unfoldable pub allowed : ℕ → Bool
allowed c = upper c || lower c || digit c || among c (text "/-?:().,'+ ")

-- s has at place i a character that passes the test. Past the end stands 0, which passes none of those above
abbrev pub has : (ℕ → Bool) → List ℕ → ℕ → Bool
has test s i = test (get_or s i 0)

-- at each place from the first given up to the second
abbrev pub every : (ℕ → Bool) → List ℕ → ℕ → ℕ → Bool
every test s from to = every_from (has test s) (to - from) from

-- ---- identifiers

-- how many characters are left when trailing spaces are dropped
unfoldable pub kept : List ℕ → ℕ
kept [] = 0
kept (c ∷ cs) = cond (eqb (kept cs) 0 && is_space c) 0 (suc (kept cs))

abbrev pub trimmed : List ℕ → List ℕ
trimmed s = take (kept s) s

abbrev pub most_characters : ℕ
most_characters = 35

-- a slash at place i is followed by no other
abbrev pub apart : List ℕ → ℕ → Bool
apart t i = not (has is_slash t i && has is_slash t (suc i))

-- each of the set, and no two slashes together
abbrev pub spelled : List ℕ → Bool
spelled t = every allowed t 0 (length t) && every_from (apart t) (length t) 0

-- of what is left: how many, of which set; the first no space; no slash first, none last, no two together
unfoldable pub formed : List ℕ → Bool
formed t =
    leb 1 (length t)
    && leb (length t) most_characters
    && every allowed t 0 (length t)
    && not (has is_space t 0)
    && not (has is_slash t 0)
    && not (has is_slash t (length t - 1))
    && every_from (apart t) (length t) 0

abbrev pub well_formed : List ℕ → Bool
well_formed s = formed (trimmed s)

unfoldable pub badly_formed : List ℕ → Bool
badly_formed s = not (well_formed s)

-- ---- BICs

-- 11 characters: capitals, at places 0 to 3 and 6 to 10 digits too
unfoldable pub bic_formed : List ℕ → Bool
bic_formed bic =
    eqb (length bic) 11
    && every upper_or_digit bic 0 4
    && every upper bic 4 6
    && every upper_or_digit bic 6 11

-- ---- blanks, reasons and names

unfoldable pub blank : List ℕ → Bool
blank s = every is_space s 0 (length s)

unfoldable pub one_of : List ℕ → List (List ℕ) → Bool
one_of s [] = false
one_of s (t ∷ ts) = same s t || one_of s ts

abbrev pub reasons : List (List ℕ)
reasons =
    text "AC01" ∷ text "AC04" ∷ text "AC06" ∷ text "AG01" ∷ text "AG02" ∷ text "AM05" ∷ text "BE04" ∷ text "CNOR" ∷ text "FOCR"
    ∷ text "MD07" ∷ text "MS02" ∷ text "MS03" ∷ text "RC01" ∷ text "RR01" ∷ text "RR02" ∷ text "RR03" ∷ text "RR04" ∷ []

-- the reason of a return that answers a cancellation request; a charge may be taken off such a return
abbrev pub answers_cancellation : List ℕ → Bool
answers_cancellation reason = same reason (text "FOCR")

abbrev pub names : List (List ℕ)
names = text "pacs.008.001.08" ∷ text "pacs.008.001.02" ∷ []
