-- What the text of a field means: a number, an amount, a date, a text of the sheet. Each form is a test of its own, of any text. Assumes nothing.
use Rattle.std.specs.Prelude.{ℕ, suc, ◌+◌, ◌*◌, ◌^◌, Bool, cond, ◌&&◌, ◌||◌, List, ◌++◌, length, take, drop, replicate, leb, ltb, eqb, Option, Some, None}
use Rattle.wire.specs.Field.{text, part}
use Rattle.letters.specs.Places.{byte_at, run}
use Rattle.letters.specs.References.{digit_in, numeral}

abbrev pub digit : ℕ → Bool
digit b = digit_in 10 b

-- nothing but digits
abbrev pub digits : List ℕ → Bool
digits t = eqb (run digit t) (length t)

-- the number that decimal digits write
abbrev pub decimal : List ℕ → ℕ
decimal t = numeral 10 t

-- ---- numbers

abbrev pub most_digits : ℕ
most_digits = 15

unfoldable pub is_number : List ℕ → Bool
is_number t = digits t && leb 1 (length t) && leb (length t) most_digits

-- ---- amounts

-- the digits before the point, and those behind it
abbrev pub wholes : List ℕ → List ℕ
wholes t = take (run digit t) t

abbrev pub parts : List ℕ → List ℕ
parts t = drop (suc (run digit t)) t

-- exactly, where at most two digits stand behind the point
unfoldable pub cents : List ℕ → ℕ
cents t = decimal (wholes t) * 100 + decimal (take 2 (parts t ++ replicate 2 48))

abbrev pub most_amount_digits : ℕ
most_amount_digits = 18

-- how many digits there are
abbrev pub amount_digits : List ℕ → ℕ
amount_digits t = length (wholes t) + length (parts t)

unfoldable pub is_amount : List ℕ → Bool
is_amount t =
    (digits t || eqb (byte_at t (run digit t)) 46)
    && digits (parts t)
    && leb (length (parts t)) 2
    && leb 1 (amount_digits t)
    && leb (amount_digits t) most_amount_digits
    && ltb (cents t) (2 ^ 64)

-- ---- dates

abbrev pub date_digits : List ℕ → List ℕ
date_digits t = part t 0 4 ++ (part t 5 2 ++ part t 8 2)

-- YYYY-MM-DD
unfoldable pub is_date : List ℕ → Bool
is_date t = eqb (length t) 10 && digits (date_digits t) && eqb (byte_at t 4) 45 && eqb (byte_at t 7) 45

abbrev pub date_number : List ℕ → ℕ
date_number t = decimal (date_digits t)

-- ---- texts

-- filled up with spaces
abbrev pub filled : ℕ → List ℕ → List ℕ
filled n t = take n (t ++ replicate n 32)

-- a receiver of eight bytes is a head office
unfoldable pub receiver : List ℕ → List ℕ
receiver t = filled 11 (cond (eqb (length t) 8) (t ++ text "XXX") t)

-- ---- what a text means as a number

abbrev pub meant_if : Bool → ℕ → Option ℕ
meant_if test n = cond test (Some n) None

abbrev pub number_meant : List ℕ → Option ℕ
number_meant t = meant_if (is_number t) (decimal t)

abbrev pub amount_meant : List ℕ → Option ℕ
amount_meant t = meant_if (is_amount t) (cents t)

abbrev pub date_meant : List ℕ → Option ℕ
date_meant t = meant_if (is_date t) (date_number t)
