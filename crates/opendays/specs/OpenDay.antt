-- The days on which TARGET is open, from 2000 to 2299. Definitions only, total on every number.
use Rattle.std.specs.Prelude.{ℕ, Bool, false, not, ◌&&◌, ◌||◌, List, [], ◌∷◌, eqb}
use Rattle.calendar.specs.Date.{year, is_date, day_number}
use Rattle.calendar.specs.Days.{date_of, weekday, saturday, sunday}
use Rattle.easter.specs.Easter.{good_friday, easter_monday}

abbrev pub weekend : ℕ → Bool
weekend d = eqb (weekday (day_number d)) saturday || eqb (weekday (day_number d)) sunday

-- of a year, in their order
abbrev pub holidays : ℕ → List ℕ
holidays y =
    date_of y 1 1
    ∷ good_friday y
    ∷ easter_monday y
    ∷ date_of y 5 1
    ∷ date_of y 12 25
    ∷ date_of y 12 26
    ∷ []

abbrev pub among : ℕ → List ℕ → Bool
among d [] = false
among d (h ∷ hs) = eqb d h || among d hs

abbrev pub holiday : ℕ → Bool
holiday d = among d (holidays (year d))

-- what is no date is not open either
unfoldable pub open_day : ℕ → Bool
open_day d = is_date d && not (weekend d) && not (holiday d)
