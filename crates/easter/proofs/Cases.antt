-- The rule tried on single years, by computation: the parts of the rule for 2024, and Easter Sunday of some years. Of other years nothing
-- is said here. Assumes nothing.
use mathlib.Core.Path.{◌≡◌, refl}
use mathlib.Core.List.{List, [], ◌∷◌, map}
use Prim.Native.Nat.{ℕ}
use Rattle.easter.specs.Easter.{golden_number, century, leap_days_dropped, moon_ahead, epact, full_moon, easter_sunday, good_friday, easter_monday}
use Rattle.easter.proofs.Computing.{easter_computes}

-- golden number 11, epact 19: the full moon on 25 March, a Monday, so Easter on the 31st
pub of_2024 :
    (golden_number 2024 ∷ century 2024 ∷ leap_days_dropped 2024 ∷ moon_ahead 2024 ∷ epact 2024 ∷ full_moon 2024 ∷ easter_sunday 2024 ∷ [])
    ≡ (11 ∷ 21 ∷ 3 ∷ 1 ∷ 19 ∷ 25 ∷ 20240331 ∷ [])
unfolding easter_computes
of_2024 = refl

-- with Good Friday and Easter Monday: over the month's end both ways, an epact of 24 and one of 25 late in the 19 years, the latest date
-- and the earliest, the first year and the last
pub years : List (ℕ × ℕ × ℕ × ℕ)
years =
    (2000, 20000421, 20000423, 20000424)
    ∷ (2018, 20180330, 20180401, 20180402)
    ∷ (2024, 20240329, 20240331, 20240401)
    ∷ (2026, 20260403, 20260405, 20260406)
    ∷ (2038, 20380423, 20380425, 20380426)
    ∷ (2049, 20490416, 20490418, 20490419)
    ∷ (2076, 20760417, 20760419, 20760420)
    ∷ (2285, 22850320, 22850322, 22850323)
    ∷ (2299, 22990414, 22990416, 22990417)
    ∷ []

pub years_right : map {B = ℕ × ℕ × ℕ} (λ c. (good_friday c.0, easter_sunday c.0, easter_monday c.0)) years ≡ map {B = ℕ × ℕ × ℕ} (λ c. (c.1, c.2, c.3)) years
unfolding easter_computes years
years_right = refl
