-- The table held against the rule: one test over all entries, which is computed, and the lemma that turns it into the rule at each of
-- them. Assumes nothing.
use mathlib.Core.Path.{◌≡◌}
use mathlib.Core.Bool.{Bool, true, ◌&&◌, and-eq-true_iff}
use mathlib.Core.List.{List, [], ◌∷◌}
use Prim.Native.Nat.{ℕ, zero, suc, ◌+◌, ◌-◌, ◌≤◌, ◌<◌}
use native.Mathlib.Nat.{add-zero, add-suc, suc-add, add-sub_of_le, le_of_suc-le-suc}
use native.Mathlib.Omega.{arith}
use borrow.Author.Tests.{eqb-true}
use lib.Dec.{eqb}
use lib.ListN.{length, get_or}
use Rattle.calendar.specs.Date.{first_year, last_year}
use Rattle.easter.specs.Easter.{easter_sunday}

-- every entry is what the rule says, the first for the year y
abbrev pub all_right : ℕ → List ℕ → Bool
all_right y [] = true
all_right y (x ∷ xs) = eqb x (easter_sunday y) && all_right (suc y) xs

right_at : (xs : List ℕ) (y k : ℕ) → all_right y xs ≡ true → k < length xs → get_or xs k 0 ≡ easter_sunday (y + k)
right_at [] y k e h = absurd (omega arith)
right_at (x ∷ xs) y zero e h = rw (add-zero y) (eqb-true x (easter_sunday y) ((and-eq-true_iff (eqb x (easter_sunday y)) (all_right (suc y) xs)).0 e).0)
right_at (x ∷ xs) y (suc k) e h = rw (add-suc y k, ← suc-add y k) (right_at xs (suc y) k ((and-eq-true_iff (eqb x (easter_sunday y)) (all_right (suc y) xs)).0 e).1 (le_of_suc-le-suc h))

-- a table of so many years that passes the test has the rule's date for each of them
pub by_rule : (xs : List ℕ) (y : ℕ) → length xs ≡ 300 → all_right first_year xs ≡ true → first_year ≤ y → y ≤ last_year → get_or xs (y - first_year) 0 ≡ easter_sunday y
by_rule xs y n e from to = rw (right_at xs first_year (y - first_year) e (omega arith), add-sub_of_le from)
