-- `calendar::days_in` meets its contract: its tests give what the table of months has, at each of its places and past its end.
-- Assumes nothing.
use mathlib.Core.Path.{◌≡◌, refl, sym}
use mathlib.Core.Bool.{Bool, true, false, cond, ◌&&◌, ◌||◌}
use Prim.Native.Nat.{ℕ, ◌≤◌, ◌<◌}
use native.Mathlib.Decide.{dec_lt}
use native.Mathlib.Omega.{arith}
use borrow.Author.Tests.{eq-eqb, ne_eqb, le-leb, lt-leb}
use lib.Dec.{leb, eqb, lit≤}
use Rattle.calendar.specs.Date.{leap, days_in}
use Rattle.calendar.proofs.Facts.{no_month}
use Rattle.calendar.proofs.Agree.{agree}
use Rattle.calendar.proofs.days_in.Goals as goal

abbrev short : ℕ → Bool
short m = eqb m 4 || eqb m 6 || eqb m 9 || eqb m 11

abbrev one_of_twelve : ℕ → Bool
one_of_twelve m = leb 1 m && leb m 12

-- the tests of the code, in their order
by_tests : ℕ → ℕ → ℕ
by_tests y m = cond (eqb m 2) (cond (leap y) 29 28) (cond (short m) 30 (cond (one_of_twelve m) 31 0))

-- from 0, which is no month, to December, one `refl` each
in_table : (y m : ℕ) → m < 13 → by_tests y m ≡ days_in y m
unfolding by_tests days_in
in_table y =
    agree (by_tests y) (days_in y) 13
    (((((((((((((tt, refl), refl), refl), refl), refl), refl), refl), refl), refl), refl), refl), refl), refl)

past_table : (y m : ℕ) → 12 < m → by_tests y m ≡ days_in y m
unfolding by_tests
past_table y m h =
    rw (is_not 2 (lit≤ tt), is_not 4 (lit≤ tt), is_not 6 (lit≤ tt), is_not 9 (lit≤ tt), is_not 11 (lit≤ tt))
    (rw (le-leb 1 m (omega arith), lt-leb m 12 h, no_month y m h))
  where
    is_not : (n : ℕ) → n ≤ 12 → eqb m n ≡ false
    is_not n k = ne_eqb m n (λ e. omega arith)

same : (y m : ℕ) → by_tests y m ≡ days_in y m
same y m = elim (dec_lt m 13) [ yes h ↦ in_table y m h | no n ↦ past_table y m (omega arith) ]

february : (y m : ℕ) → m ≡ 2 → days_in y m ≡ cond (leap y) 29 28
unfolding by_tests
february y m e = rw (← same, eq-eqb m 2 e)

thirty : (y m : ℕ) → (m ≡ 2 → ⊥) → short m ≡ true → days_in y m ≡ 30
unfolding by_tests
thirty y m other e = rw (← same, ne_eqb m 2 other, e)

thirty_one : (y m : ℕ) → (m ≡ 2 → ⊥) → short m ≡ false → one_of_twelve m ≡ true → days_in y m ≡ 31
unfolding by_tests
thirty_one y m other e f = rw (← same, ne_eqb m 2 other, e, f)

none : (y m : ℕ) → (m ≡ 2 → ⊥) → short m ≡ false → one_of_twelve m ≡ false → days_in y m ≡ 0
unfolding by_tests
none y m other e f = rw (← same, ne_eqb m 2 other, e, f)

pub returns-then-leap : goal.returns-then-leap
returns-then-leap c = rw (february _ _ c.if-m-eq2.true, ← c.leap.ensures, c.if-leap.true)

pub returns-else-leap : goal.returns-else-leap
returns-else-leap c = rw (february _ _ c.if-m-eq2.true, ← c.leap.ensures, c.if-leap.false)

pub returns-then-m : goal.returns-then-m
returns-then-m c = sym (thirty _ _ c.if-m-eq2.false c.if-m.true)

pub returns-then-m-2 : goal.returns-then-m-2
returns-then-m-2 c = sym (thirty_one _ _ c.if-m-eq2.false c.if-m.false c.if-m-2.true)

pub returns-else-m-2 : goal.returns-else-m-2
returns-else-m-2 c = sym (none _ _ c.if-m-eq2.false c.if-m.false c.if-m-2.false)
