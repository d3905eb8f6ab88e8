-- What a date is, as facts of its numbers: the year within the limits, the month one of twelve, the day one of the month's. Assumes
-- nothing.
use mathlib.Core.Path.{◌≡◌}
use mathlib.Core.Bool.{true, and-eq-true_iff}
use mathlib.Core.List.{◌∷◌}
use Prim.Native.Nat.{ℕ, zero, suc, ◌≤◌, ◌<◌}
use native.Mathlib.Decide.{dec_lt}
use native.Mathlib.Omega.{arith}
use borrow.Author.Tests.{leb-true}
use lib.ListN.{get_or-eq_default}
use Rattle.calendar.specs.Date.{year, month, day, month_lengths, days_in, first_year, last_year, is_date}

pub record DateFacts (d : ℕ) : Type 0 where
  pub from_first_year : first_year ≤ year d
  pub to_last_year : year d ≤ last_year
  pub from_january : 1 ≤ month d
  pub to_december : month d ≤ 12
  pub from_first_day : 1 ≤ day d
  pub to_last_day : day d ≤ days_in (year d) (month d)

pub no_month : (y m : ℕ) → 12 < m → days_in y m ≡ 0
unfolding days_in
no_month y m h = get_or-eq_default (0 ∷ month_lengths y) 0 h

from_one : (y m : ℕ) → 1 ≤ days_in y m → 1 ≤ m
unfolding days_in
from_one y zero h = absurd (omega arith)
from_one y (suc m) h = omega arith

to_twelve : (y m : ℕ) → 1 ≤ days_in y m → m ≤ 12
to_twelve y m h = elim (dec_lt 12 m) [ yes past ↦ omega (arith, no_month y m past) | no n ↦ omega arith ]

pub facts : (d : ℕ) → is_date d ≡ true → DateFacts d
unfolding is_date
facts d h =
    let p = (and-eq-true_iff _ _).0 h in
    let q = (and-eq-true_iff _ _).0 p.0 in
    let r = (and-eq-true_iff _ _).0 q.0 in
    let from : 1 ≤ day d = leb-true _ _ q.1 in
    let to : day d ≤ days_in (year d) (month d) = leb-true _ _ p.1 in
    record {
      from_first_year = leb-true _ _ r.0;
      to_last_year = leb-true _ _ r.1;
      from_january = from_one (year d) (month d) (omega arith);
      to_december = to_twelve (year d) (month d) (omega arith);
      from_first_day = from;
      to_last_day = to;
    }
