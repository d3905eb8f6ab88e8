-- `opendays::next_open_day` meets its contract: what is left of the search finds what the whole search finds. Assumes nothing.
use mathlib.Core.Path.{◌≡◌}
use mathlib.Core.Bool.{true}
use Prim.Native.Nat.{◌-◌}
use Rattle.calendar.specs.Date.{is_date}
use Rattle.calendar.specs.Days.{last_date}
use Rattle.opendays.specs.Questions.{next_open_day}
use Rattle.opendays.proofs.next_open_day.Given as goal

abbrev pub invariant-loop-day : goal.invariant-loop-day
invariant-loop-day l = (is_date l.day ≡ true) × (next_open_day l.day ≡ next_open_day l.date)

abbrev pub decreases-loop-day : goal.decreases-loop-day
decreases-loop-day l = last_date - l.day
