-- The contract of each public function determines what a call of it comes to: the result, and every byte left in what was lent.
-- Here: those about dates and open days. There is a statement for each function, and `.ci/determined` asks that none is missing.
-- Assumes nothing.
use mathlib.Core.Path.{◌≡◌, refl, sym, ◌∙◌}
use seplogic.Ra.Ura.{Ura}
use base.Logic.{SProp}
use prog.Memory.{Memory}
use prog.Routine.{Routine}
use types.Logic.{Logic}
use contract.Monad.{Fun}
use Rattle.tynderaxo.specs.Doors.{DayTold, day_told}
use Rattle.tynderaxo.specs.declared.TynderaxoDay.{TynderaxoDay}
use Rattle.promises.specs.Determined.{Determined}
use Rattle.promises.proofs.Told.{results, both, same, number, truth}
use Rattle.calendar.specs.contracts as calendar
use Rattle.easter.specs.contracts as easter
use Rattle.opendays.specs.contracts as opendays
use Rattle.tynderaxo.specs.contracts as tynderaxo

-- what the door for C hands over is the two values of the answer
day_one : {e : DayTold} {x y : TynderaxoDay} → day_told x ≡ e → day_told y ≡ e → x ≡ y
day_one p q = λ i. record { number = ((p ∙ sym q) i).number; value = ((p ∙ sym q) i).value }

module _ {M : Type 1} {𝓤 : Ura M} (𝓛 : Logic 𝓤) (mem : Memory → SProp 𝓤) (run : Routine → Fun 𝓤) where
  -- ---- calendar

  pub calendar_leap : Determined 𝓛 mem run calendar.leap.ended calendar.leap.clauses
  calendar_leap κs a g r r' ws ws' h h' = (truth 𝓤 _ h.told h'.told, refl)

  pub calendar_days_in : Determined 𝓛 mem run calendar.days_in.ended calendar.days_in.clauses
  calendar_days_in κs a g r r' ws ws' h h' = (number 𝓤 _ h.told h'.told, refl)

  pub calendar_is_date : Determined 𝓛 mem run calendar.is_date.ended calendar.is_date.clauses
  calendar_is_date κs a g r r' ws ws' h h' = (truth 𝓤 _ h.told h'.told, refl)

  pub calendar_day_number : Determined 𝓛 mem run calendar.day_number.ended calendar.day_number.clauses
  calendar_day_number κs a g r r' ws ws' h h' = (number 𝓤 _ h.told h'.told, refl)

  pub calendar_weekday : Determined 𝓛 mem run calendar.weekday.ended calendar.weekday.clauses
  calendar_weekday κs a g r r' ws ws' h h' = (number 𝓤 _ h.told h'.told, refl)

  pub calendar_date_of : Determined 𝓛 mem run calendar.date_of.ended calendar.date_of.clauses
  calendar_date_of κs a g r r' ws ws' h h' = (number 𝓤 _ h.told h'.told, refl)

  pub calendar_day_after : Determined 𝓛 mem run calendar.day_after.ended calendar.day_after.clauses
  calendar_day_after κs a g r r' ws ws' h h' = (number 𝓤 _ h.told h'.told, refl)

  -- ---- easter

  pub easter_easter_day : Determined 𝓛 mem run easter.easter_day.ended easter.easter_day.clauses
  easter_easter_day κs a g r r' ws ws' h h' = (number 𝓤 _ h.told h'.told, refl)

  pub easter_march_date : Determined 𝓛 mem run easter.march_date.ended easter.march_date.clauses
  easter_march_date κs a g r r' ws ws' h h' = (number 𝓤 _ h.told h'.told, refl)

  -- ---- opendays

  pub opendays_is_open : Determined 𝓛 mem run opendays.is_open.ended opendays.is_open.clauses
  opendays_is_open κs a g r r' ws ws' h h' = (truth 𝓤 _ h.told h'.told, refl)

  pub opendays_open_day : Determined 𝓛 mem run opendays.open_day.ended opendays.open_day.clauses
  opendays_open_day κs a g r r' ws ws' h h' = (same 𝓤 (results opendays.open_day.ended κs) _ h.told h'.told, refl)

  pub opendays_next_open_day : Determined 𝓛 mem run opendays.next_open_day.ended opendays.next_open_day.clauses
  opendays_next_open_day κs a g r r' ws ws' h h' = (same 𝓤 (results opendays.next_open_day.ended κs) _ h.told h'.told, refl)

  pub opendays_open_days : Determined 𝓛 mem run opendays.open_days.ended opendays.open_days.clauses
  opendays_open_days κs a g r r' ws ws' h h' = (same 𝓤 (results opendays.open_days.ended κs) _ h.told h'.told, refl)

  pub opendays_number_of : Determined 𝓛 mem run opendays.number_of.ended opendays.number_of.clauses
  opendays_number_of κs a g r r' ws ws' h h' = (number 𝓤 _ h.told h'.told, refl)

  pub opendays_value_of : Determined 𝓛 mem run opendays.value_of.ended opendays.value_of.clauses
  opendays_value_of κs a g r r' ws ws' h h' = (number 𝓤 _ h.told h'.told, refl)

  -- ---- tynderaxo

  pub tynderaxo_day_from : Determined 𝓛 mem run tynderaxo.TynderaxoDayFromResultU32Unanswered.from.ended tynderaxo.TynderaxoDayFromResultU32Unanswered.from.clauses
  tynderaxo_day_from κs a g r r' ws ws' h h' = (both 𝓤 (results tynderaxo.TynderaxoDayFromResultU32Unanswered.from.ended κs) day_one h.told h'.told, refl)

  pub tynderaxo_tynderaxo_open_day : Determined 𝓛 mem run tynderaxo.tynderaxo_open_day.ended tynderaxo.tynderaxo_open_day.clauses
  tynderaxo_tynderaxo_open_day κs a g r r' ws ws' h h' = (both 𝓤 (results tynderaxo.tynderaxo_open_day.ended κs) day_one h.told h'.told, refl)

  pub tynderaxo_tynderaxo_next_open_day : Determined 𝓛 mem run tynderaxo.tynderaxo_next_open_day.ended tynderaxo.tynderaxo_next_open_day.clauses
  tynderaxo_tynderaxo_next_open_day κs a g r r' ws ws' h h' = (both 𝓤 (results tynderaxo.tynderaxo_next_open_day.ended κs) day_one h.told h'.told, refl)

  pub tynderaxo_tynderaxo_open_days : Determined 𝓛 mem run tynderaxo.tynderaxo_open_days.ended tynderaxo.tynderaxo_open_days.clauses
  tynderaxo_tynderaxo_open_days κs a g r r' ws ws' h h' = (both 𝓤 (results tynderaxo.tynderaxo_open_days.ended κs) day_one h.told h'.told, refl)
