-- On an `unfolding` line: a case computes with dates, or with days one after the other. Assumes nothing.
use Rattle.calendar.specs.Date.{is_date, days_in, leap, days_of_years, days_of_months, day_number}
use Rattle.calendar.specs.Days.{day_after, weekday}

unfoldable pub dates_compute : Unit {0}
unfolding is_date days_in leap
dates_compute = tt

unfoldable pub days_compute : Unit {0}
unfolding dates_compute days_of_years days_of_months day_number day_after weekday
days_compute = tt
