-- `calendar::is_date` meets its contract: code and definition are the same tests, once what `days_in` ensures is put in.
-- Assumes nothing.
use Rattle.calendar.specs.Date.{is_date}
use Rattle.calendar.proofs.is_date.Goals as goal

pub returns : goal.returns
unfolding is_date
returns c = rw c.days_in.ensures
