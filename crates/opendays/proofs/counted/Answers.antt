-- `opendays::counted` meets its contract: weeks less holidays are the open days. Assumes nothing.
use mathlib.Core.Path.{refl, ap, ◌∙◌}
use Rattle.calendar.proofs.Counting.{number_small_lem}
use Rattle.opendays.specs.Counting.{workdays_before}
use Rattle.opendays.proofs.Stretch.{weeks_less_holidays}
use Rattle.opendays.proofs.counted.Goals as goal

pub workdays_before-requires : goal.workdays_before-requires
workdays_before-requires c = rw c.day_number.ensures (number_small_lem _ c.requires.second)

pub workdays_before-requires-2 : goal.workdays_before-requires-2
workdays_before-requires-2 c = rw c.day_number-2.ensures (number_small_lem _ c.requires.first)

pub overflow_sub-result : goal.overflow_sub-result
overflow_sub-result c =
    let up_to = c.workdays_before.ensures ∙ ap workdays_before c.day_number.ensures in
    let up_from = c.workdays_before-2.ensures ∙ ap workdays_before c.day_number-2.ensures in
    (weeks_less_holidays c.args.from c.args.to _ _ _ c.requires up_to up_from refl).0

pub overflow_sub-result-2 : goal.overflow_sub-result-2
overflow_sub-result-2 c =
    let up_to = c.workdays_before.ensures ∙ ap workdays_before c.day_number.ensures in
    let up_from = c.workdays_before-2.ensures ∙ ap workdays_before c.day_number-2.ensures in
    (weeks_less_holidays c.args.from c.args.to _ _ _ c.requires up_to up_from c.closed_between.ensures).1

pub returns : goal.returns
returns c =
    let up_to = c.workdays_before.ensures ∙ ap workdays_before c.day_number.ensures in
    let up_from = c.workdays_before-2.ensures ∙ ap workdays_before c.day_number-2.ensures in
    (weeks_less_holidays c.args.from c.args.to _ _ _ c.requires up_to up_from c.closed_between.ensures).2
