-- `reading::survey::first_reading` meets its contract: what was seen so far, with what is left from place i on, comes to the whole. Assumes nothing.
use mathlib.Core.Path.{sym, ap, ◌∙◌}
use native.Mathlib.Omega.{arith}
use lib.ListN.{length}
use borrow.Author.Rules.{rules}
use Rattle.std.specs.Prelude.{is_some}
use Rattle.std.proofs.lemmas.Result.{err_from_is_err_and}
use Rattle.reading.specs.Text.{document_at}
use Rattle.elements.specs.Questions.{first_lack}
use Rattle.reading.proofs.Looks.{seen_whole, seen_stopped}
use Rattle.reading.proofs.Roots.{document_onward}
use Rattle.reading.proofs.Surveys.{survey_starts, survey_odd, survey_ends, survey_on, no_room, unread_stopped}
use Rattle.reading.proofs.Sheets.{concludes}
use Rattle.reading.proofs.survey.first_reading.Goals as goal

pub loop-i-init : goal.loop-i-init
loop-i-init c = let a = c.args in survey_starts a.s.now a.space a.first _ c.checked_sub-room.ensures

pub returns-then-s-i-ne60 : goal.returns-then-s-i-ne60
returns-then-s-i-ne60 c = let a = c.args in let l = c.loop-i in rw (survey_odd a.s.now a.space a.first l.i l.lack l.bulks l.room l.invariant c.loop-i-test.true c.if-s-i-ne60.true)

pub overflow_add-bulks : goal.overflow_add-bulks
overflow_add-bulks c = let low = c.loop-i.invariant.bulks_low in search rules

pub loop-i-smaller : goal.loop-i-smaller
loop-i-smaller c =
    let a = c.args in
    let l = c.loop-i in
    let seen = c.in_ok-seen.seen in
    let done = seen_whole (document_at a.s.now l.i) l.lack c.look.result seen c.look.ensures.step c.look.ensures.told c.in_ok-seen.was in
    let on = document_onward a.s.now l.i seen.next done.forest done.was in
    omega (arith, c.space_end-i.ensures, c.loop-i-test.true)

pub loop-i-preserved : goal.loop-i-preserved
loop-i-preserved c =
    let a = c.args in
    let l = c.loop-i in
    let seen = c.in_ok-seen.seen in
    let done = seen_whole (document_at a.s.now l.i) l.lack c.look.result seen c.look.ensures.step c.look.ensures.told c.in_ok-seen.was in
    rw (c.space_end-i.ensures, c.taken-room.ensures) (survey_on a.s.now a.space a.first l.i l.lack l.bulks l.room l.invariant seen.next done.forest seen c.loop-i-test.true c.if-s-i-ne60.false done.was done.told)

pub returns : goal.returns
returns c =
    let a = c.args in
    let l = c.loop-i in
    let now = l.invariant in
    rw (survey_ends a.s.now a.space a.first l.i l.lack l.bulks l.room l.invariant c.loop-i-test.false)
    (c.conclude.ensures ∙ concludes a.s.now a.space l.lack l.bulks c.is_none.result now.sofar (first_lack now.sofar (length a.s.now)) now.lack_is (no_room a.space now.sofar c.is_none.result (ap is_some (sym now.room_is) ∙ c.is_none.ensures)) now.bulks_are)

pub returns-in_err-seen : goal.returns-in_err-seen
returns-in_err-seen c =
    let a = c.args in
    let l = c.loop-i in
    let p = err_from_is_err_and c.from_residual.result c.from_residual.ensures.1 in
    let why = c.in_err-seen.field-0.0 in
    rw (p.1, p.2) (unread_stopped a.s.now a.space a.first l.i l.lack l.bulks l.room l.invariant why c.loop-i-test.true c.if-s-i-ne60.false (seen_stopped (document_at a.s.now l.i) c.look.result why c.look.ensures.step c.in_err-seen.was))
