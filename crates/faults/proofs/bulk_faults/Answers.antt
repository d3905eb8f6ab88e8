-- `faults::bulk_faults` meets its contract: each bit is set above those before it, by its own fact of the header's own fields.
-- Assumes nothing.
use mathlib.Core.Path.{refl, ap, ◌∙◌}
use mathlib.Core.List.{[]}
use Rattle.masks.proofs.Laws.{no_facts, flag_next}
use Rattle.wording.specs.Wording.{badly_formed}
use Rattle.tally.specs.Tally.{cents_of}
use Rattle.rules.specs.OfBulk.{marks_wrong, no_participant, date_wrong, number_wrong, sum_wrong, date_closed}
use Rattle.faults.proofs.bulk_faults.Goals as goal

pub returns : goal.returns
returns c =
    -- m0 to m7: the mask after bit 0 to bit 7 was set, each by its fact; that of a repeat was asked before
    let a = c.args in
    let asked = c.requires in
    let identifier = c.identifier-identifier.ensures in
    let m0 = flag_next 0 [] _ _ _ no_facts c.flag-m.ensures.0 (c.marks_wrong-marks_wrong.ensures ∙ ap marks_wrong asked.read.marks) in
    let m1 = flag_next _ _ _ _ _ m0 c.flag-m-2.ensures.0 (c.no_participant-no_participant.ensures ∙ ap (no_participant a.table.now) asked.found) in
    let m2 = flag_next _ _ _ _ _ m1 c.flag-m-3.ensures.0 (c.date_wrong-date_wrong.ensures ∙ ap (date_wrong a.terms) asked.read.date) in
    let m3 = flag_next _ _ _ _ _ m2 c.flag-m-4.ensures.0 (c.badly_formed-badly_formed.ensures ∙ ap badly_formed identifier) in
    let m4 = flag_next _ _ _ _ _ m3 c.flag-m-5.ensures.0 refl in
    let m5 = flag_next _ _ _ _ _ m4 c.flag-m-6.ensures.0 c.empty-empty.ensures in
    let m6 = flag_next _ _ _ _ _ m5 c.flag-m-7.ensures.0 (c.number_wrong-number_wrong.ensures ∙ (λ i. number_wrong (asked.read.number i) a.number)) in
    let m7 = flag_next _ _ _ _ _ m6 c.flag-m-8.ensures.0 (c.sum_wrong-sum_wrong.ensures ∙ (λ i. sum_wrong (asked.read.sum i) (cents_of a.sum))) in
    flag_next _ _ _ _ _ m7 c.flag.ensures.0 (c.date_closed-date_closed.ensures ∙ ap date_closed asked.read.date)
