-- `faults::message_faults` meets its contract: each bit is set above those before it, by its own fact of the message's own fields.
-- Assumes nothing.
use mathlib.Core.Path.{refl, ap, ◌∙◌}
use mathlib.Core.List.{[]}
use Rattle.masks.proofs.Laws.{no_facts, flag_next}
use Rattle.wording.specs.Wording.{badly_formed}
use Rattle.rules.specs.OfMessage.{receiver_badly_formed, unreachable, amount_wrong, tells_original, reason_unknown, name_unknown, returned_amount_wrong}
use Rattle.faults.proofs.message_faults.Goals as goal

pub returns : goal.returns
returns c =
    -- m0 to m7: the mask after bit 0 to bit 7 was set, each by its fact; that of a repeat was asked before
    let a = c.args in
    let asked = c.requires in
    let kind = asked.header_read.kind in
    let identifier = c.identifier-identifier.ensures in
    let receiver = c.receiver-receiver.ensures in
    let reason = c.reason-reason.ensures in
    let name = c.name-name.ensures in
    let m0 = flag_next 0 [] _ _ _ no_facts c.flag-m.ensures.0 (c.badly_formed-badly_formed.ensures ∙ ap badly_formed identifier) in
    let m1 = flag_next _ _ _ _ _ m0 c.flag-m-2.ensures.0 refl in
    let m2 = flag_next _ _ _ _ _ m1 c.flag-m-3.ensures.0 (c.receiver_badly_formed-receiver_badly_formed.ensures ∙ ap receiver_badly_formed receiver) in
    let m3 = flag_next _ _ _ _ _ m2 c.flag-m-4.ensures.0 (c.unreachable-unreachable.ensures ∙ ap (unreachable a.table.now) asked.found) in
    let m4 = flag_next _ _ _ _ _ m3 c.flag-m-5.ensures.0 (c.amount_wrong-amount_wrong.ensures ∙ ap amount_wrong asked.read.amount) in
    let m5 = flag_next _ _ _ _ _ m4 c.flag-m-6.ensures.0 (c.tells_original-tells_original.ensures ∙ (λ i. tells_original (kind i) (asked.read.original i) (reason i) (name i))) in
    let m6 = flag_next _ _ _ _ _ m5 c.flag-m-7.ensures.0 (c.reason_unknown-reason_unknown.ensures ∙ (λ i. reason_unknown (kind i) (reason i))) in
    let m7 = flag_next _ _ _ _ _ m6 c.flag-m-8.ensures.0 (c.name_unknown-name_unknown.ensures ∙ (λ i. name_unknown (kind i) (name i))) in
    flag_next _ _ _ _ _ m7 c.flag.ensures.0 (c.returned_amount_wrong-returned_amount_wrong.ensures ∙ (λ i. returned_amount_wrong (kind i) (asked.read.amount i) (asked.read.original i) (reason i)))
