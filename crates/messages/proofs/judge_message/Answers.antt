-- `messages::judge_message` meets its contract. Assumes nothing.
use mathlib.Core.Path.{◌≡◌, refl, ap, ◌∙◌}
use mathlib.Core.Bool.{true, false, not, ◌&&◌}
use lib.Dec.{eqb}
use native.Mathlib.Omega.{arith}
use Rattle.std.proofs.lemmas.Bool.Decides.{nat_tests}
use borrow.Author.Tests.{ne_eqb}
use Rattle.routing.specs.Lookup.{option_of, route}
use Rattle.sheet.specs.Reading.{header_in, message_in}
use Rattle.messages.specs.Ready.{state_of}
use Rattle.messages.proofs.Verdicts.{identifier_wide_lem, parts_wide, accepted_told, rejected_told}
use Rattle.messages.proofs.judge_message.Goals as goal
use Rattle.messages.proofs.judge_message.Goals.{else-not-fallen-via-then-not-fallen+else-faults-eq0, else-not-fallen-via-else-not-fallen}

pub key_of-key-requires : goal.key_of-key-requires
key_of-key-requires c =
    let a = c.args in
    parts_wide a.asked.now.terms a.asked.now.sheet.now a.asked.now.table.now a.positions.now a.ruling c.requires.0 a.message a.out.now a.to _ _ c.requires.1 c.sender.ensures c.identifier-identifier.ensures

pub put_message_line-requires : goal.put_message_line-requires
put_message_line-requires c =
    let a = c.args in
    (c.requires.1.space, identifier_wide_lem a.asked.now.sheet.now a.message a.out.now a.to _ c.requires.1 c.identifier-identifier.ensures)

pub returns-then-faults-eq0 : goal.returns-then-faults-eq0
returns-then-faults-eq0 c =
    let a = c.args in
    let before = state_of a.register.now a.positions.now in
    let found = c.route-found in
    let clean : (not a.ruling.fallen && eqb c.message_faults-faults.result 0) ≡ true = grind (arith, nat_tests) in
    accepted_told a.asked.now.terms a.asked.now.table.now (header_in a.asked.now.sheet.now a.ruling.header) a.ruling.fallen a.indexed (message_in a.asked.now.sheet.now a.message) before a.index.now a.to a.out.now
    _ _ _ c.sender.ensures c.identifier-identifier.ensures c.key_of-key.ensures c.seek-sought.result c.seek-sought.ensures _ c.message_faults-faults.ensures _ (c.number-outcome.ensures ∙ c.message_outcome.ensures) _ c.put_message_line.ensures _ refl
    clean refl _ _ c.enter.ensures (option_of a.ruling.row) (option_of found.result) _ _ c.requires.0.row_found.is
    (found.ensures.is ∙ ap (route a.asked.now.terms.date a.asked.now.table.now) c.receiver.ensures) c.requires.1.read.amount c.pay.ensures

pub returns-else-not-fallen : goal.returns-else-not-fallen
returns-else-not-fallen c =
    let a = c.args in
    let unclean : (not a.ruling.fallen && eqb c.message_faults-faults.result 0) ≡ false = elim c.else-not-fallen.branch [
      | else-not-fallen-via-then-not-fallen+else-faults-eq0 w ↦ rw (w.if-not-fallen.true, ne_eqb _ 0 w.if-faults-eq0.false)
      | else-not-fallen-via-else-not-fallen w ↦ rw w.if-not-fallen.false
    ] in
    let before = state_of a.register.now a.positions.now in
    rejected_told a.asked.now.terms a.asked.now.table.now (header_in a.asked.now.sheet.now a.ruling.header) a.ruling.fallen a.indexed (message_in a.asked.now.sheet.now a.message) before a.index.now a.to a.out.now
    _ _ _ c.sender.ensures c.identifier-identifier.ensures c.key_of-key.ensures c.seek-sought.result c.seek-sought.ensures _ c.message_faults-faults.ensures _ (c.number-outcome.ensures ∙ c.message_outcome.ensures) _ c.put_message_line.ensures _ refl
    unclean refl c.requires.2.kept
