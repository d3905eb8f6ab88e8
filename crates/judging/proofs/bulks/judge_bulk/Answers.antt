-- `judging::bulks::judge_bulk` meets its contract. Assumes nothing.
use mathlib.Core.Path.{◌∙◌}
use mathlib.Core.Bool.{not}
use native.Mathlib.Omega.{arith}
use lib.Dec.{eqb}
use Rattle.wire.proofs.Stores.{middle_lent}
use Rattle.sheet.specs.Reading.{header_in}
use Rattle.sheet.specs.Sheet.{message_width}
use Rattle.sheet.proofs.Laws.{records_length}
use Rattle.tally.specs.Tally.{cents_of}
use Rattle.report.specs.Line.{lines_at}
use Rattle.messages.specs.Messages.{judge_messages}
use Rattle.messages.specs.Ready.{state_of, messages_of}
use Rattle.judging.proofs.Sections.{bulk_parts, key_wide, ready_after, place_there, line_within, slots_small_lem, bulk_told}
use Rattle.judging.proofs.bulks.judge_bulk.Goals as goal

pub key_of-key-requires : goal.key_of-key-requires
key_of-key-requires c =
    let a = c.args in
    bulk_parts a.asked.now.terms a.asked.now.sheet.now a.asked.now.table.now a.positions.now a.header c.requires.0 _ _ c.sender-sender.ensures c.identifier-identifier.ensures

pub put_bulk_line-requires : goal.put_bulk_line-requires
put_bulk_line-requires c =
    let a = c.args in
    let faults = c.bulk_faults-faults in
    let counted = c.put_count in
    let lines = c.lines_at-from in
    let judged = c.judge_messages-counts in (
      line_within a.report.now a.section.number a.places c.requires.2 counted.new.out _ _ (judge_messages a.asked.now.terms a.asked.now.table.now (header_in a.asked.now.sheet.now a.header) (not (eqb faults.result 0)) (messages_of a.asked.now.sheet.now a.header.kind a.section) (state_of a.register.now a.positions.now)).lines counted.auto.out (middle_lent counted.new.out lines.result 0 (lines_at a.places.section) (judge_messages a.asked.now.terms a.asked.now.table.now (header_in a.asked.now.sheet.now a.header) (not (eqb faults.result 0)) (messages_of a.asked.now.sheet.now a.header.kind a.section) (state_of a.register.now a.positions.now)).lines _ (place_there _ _ lines.ensures) judged.ensures.lines),
      (bulk_parts a.asked.now.terms a.asked.now.sheet.now a.asked.now.table.now a.positions.now a.header c.requires.0 _ _ c.sender-sender.ensures c.identifier-identifier.ensures).identifier_wide,
    )

pub record_bulk-again-requires : goal.record_bulk-again-requires
record_bulk-again-requires c =
    let a = c.args in
    let judged = c.judge_messages-counts in
    record {
      ready = ready_after a.indexed a.register.now a.index.now a.section.number c.requires.3 a.asked.now.terms a.asked.now.table.now _ _ _ a.positions.now _ _ _ _ _ judged.result (records_length (message_width a.header.kind) a.asked.now.sheet.now a.section.number a.section.at) judged.ensures;
      wide = key_wide a.asked.now.terms a.asked.now.sheet.now a.asked.now.table.now a.positions.now a.header c.requires.0 _ _ _ c.sender-sender.ensures c.identifier-identifier.ensures c.key_of-key.ensures;
    }

pub overflow_add-result-2 : goal.overflow_add-result-2
overflow_add-result-2 c =
    let a = c.args in
    let most = slots_small_lem a.asked.now.terms a.asked.now.table.now _ _ a.indexed a.asked.now.sheet.now a.header.kind a.section _ _ _ _ _ _ _ c.judge_messages-counts.result c.requires.1.few c.judge_messages-counts.ensures in
    record { fits = omega (arith, most) }

pub returns : goal.returns
returns c =
    let a = c.args in
    let faults = c.bulk_faults-faults in
    let counted = c.put_count in
    let lines = c.lines_at-from in
    bulk_told a.asked.now.terms a.asked.now.table.now a.asked.now.sheet.now a.indexed a.header a.section (state_of a.register.now a.positions.now) a.index.now a.report.now a.places
    _ _ _ c.sender-sender.ensures c.identifier-identifier.ensures c.key_of-key.ensures c.seek-sought.result c.seek-sought.ensures _ (cents_of c.sum_of-sum.result) c.sum_of-sum.ensures c.bulk_faults-faults.ensures
    c.judge_messages-counts.result _ _ _ _ _ c.judge_messages-counts.ensures _ _ _ c.record_bulk-again.ensures
    _ _ _ _ counted.ensures (middle_lent counted.new.out lines.result 0 (lines_at a.places.section) (judge_messages a.asked.now.terms a.asked.now.table.now (header_in a.asked.now.sheet.now a.header) (not (eqb faults.result 0)) (messages_of a.asked.now.sheet.now a.header.kind a.section) (state_of a.register.now a.positions.now)).lines _ (place_there _ _ lines.ensures) c.judge_messages-counts.ensures.lines) (c.number-outcome.ensures ∙ c.bulk_outcome.ensures) c.put_bulk_line.ensures
