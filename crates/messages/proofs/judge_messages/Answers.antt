-- `messages::judge_messages` meets its contract. Assumes nothing.
use mathlib.Core.Path.{refl}
use Rattle.std.proofs.Common.{rules}
use Prim.Native.Nat.{◌<◌, ◌^◌}
use Rattle.sheet.specs.Reading.{header_in}
use Rattle.tally.specs.Tally.{totals_of}
use Rattle.messages.specs.Ready.{state_of}
use Rattle.messages.proofs.Verdicts.{message_ready}
use Rattle.messages.proofs.Loops.{message_within, line_space, slots_room, messages_turn, messages_end}
use Rattle.messages.proofs.judge_messages.Goals as goal

pub judge_message-verdict-requires : goal.judge_message-verdict-requires
judge_message-verdict-requires c =
    let a = c.args in
    let l = c.loop-j in
    let low = c.loop-j-test.true in (
      search rules,
      message_ready a.ruling.header.kind a.asked.now.sheet.now l.cursor.at _ l.out _ c.message-message.ensures
          (message_within a.asked.now.terms a.asked.now.table.now (header_in a.asked.now.sheet.now a.ruling.header) a.ruling.fallen a.indexed a.ruling.header.kind a.asked.now.sheet.now a.section.at a.section.number (state_of a.register.now a.positions.now) a.index.now a.out.now l.register l.index l.positions l.out (totals_of l.tally) l.slots l.cursor.at l.j l.invariant c.requires.1 low)
          (rw c.line_place-to.ensures (line_space a.asked.now.terms a.asked.now.table.now (header_in a.asked.now.sheet.now a.ruling.header) a.ruling.fallen a.indexed a.ruling.header.kind a.asked.now.sheet.now a.section.at a.section.number (state_of a.register.now a.positions.now) a.index.now a.out.now l.register l.index l.positions l.out (totals_of l.tally) l.slots l.cursor.at l.j l.invariant c.requires.2 low)),
      search rules,
      c.requires.4,
    )

pub overflow_add-slots : goal.overflow_add-slots
overflow_add-slots c =
    let a = c.args in
    let l = c.loop-j in
    let read = c.message-message.ensures in
    let judged = rw (read.place, read.kind, c.line_place-to.ensures) at c.judge_message-verdict.ensures in
    record { fits = slots_room a.asked.now.terms a.asked.now.table.now (header_in a.asked.now.sheet.now a.ruling.header) a.ruling.fallen a.indexed a.ruling.header.kind a.asked.now.sheet.now a.section.at a.section.number (state_of a.register.now a.positions.now) a.index.now a.out.now l.register l.index l.positions l.out (totals_of l.tally) l.slots l.cursor.at l.j l.invariant c.requires.1.few c.loop-j-test.true _ judged.slots }

pub loop-j-preserved : goal.loop-j-preserved
loop-j-preserved c =
    let a = c.args in
    let l = c.loop-j in
    let read = c.message-message.ensures in
    let judged = c.judge_message-verdict in
    let word : c.message-message.result.amount < 2 ^ 64 = search rules in
    messages_turn a.asked.now.terms a.asked.now.table.now (header_in a.asked.now.sheet.now a.ruling.header) a.ruling.fallen a.indexed a.ruling.header.kind a.asked.now.sheet.now a.section.at a.section.number (state_of a.register.now a.positions.now) a.index.now a.out.now l.register l.index l.positions l.out (totals_of l.tally) l.slots l.cursor.at l.j l.invariant c.requires.1 c.loop-j-test.true _ _ _ _ _
    (rw (read.place, read.kind, c.line_place-to.ensures) at judged.ensures)
    judged.auto.register judged.auto.index judged.auto.positions judged.auto.out _ read.amount word _ c.count_message-tally.ensures _ refl _ read.moved

pub returns : goal.returns
returns c =
    let a = c.args in
    let l = c.loop-j in
    messages_end a.asked.now.terms a.asked.now.table.now (header_in a.asked.now.sheet.now a.ruling.header) a.ruling.fallen a.indexed a.ruling.header.kind a.asked.now.sheet.now a.section.at a.section.number (state_of a.register.now a.positions.now) a.index.now a.out.now l.register l.index l.positions l.out (totals_of l.tally) l.slots l.cursor.at l.j l.invariant c.loop-j-test.false _ refl refl
