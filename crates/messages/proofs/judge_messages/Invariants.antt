-- `messages::judge_messages` meets its contract. Assumes nothing.
use Rattle.sheet.specs.Reading.{header_in}
use Rattle.tally.specs.Tally.{totals_of}
use Rattle.messages.specs.Ready.{state_of}
use Rattle.messages.proofs.Loops.{MessagesLeft}
use Rattle.messages.proofs.judge_messages.Given as goal

abbrev pub invariant-loop-j : goal.invariant-loop-j
invariant-loop-j l =
    MessagesLeft l.asked.terms l.asked.table.now (header_in l.asked.sheet.now l.ruling.header) l.ruling.fallen l.indexed l.ruling.header.kind l.asked.sheet.now l.fn.section.at l.fn.section.number (state_of l.initial.register l.initial.positions) l.initial.index l.initial.out l.register l.index l.positions l.out (totals_of l.tally) l.slots l.cursor.at l.j
