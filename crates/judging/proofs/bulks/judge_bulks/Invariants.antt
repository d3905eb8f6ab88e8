-- `judging::bulks::judge_bulks` meets its contract. Assumes nothing.
use Rattle.messages.specs.Ready.{state_of}
use Rattle.judging.proofs.Rounds.{BulksLeft}
use Rattle.judging.proofs.bulks.judge_bulks.Given as goal

abbrev pub invariant-loop-k : goal.invariant-loop-k
invariant-loop-k l =
    BulksLeft l.asked.terms l.asked.table.now l.asked.sheet.now l.indexed l.fn.contents.bulks (state_of l.initial.register l.initial.positions) l.initial.index l.initial.report l.register l.index l.positions l.report l.slots l.walk.heads.at l.walk.bodies.at l.places.line l.places.section l._k
