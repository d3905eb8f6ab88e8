-- `messages::sum_of` meets its contract: the sum so far and that of what is left come to the whole. Assumes nothing.
use Rattle.tally.specs.Tally.{cents_of}
use Rattle.messages.proofs.Amounts.{SumLeft}
use Rattle.messages.proofs.sum_of.Given as goal

abbrev pub invariant-loop-j : goal.invariant-loop-j
invariant-loop-j l = SumLeft l.kind l.sheet l.fn.section.at l.fn.section.number (cents_of l.sum) l.cursor.at l._j
