-- `messages::sum_of` meets its contract: the sum so far and that of what is left come to the whole. Assumes nothing.
use Rattle.sheet.proofs.Fields.{amount_word}
use Rattle.messages.proofs.Amounts.{sum_more, sum_ends}
use Rattle.messages.proofs.sum_of.Goals as goal

pub loop-j-preserved : goal.loop-j-preserved
loop-j-preserved c =
    let a = c.args in
    let l = c.loop-j in
    let read = c.message-message.ensures in
    let word = amount_word a.kind a.sheet.now l.cursor.at _ (λ i. (c.type_inv.sheet i).fits) read.amount in
    sum_more _ _ _ _ _ _ _ l.invariant c.loop-j-test.true _ _ _ read.amount word c.plus-sum.ensures read.moved

pub returns : goal.returns
returns c = sum_ends _ _ _ _ _ _ _ c.loop-j.invariant c.loop-j-test.false
