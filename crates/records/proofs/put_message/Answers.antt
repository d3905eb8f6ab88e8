-- `records::put_message` meets its contract: six fields, one after the other. Assumes nothing.
use mathlib.Core.Path.{sym}
use lib.ListN.{get_or}
use Rattle.wire.proofs.Stores.{sets_out}
use Rattle.records.specs.Records.{message_of}
use Rattle.records.proofs.Writes.{message_written}
use Rattle.records.proofs.put_message.Goals as goal

pub returns-then-d-at : goal.returns-then-d-at
returns-then-d-at c =
    let args = c.args in
    sym (sets_out args.d.now args.at (message_of args.s.now (λ k. get_or args.places.now k 0)) c.if-d-at.true)

pub returns : goal.returns
returns c =
    let args = c.args in
    message_written args.d.now args.at args.s.now (λ k. get_or args.places.now k 0)
    c.put.ensures
    c.put-2.ensures
    c.put-3.ensures
    c.put-4.ensures
    c.put-5.ensures
    c.put-6.ensures
