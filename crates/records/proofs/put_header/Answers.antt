-- `records::put_header` meets its contract: seven fields, one after the other. Assumes nothing.
use mathlib.Core.Path.{sym}
use lib.ListN.{get_or}
use Rattle.wire.proofs.Stores.{sets_out}
use Rattle.records.specs.Records.{header_of}
use Rattle.records.proofs.Writes.{header_written}
use Rattle.records.proofs.put_header.Goals as goal

pub returns-then-d-at : goal.returns-then-d-at
returns-then-d-at c =
    let args = c.args in
    sym (sets_out args.d.now args.at (header_of args.s.now (λ k. get_or args.places.now k 0)) c.if-d-at.true)

pub returns : goal.returns
returns c =
    let args = c.args in
    header_written args.d.now args.at args.s.now (λ k. get_or args.places.now k 0)
    c.kind.ensures
    c.marks.ensures
    c.put_number.ensures
    c.put.ensures
    c.put-2.ensures
    c.put-3.ensures
    c.put-4.ensures
    c.put-5.ensures
    c.put_number-2.ensures
