-- `slots::build` meets its contract: a turn of the loop adds a record. Assumes nothing.
use mathlib.Core.Path.{◌∙◌}
use borrow.Author.Rules.{rules}
use Rattle.slots.specs.Stored.{built_in}
use Rattle.slots.specs.Asked.{end_of}
use Rattle.slots.proofs.Turns.{build_more}
use Rattle.slots.proofs.build.Goals as goal

pub loop-k-init : goal.loop-k-init
unfolding built_in
loop-k-init c = search rules

pub loop-k-preserved : goal.loop-k-preserved
loop-k-preserved c =
    let args = c.args in
    let loop = c.loop-k in
    c.add.ensures
    ∙ build_more args.layout args.records.now _ loop.k loop.index _ (end_of c.search-ended.result) loop.invariant c.key_in.ensures c.search-ended.ensures
