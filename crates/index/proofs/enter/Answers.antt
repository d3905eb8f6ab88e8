-- `index::enter` meets its contract: a key added to the register and to its index. Assumes nothing.
use mathlib.Core.Path.{◌∙◌}
use Rattle.index.proofs.Telling.{entered_by_lem, entered_plain}
use Rattle.index.proofs.enter.Goals as goal
use Rattle.index.proofs.enter.Goals.{then-indexed, else-indexed}

pub returns : goal.returns
returns c =
    let args = c.args in
    record {
      recorded = c.add-2.ensures;
      kept = elim c.if-indexed.branch [
        | then-indexed w ↦ entered_by_lem args.register.now args.index.now args.key.now args.indexed args.sought _ _ c.requires w.if-indexed.true w.used.ensures (w.index-is ∙ w.add.ensures)
        | else-indexed w ↦ entered_plain args.register.now args.index.now args.key.now args.indexed _ w.if-indexed.false w.index-is
      ];
    }
