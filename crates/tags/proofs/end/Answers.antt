-- `tags::end` meets its contract: past the end of the text no name stands, from whichever place on. Assumes nothing.
use mathlib.Core.Path.{ap, ◌∙◌}
use Prim.Native.Nat.{ℕ}
use Rattle.tags.specs.Tags.{end_at}
use Rattle.tags.proofs.Tags.{end_least}
use Rattle.tags.proofs.end.Goals as goal

pub returns : goal.returns
returns c =
    let args = c.args in
    c.end_from.ensures
    ∙ ap (λ (k : ℕ). end_at args.s.now k args.at) c.least-begin.ensures
    ∙ end_least args.s.now args.start args.at
