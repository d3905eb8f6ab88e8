-- `tags::currency::spells_euros` meets its contract: letter by letter. Assumes nothing.
use mathlib.Core.Path.{sym, ap, ◌∙◌}
use Prim.Native.Nat.{ℕ}
use lib.Dec.{eqb}
use Rattle.tags.proofs.Searches.{euro_spells}
use Rattle.tags.proofs.currency.spells_euros.Goals as goal

pub returns-in-Ok : goal.returns-in-Ok
returns-in-Ok c =
    let args = c.args in
    ap (λ (b : ℕ). eqb b args.quote) c.byte_at.ensures ∙ euro_spells args.quote args.s.now args.at _ (sym c.euro_end.ensures ∙ c.in-Ok.is)

pub returns-in-Err : goal.returns-in-Err
returns-in-Err c =
    let args = c.args in
    euro_spells args.quote args.s.now args.at _ (sym c.euro_end.ensures ∙ c.in-Err.is)
