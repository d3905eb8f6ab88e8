-- `letters::width_at` meets its contract: one byte alone, or by four of them. Assumes nothing.
use mathlib.Core.Path.{sym, ◌∙◌}
use Rattle.letters.proofs.Characters.{width_first}
use Rattle.letters.proofs.width_at.Goals as goal

pub returns-then-is_single : goal.returns-then-is_single
returns-then-is_single c =
    let args = c.args in
    width_first args.s.now args.at (rw c.byte_at-a.ensures at (sym c.is_single.ensures ∙ c.if-is_single.true))
