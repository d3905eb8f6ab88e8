-- `prolog::version_end` meets its contract. Assumes nothing.
use mathlib.Core.Path.{sym, ◌∙◌}
use native.Mathlib.Omega.{arith}
use Rattle.wire.specs.Field.{text}
use Rattle.letters.proofs.References.{stands_there}
use Rattle.prolog.proofs.version_end.Goals as goal

pub overflow_add-at : goal.overflow_add-at
overflow_add-at c =
    let args = c.args in
    omega (arith, stands_there args.s.now args.at (text "1.") (sym c.stands_at.ensures ∙ c.if-not-stands_at.false) (omega arith))
