-- `prolog::standalone_end` meets its contract. Assumes nothing.
use mathlib.Core.Path.{sym, ◌∙◌}
use native.Mathlib.Omega.{arith}
use Rattle.wire.specs.Field.{text}
use Rattle.letters.proofs.References.{stands_there}
use Rattle.prolog.proofs.standalone_end.Goals as goal

pub overflow_add-result : goal.overflow_add-result
overflow_add-result c =
    let args = c.args in
    omega (arith, stands_there args.s.now args.at (text "yes") (sym c.stands_at.ensures ∙ c.if-stands_at.true) (omega arith))

pub overflow_add-result-then-stands_at-2 : goal.overflow_add-result-then-stands_at-2
overflow_add-result-then-stands_at-2 c =
    let args = c.args in
    omega (arith, stands_there args.s.now args.at (text "no") (sym c.stands_at-2.ensures ∙ c.if-stands_at-2.true) (omega arith))
