-- `prolog::first_place` meets its contract: each answer is that of the way that led to it. Assumes nothing.
use mathlib.Core.Path.{sym, ◌∙◌}
use native.Mathlib.Omega.{arith}
use Rattle.wire.specs.Field.{text}
use Rattle.letters.proofs.References.{stands_there}
use Rattle.prolog.proofs.first_place.Goals as goal

pub overflow_add-from : goal.overflow_add-from
overflow_add-from c =
    let args = c.args in
    omega (arith, stands_there args.s.now c.after_mark-from.result (text "<?xml") (sym c.stands_at.ensures ∙ c.if-not-stands_at.false) (omega arith))
