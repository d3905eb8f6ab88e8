-- `prolog::encoding_end` meets its contract. Assumes nothing.
use mathlib.Core.Path.{sym, ◌∙◌}
use native.Mathlib.Omega.{arith}
use Rattle.prolog.proofs.Values.{utf8_there}
use Rattle.prolog.proofs.encoding_end.Goals as goal

pub overflow_add-result : goal.overflow_add-result
overflow_add-result c =
    let args = c.args in
    omega (arith, utf8_there args.s.now args.at (sym c.is_utf8.ensures ∙ c.if-is_utf8.true))
