-- `tags::after_character` meets its contract: a character that stands ends in the text. Assumes nothing.
use mathlib.Core.Path.{sym}
use Prim.Native.Nat.{◌<◌}
use native.Mathlib.Omega.{arith}
use Rattle.letters.proofs.Characters.{width_there}
use Rattle.tags.proofs.after_character.Goals as goal

pub overflow_add-result : goal.overflow_add-result
overflow_add-result c =
    let args = c.args in
    let some : 0 < c.width_at-width.result = omega (arith, c.if-width-eq0.false) in
    omega (arith, width_there args.s.now args.at c.width_at-width.result (sym c.width_at-width.ensures) some)
