-- `slots::front_at` meets its contract: equal fronts come to the same. Assumes nothing.
use mathlib.Core.Path.{sym, ap, ◌∙◌}
use mathlib.Core.List.{List}
use Prim.Native.Nat.{ℕ, ◌<◌}
use native.Mathlib.Omega.{arith}
use Rattle.wire.proofs.Texts.{same_equal}
use Rattle.slots.specs.Slots.{start_at}
use Rattle.slots.specs.Stored.{digits}
use Rattle.slots.proofs.front_at.Goals as goal

pub returns-then-same : goal.returns-then-same
returns-then-same c =
    let args = c.args in
    let some : 0 < args.k = omega (arith, c.if-k-eq0.false) in
    let equal = same_equal _ _ (sym c.same.ensures ∙ c.if-same.true) in
    c.requires.last some
    ∙ ap (λ (l : List ℕ). start_at (digits l) args.n) (sym c.front_in.ensures ∙ sym equal ∙ c.front_in-front.ensures)
