-- `meanings::hundredths` meets its contract. Assumes nothing.
use mathlib.Core.Path.{ap, ◌∙◌}
use Prim.Native.Nat.{ℕ, ◌*◌}
use native.Mathlib.Omega.{arith}
use Rattle.meanings.proofs.Forms.{decimal_small, tenths, as_it_stands_lem}
use Rattle.meanings.proofs.hundredths.Goals as goal

pub overflow_mul-result : goal.overflow_mul-result
overflow_mul-result c =
    omega (arith, decimal_small c.args.t.now 2 c.requires.t_value c.requires.t_len_bound)

pub returns-then-t-eq1 : goal.returns-then-t-eq1
returns-then-t-eq1 c =
    let t = c.args.t.now in
    ap (λ (n : ℕ). n * 10) c.decimal.ensures ∙ tenths t c.if-t-eq1.true

pub returns-else-t-eq1 : goal.returns-else-t-eq1
returns-else-t-eq1 c =
    c.decimal-else-t-eq1.ensures ∙ as_it_stands_lem c.args.t.now c.requires.t_len_bound c.if-t-eq1.false
