-- `register::samples_with_word` meets its contract: the samples go up to the end, and are no more than the entries passed. Assumes nothing.
use mathlib.Core.Path.{◌≡◌}
use mathlib.Core.Bool.{Bool, true, false}
use Prim.Native.Nat.{ℕ, ◌+◌, ◌-◌, ◌/◌, ◌≤◌, ◌<◌, min}
use native.Mathlib.Omega.{arith}
use lib.Dec.{lit≤}
use mir.Val.{bool_byte}
use Rattle.register.proofs.samples_with_word.Goals as goal

one : (b : Bool) → bool_byte b ≤ 1
one true = lit≤ tt
one false = lit≤ tt

-- the next sample lies behind this one, and at the end at most
behind : (d k to step : ℕ) → step ≡ min (d / 4 + 16) (to - k) → k < to → (k < k + step) × (k + step ≤ to)
behind d k to step e h = (omega arith, omega arith)

pub overflow_add-n : goal.overflow_add-n
overflow_add-n c = omega (arith, one c.has_word.result, c.loop-k.invariant)

pub overflow_add-k : goal.overflow_add-k
overflow_add-k c = omega (arith, behind _ _ _ _ c.min-k.ensures c.loop-k-test.true)

pub loop-k-smaller : goal.loop-k-smaller
loop-k-smaller c = omega (arith, behind _ _ _ _ c.min-k.ensures c.loop-k-test.true)

pub loop-k-preserved : goal.loop-k-preserved
loop-k-preserved c =
    let next = behind _ _ _ _ c.min-k.ensures c.loop-k-test.true in
    (next.1, omega (arith, next.0, one c.has_word.result, c.loop-k.invariant))
