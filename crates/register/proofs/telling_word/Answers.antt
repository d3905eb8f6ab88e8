-- `register::telling_word` meets its contract: wherever it looks, a word of the key is left. Assumes nothing.
use mathlib.Core.Path.{◌≡◌}
use Prim.Native.Nat.{ℕ, ◌+◌, ◌-◌, ◌≤◌, ◌<◌, min}
use native.Mathlib.Omega.{arith}
use Rattle.register.specs.Register.{key_width}
use Rattle.register.proofs.telling_word.Goals as goal

smaller : (place less : ℕ) → less ≡ min place 8 → 0 < place → place - less < place
smaller place less e h = omega arith

fits : (place less : ℕ) → place + 8 ≤ key_width → place - less + 8 ≤ key_width
fits place less h = omega arith

pub loop-place-smaller-then-n-fewest : goal.loop-place-smaller-then-n-fewest
loop-place-smaller-then-n-fewest c = smaller _ _ c.min-place.ensures c.loop-place-test.true

pub loop-place-preserved-then-n-fewest : goal.loop-place-preserved-then-n-fewest
loop-place-preserved-then-n-fewest c = let next = fits _ _ c.loop-place.invariant.1 in (next, next)

pub loop-place-smaller : goal.loop-place-smaller
loop-place-smaller c = smaller _ _ c.min-place.ensures c.loop-place-test.true

pub loop-place-preserved : goal.loop-place-preserved
loop-place-preserved c = (c.loop-place.invariant.0, fits _ _ c.loop-place.invariant.1)
