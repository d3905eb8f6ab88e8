-- `register::telling_word` meets its contract: wherever it looks, a word of the key is left. Assumes nothing.
use Prim.Native.Nat.{◌+◌, ◌≤◌}
use Rattle.register.specs.Register.{key_width}
use Rattle.register.proofs.telling_word.Given as goal

abbrev pub invariant-loop-place : goal.invariant-loop-place
invariant-loop-place l = (l.best + 8 ≤ key_width) × (l.place + 8 ≤ key_width)

abbrev pub decreases-loop-place : goal.decreases-loop-place
decreases-loop-place l = l.place
