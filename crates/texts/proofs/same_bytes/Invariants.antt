-- `texts::same_bytes` meets its contract: what remains from place i on is equal exactly if the whole texts are.
-- Assumes nothing.
use mathlib.Core.Path.{◌≡◌}
use lib.ListN.{drop}
use Rattle.wire.specs.Field.{same}
use Rattle.texts.proofs.same_bytes.Given as goal

abbrev pub invariant-loop-i : goal.invariant-loop-i
invariant-loop-i l = same (drop l.i l.a) (drop l.i l.b) ≡ same l.a l.b
