-- `letters::numeral` meets its contract: what was read, with what is left, comes to the whole number, or both are too high. Assumes nothing.
use mathlib.Core.Path.{◌≡◌}
use Prim.Native.Nat.{◌≤◌, min}
use lib.ListN.{drop}
use Rattle.letters.specs.References.{numeral_from, numeral}
use Rattle.letters.proofs.numeral.Given as goal

abbrev pub invariant-loop-b : goal.invariant-loop-b
invariant-loop-b l = (l.v ≤ 1114112) × (min (numeral_from l.base l.v (drop l.b-index l.s)) 1114112 ≡ min (numeral l.base l.s) 1114112)
