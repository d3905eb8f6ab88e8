-- `letters::expect` meets its contract: what is left of the word, compared from the place reached on, comes to what the whole does. Assumes nothing.
use mathlib.Core.Path.{◌≡◌}
use lib.ListN.{drop}
use Rattle.letters.specs.Places.{matches, expected}
use Rattle.letters.proofs.expect.Given as goal

abbrev pub invariant-loop-b : goal.invariant-loop-b
invariant-loop-b l = matches (drop l.b-index l.word) (drop l.p l.s) l.p ≡ expected l.s l.word l.at
