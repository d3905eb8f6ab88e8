-- The edges come out as the scope says, all of them in one statement. Assumes nothing.
use mathlib.Core.Path.{◌≡◌, refl}
use mathlib.Core.List.{map}
use Rattle.judging.specs.Outcome.{outcome}
use Rattle.judging.proofs.Computing.{outcomes_compute}
use Rattle.promises.specs.Edges.{edges}

pub at_the_edges : map (λ e. e.told (outcome e.call)) edges ≡ map (λ e. e.expected) edges
unfolding outcomes_compute
at_the_edges = refl
