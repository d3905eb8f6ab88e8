-- The laws of lowered forests, and of what holds of every place in one. Assumes nothing.
use mathlib.Core.Path.{◌≡◌, refl, ap}
use mathlib.Core.Bool.{Bool, true, false, cond}
use Prim.Native.Nat.{ℕ, ◌+◌, ◌-◌}
use native.Mathlib.Omega.{arith}
use lib.Dec.{eqb}
use Rattle.paths.specs.Roles as roles
use Rattle.elements.specs.Forest.{Forest, none, tree, beside}
use Rattle.elements.specs.Grammar.{whole}
use Rattle.joining.specs.Lowered.{lowered}

-- it holds of every place
unfoldable pub Every : (ℕ → Type 0) → Forest → Type 0
Every P none = Unit {0}
Every P (tree role place inner rest) = P place × Every P inner × Every P rest

-- it holds of every place below the first level
unfoldable pub Under : (ℕ → Type 0) → Forest → Type 0
Under P none = Unit {0}
Under P (tree role place inner rest) = Every P inner × Under P rest

pub every_none : (P : ℕ → Type 0) → Every P none
unfolding Every
every_none P = tt

pub every_beside : (P : ℕ → Type 0) (f g : Forest) → Every P f → Every P g → Every P (beside f g)
unfolding Every beside
every_beside P none g one two = two
every_beside P (tree role place inner rest) g one two = (one.0, one.1, every_beside P rest g one.2 two)

pub every_more : (P Q : ℕ → Type 0) → ((k : ℕ) → P k → Q k) → (f : Forest) → Every P f → Every Q f
unfolding Every
every_more P Q more none one = tt
every_more P Q more (tree role place inner rest) one = (more place one.0, every_more P Q more inner one.1, every_more P Q more rest one.2)

-- ---- one element

pub leaf_every : (P : ℕ → Type 0) (role place : ℕ) → P place → Every P (tree role place none none)
unfolding Every
leaf_every P role place one = (one, tt, tt)

pub leaf_under : (P : ℕ → Type 0) (role place : ℕ) → Under P (tree role place none none)
unfolding Every Under
leaf_under P role place = (tt, tt)

pub whole_every : (P : ℕ → Type 0) (role place : ℕ) (f : Forest) → P place → Every P f → Every P (whole role place f)
unfolding Every
whole_every P role place f one inner = by_test (eqb role roles.other)
  where
    by_test : (t : Bool) → Every P (cond t none (tree role place f none))
    by_test true = tt
    by_test false = (one, inner, tt)

pub whole_under : (P : ℕ → Type 0) (role place : ℕ) (f : Forest) → Every P f → Under P (whole role place f)
unfolding Under
whole_under P role place f inner = by_test (eqb role roles.other)
  where
    by_test : (t : Bool) → Under P (cond t none (tree role place f none))
    by_test true = tt
    by_test false = (inner, tt)

-- ---- lowered

module _ (d : ℕ) where
  pub lowered_none : lowered d none ≡ none
  unfolding lowered
  lowered_none = refl

  pub lowered_beside : (f g : Forest) → lowered d (beside f g) ≡ beside (lowered d f) (lowered d g)
  unfolding lowered beside
  lowered_beside none g = refl
  lowered_beside (tree role place inner rest) g = ap (λ (r : Forest). tree role (place - d) (lowered d inner) r) (lowered_beside rest g)

  pub lowered_leaf : (role place i : ℕ) → place ≡ d + i → lowered d (tree role place none none) ≡ tree role i none none
  unfolding lowered
  lowered_leaf role place i e = ap (λ (k : ℕ). tree role k none none) (omega arith)

  pub lowered_whole : (role place i : ℕ) (f : Forest) → place ≡ d + i → lowered d (whole role place f) ≡ whole role i (lowered d f)
  unfolding lowered
  lowered_whole role place i f e = by_test (eqb role roles.other)
    where
      by_test : (t : Bool) → lowered d (cond t none (tree role place f none)) ≡ cond t none (tree role i (lowered d f) none)
      by_test true = refl
      by_test false = ap (λ (k : ℕ). tree role k (lowered d f) none) (omega arith)
