-- Forests in which nothing lacks: told by the first lack, and lowered. Assumes nothing.
use mathlib.Core.Path.{◌≡◌, refl, ap, ◌∙◌}
use mathlib.Core.Bool.{Bool, true, false, cond}
use Prim.Native.Nat.{ℕ, ◌≤◌, ◌<◌, min}
use native.Mathlib.Omega.{arith}
use Rattle.paths.specs.Table.{lacks}
use Rattle.elements.specs.Forest.{Forest, none, tree, count_of}
use Rattle.elements.specs.Questions.{first_lack}
use Rattle.joining.specs.Lowered.{lowered}
use Rattle.joining.proofs.Forests.{Every}

unfoldable pub Lackless : Forest → Type 0
Lackless none = Unit {0}
Lackless (tree role place inner rest) = (lacks role (count_of inner) ≡ false) × Lackless inner × Lackless rest

-- ---- and the first lack

pub lackless_first : (f : Forest) (x : ℕ) → Lackless f → first_lack f x ≡ x
unfolding Lackless first_lack
lackless_first none x all = refl
lackless_first (tree role place inner rest) x all = rw (all.0, lackless_first inner x all.1) (lackless_first rest x all.2)

first_below : (f : Forest) (x : ℕ) → first_lack f x ≤ x
unfolding first_lack
first_below none x = omega arith
first_below (tree role place inner rest) x = by_test (first_below inner x) (first_below rest) (lacks role (count_of inner))
  where
    by_test : first_lack inner x ≤ x → ((y : ℕ) → first_lack rest y ≤ y) → (t : Bool) → first_lack rest (cond t (min (first_lack inner x) place) (first_lack inner x)) ≤ x
    by_test one others true = omega (arith, others (min (first_lack inner x) place))
    by_test one others false = omega (arith, others (first_lack inner x))

pub first_lackless : (limit : ℕ) (f : Forest) (x : ℕ) → Every (λ k. k < limit) f → limit ≤ first_lack f x → Lackless f
unfolding Lackless first_lack Every
first_lackless limit none x every h = tt
first_lackless limit (tree role place inner rest) x every h = by_test (first_lackless limit inner) (first_lackless limit rest) (lacks role (count_of inner)) refl h
  where
    by_test : ((x : ℕ) → Every (λ k. k < limit) inner → limit ≤ first_lack inner x → Lackless inner)
        → ((x : ℕ) → Every (λ k. k < limit) rest → limit ≤ first_lack rest x → Lackless rest)
        → (t : Bool) → lacks role (count_of inner) ≡ t → limit ≤ first_lack rest (cond t (min (first_lack inner x) place) (first_lack inner x))
        → (lacks role (count_of inner) ≡ false) × Lackless inner × Lackless rest
    by_test one others true e h = let low = every.0 in absurd (omega (arith, first_below rest (min (first_lack inner x) place)))
    by_test one others false e h = (e, one x every.1 (omega (arith, first_below rest (first_lack inner x))), others (first_lack inner x) every.2 h)

-- ---- lowered

pub count_lowered : (d : ℕ) (f : Forest) (k : ℕ) → count_of (lowered d f) k ≡ count_of f k
unfolding count_of lowered
count_lowered d none k = refl
count_lowered d (tree role place inner rest) k = rw (count_lowered d rest k)

pub lackless_lowered : (d : ℕ) (f : Forest) → Lackless f → Lackless (lowered d f)
unfolding Lackless lowered
lackless_lowered d none all = tt
lackless_lowered d (tree role place inner rest) all =
    (ap (λ (c : ℕ → ℕ). lacks role c) (λ i k. count_lowered d inner k i) ∙ all.0, lackless_lowered d inner all.1, lackless_lowered d rest all.2)
