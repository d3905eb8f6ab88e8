-- The laws of walks over the same attributes with other tests: a walk with either test breaks where the first of two walks does, each of
-- which has one of the tests. Assumes nothing.
use mathlib.Core.Path.{◌≡◌, refl, sym, ap, ◌∙◌}
use mathlib.Core.Bool.{Bool, true, false, cond, ◌||◌}
use mathlib.Core.List.{List}
use Prim.Native.Nat.{ℕ, zero, suc, ◌≤◌, min}
use native.Mathlib.Omega.{arith}
use lib.ListN.{length}
use Rattle.letters.specs.Places.{byte_at, on_turn, going, walk_by, walk, Reach}
use Rattle.std.specs.Prelude.{Ok, Err}
use Rattle.letters.specs.declared.Turn.{Turn}
use Rattle.letters.specs.declared.Turn.TheVariants.{On, Ends, Breaks}
use Rattle.tags.specs.Names.{is_space, name_start, space_end}
use Rattle.tags.specs.Attributes.{attribute_at}
use Rattle.tags.specs.Twice.{turn_by, sooner}
use Rattle.tags.proofs.AttributeWalk.{attribute_forward}
use Rattle.tags.proofs.Late.{attribute_late, by_late}

-- ---- the first of two

least_itself : (p : ℕ) → min p p ≡ p
least_itself p = omega arith

pub sooner_itself : (p : ℕ) → Err p ≡ sooner (Err p) (Err p)
unfolding sooner
sooner_itself p = ap (λ (q : ℕ). Err q) (sym (least_itself p))

pub sooner_left : (k : ℕ) (r : Reach) → ((p : ℕ) → r ≡ Err p → k ≤ p) → Err k ≡ sooner (Err k) r
unfolding sooner
sooner_left k (Ok e) late = refl
sooner_left k (Err p) late = let after : k ≤ p = late p refl in let least : k ≡ min k p = omega arith in ap (λ (q : ℕ). Err q) least

pub sooner_right : (k : ℕ) (r : Reach) → ((p : ℕ) → r ≡ Err p → k ≤ p) → Err k ≡ sooner r (Err k)
unfolding sooner
sooner_right k (Ok e) late = refl
sooner_right k (Err p) late = let after : k ≤ p = late p refl in let least : k ≡ min p k = omega arith in ap (λ (q : ℕ). Err q) least

pub sooner_joined : (a b c : Reach) → sooner a (sooner b c) ≡ sooner (sooner a b) c
unfolding sooner
sooner_joined (Ok e) b c = refl
sooner_joined (Err p) (Ok e) c = refl
sooner_joined (Err p) (Err q) (Ok e) = refl
sooner_joined (Err p) (Err q) (Err t) = let least : min p (min q t) ≡ min (min p q) t = omega arith in ap (λ (k : ℕ). Err k) least

-- ---- walks of equal turns are equal

module _ (turn other : ℕ → Turn) (equal : (i : ℕ) → turn i ≡ other i) where
  by_same : (n at : ℕ) → walk_by turn n at ≡ walk_by other n at
  unfolding walk_by
  by_same zero at = refl
  by_same (suc n) at = (rw (equal at)) ∙ by_turn (by_same n) (other at)
    where
      by_turn : ((at : ℕ) → walk_by turn n at ≡ walk_by other n at) → (r : Turn) → on_turn r (λ next. walk_by turn n next) ≡ on_turn r (λ next. walk_by other n next)
      by_turn rest (On next) = rest next
      by_turn rest (Ends e) = refl
      by_turn rest (Breaks p) = refl

  pub walk_same : (s : List ℕ) (at : ℕ) → walk turn s at ≡ walk other s at
  unfolding walk
  walk_same s at = by_same (suc (length s)) at

-- ---- the split

module _ (f g h : ℕ → Bool) (s : List ℕ) (from : ℕ) (either : (k : ℕ) → from ≤ k → f k ≡ (g k || h k)) where
  by_split : (n at : ℕ) → from ≤ at → walk_by (turn_by f s) n at ≡ sooner (walk_by (turn_by g s) n at) (walk_by (turn_by h s) n at)
  unfolding walk_by turn_by sooner
  by_split zero at le = sooner_itself at
  by_split (suc n) at le = step (by_split n)
    where
      step : ((at : ℕ) → from ≤ at → walk_by (turn_by f s) n at ≡ sooner (walk_by (turn_by g s) n at) (walk_by (turn_by h s) n at))
          → on_turn (turn_by f s at) (λ next. walk_by (turn_by f s) n next)
          ≡ sooner (on_turn (turn_by g s at) (λ next. walk_by (turn_by g s) n next)) (on_turn (turn_by h s at) (λ next. walk_by (turn_by h s) n next))
      step rest =
          (rw (either (space_end s at) (omega arith)))
          ∙ by_test (is_space (byte_at s at)) (name_start (byte_at s (space_end s at))) (g (space_end s at)) (h (space_end s at)) (attribute_at s (space_end s at)) refl
        where
          after : (t : ℕ → Bool) (r : Reach) → attribute_at s (space_end s at) ≡ r → (p : ℕ)
              → on_turn (going r) (λ next. walk_by (turn_by t s) n next) ≡ Err p → space_end s at ≤ p
          after t (Ok m) q p told = let on = attribute_forward s (space_end s at) m q in omega (arith, by_late t s n m p told)
          after t (Err k) q p told = let same : k ≡ p = cc in omega (arith, attribute_late s (space_end s at) k q)

          by_test : (a b c d : Bool) (r : Reach) → attribute_at s (space_end s at) ≡ r
              → on_turn (cond a (cond b (cond (c || d) (Breaks (space_end s at)) (going r)) (Ends (space_end s at))) (Ends at)) (λ next. walk_by (turn_by f s) n next)
              ≡ sooner
              (on_turn (cond a (cond b (cond c (Breaks (space_end s at)) (going r)) (Ends (space_end s at))) (Ends at)) (λ next. walk_by (turn_by g s) n next))
              (on_turn (cond a (cond b (cond d (Breaks (space_end s at)) (going r)) (Ends (space_end s at))) (Ends at)) (λ next. walk_by (turn_by h s) n next))
          by_test false b c d r q = refl
          by_test true false c d r q = refl
          by_test true true true true r q = sooner_itself (space_end s at)
          by_test true true true false r q = sooner_left (space_end s at) (on_turn (going r) (λ next. walk_by (turn_by h s) n next)) (after h r q)
          by_test true true false true r q = sooner_right (space_end s at) (on_turn (going r) (λ next. walk_by (turn_by g s) n next)) (after g r q)
          by_test true true false false (Ok m) q = let on = attribute_forward s (space_end s at) m q in rest m (omega arith)
          by_test true true false false (Err p) q = sooner_itself p

  pub walk_split : (at : ℕ) → from ≤ at → walk (turn_by f s) s at ≡ sooner (walk (turn_by g s) s at) (walk (turn_by h s) s at)
  unfolding walk
  walk_split at le = by_split (suc (length s)) at le
