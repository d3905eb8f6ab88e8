-- Nothing breaks before where it begins: a value, an attribute, a walk over attributes. Assumes nothing.
use mathlib.Core.Path.{◌≡◌, refl}
use mathlib.Core.Bool.{Bool, true, false, cond}
use mathlib.Core.List.{List}
use Prim.Native.Nat.{ℕ, zero, suc, ◌+◌, ◌≤◌}
use native.Mathlib.Omega.{arith}
use lib.Dec.{eqb}
use lib.ListN.{length}
use Rattle.letters.specs.Places.{byte_at, on_turn, going, walk_by, walk, Reach}
use Rattle.letters.specs.Characters.{width_at}
use Rattle.letters.specs.References.{reference_at}
use Rattle.std.specs.Prelude.{Ok, Err, Option, Some, None}
use Rattle.letters.specs.declared.Turn.{Turn}
use Rattle.letters.specs.declared.Turn.TheVariants.{On, Ends, Breaks}
use Rattle.letters.specs.declared.Reference.{Reference}
use Rattle.letters.proofs.Walks.{Onward, walk_turn}
use Rattle.tags.specs.Names.{is_space, name_start, space_end}
use Rattle.tags.specs.Attributes.{after_reference, value_turn, value_at, is_quote, equals_at, quote_at, attribute_at}
use Rattle.tags.specs.Twice.{turn_by}
use Rattle.tags.proofs.Values.{value_on}
use Rattle.tags.proofs.AttributeWalk.{attribute_forward}

-- ---- a walk whose turns do not

module _ (turn : ℕ → Turn) (on : (i n : ℕ) → turn i ≡ On n → i ≤ n) (breaks : (i p : ℕ) → turn i ≡ Breaks p → i ≤ p) where
  pub walk_late : (f at p : ℕ) → walk_by turn f at ≡ Err p → at ≤ p
  unfolding walk_by
  walk_late zero at p e = let same : at ≡ p = cc in omega arith
  walk_late (suc f) at p e = by_turn (walk_late f) (turn at) refl e
    where
      by_turn : ((at p : ℕ) → walk_by turn f at ≡ Err p → at ≤ p) → (r : Turn) → turn at ≡ r → on_turn r (λ next. walk_by turn f next) ≡ Err p → at ≤ p
      by_turn rest (On next) e told = omega (arith, on at next e, rest next p told)
      by_turn rest (Ends m) e told = absurd (let z : ◌≡◌ {A = ℕ} 0 1 = cc in omega arith)
      by_turn rest (Breaks q) e told = let same : q ≡ p = cc in omega (arith, breaks at q e)

-- ---- a value

module _ (quote : ℕ) (s : List ℕ) where
  value_breaks : (at p : ℕ) → value_turn quote s at ≡ Breaks p → at ≤ p
  unfolding value_turn
  value_breaks at p e = by_test (eqb (byte_at s at) quote) (eqb (byte_at s at) 60) (eqb (byte_at s at) 38) (reference_at s at) (eqb (width_at s at) 0) e
    where
      by_test : (a b c : Bool) (r : Option Reference) (d : Bool)
          → cond a (Ends (at + 1)) (cond b (Breaks at) (cond c (after_reference r at) (cond d (Breaks at) (On (at + width_at s at))))) ≡ Breaks p
          → at ≤ p
      by_test true b c r d told = absurd (let z : ◌≡◌ {A = ℕ} 0 1 = cc in omega arith)
      by_test false true c r d told = let same : at ≡ p = cc in omega arith
      by_test false false true (Some r) d told = absurd (let z : ◌≡◌ {A = ℕ} 0 1 = cc in omega arith)
      by_test false false true None d told = let same : at ≡ p = cc in omega arith
      by_test false false false r true told = let same : at ≡ p = cc in omega arith
      by_test false false false r false told = absurd (let z : ◌≡◌ {A = ℕ} 0 1 = cc in omega arith)

  value_late : (at p : ℕ) → value_at quote s at ≡ Err p → at ≤ p
  unfolding value_at walk
  value_late at p e = walk_late (value_turn quote s) (λ i n e. (let on = value_on quote s i n e in omega arith)) value_breaks (suc (length s)) at p e

-- ---- an attribute, and a turn

pub attribute_late : (s : List ℕ) (at p : ℕ) → attribute_at s at ≡ Err p → at ≤ p
unfolding attribute_at
attribute_late s at p e = by_test (eqb (byte_at s (equals_at s at)) 61) (is_quote (byte_at s (quote_at s at))) e
  where
    by_test : (a b : Bool)
        → cond a (cond b (value_at (byte_at s (quote_at s at)) s (quote_at s at + 1)) (Err (quote_at s at))) (Err (equals_at s at)) ≡ Err p
        → at ≤ p
    by_test false b told = let same : equals_at s at ≡ p = cc in omega arith
    by_test true false told = let same : quote_at s at ≡ p = cc in omega arith
    by_test true true told = omega (arith, value_late (byte_at s (quote_at s at)) s (quote_at s at + 1) p told)

module _ (twice : ℕ → Bool) (s : List ℕ) where
  -- what a turn that goes on went over
  pub turn_over : (at next : ℕ) → turn_by twice s at ≡ On next → attribute_at s (space_end s at) ≡ Ok next
  unfolding turn_by
  turn_over at next e = by_test (is_space (byte_at s at)) (name_start (byte_at s (space_end s at))) (twice (space_end s at)) (attribute_at s (space_end s at)) e
    where
      by_test : (a b c : Bool) (r : Reach)
          → cond a (cond b (cond c (Breaks (space_end s at)) (going r)) (Ends (space_end s at))) (Ends at) ≡ On next
          → r ≡ Ok next
      by_test false b c r told = absurd (let z : ◌≡◌ {A = ℕ} 0 1 = cc in omega arith)
      by_test true false c r told = absurd (let z : ◌≡◌ {A = ℕ} 0 1 = cc in omega arith)
      by_test true true true r told = absurd (let z : ◌≡◌ {A = ℕ} 0 1 = cc in omega arith)
      by_test true true false (Err k) told = absurd (let z : ◌≡◌ {A = ℕ} 0 1 = cc in omega arith)
      by_test true true false (Ok m) told = let same : m ≡ next = cc in rw same

  turn_breaks : (at p : ℕ) → turn_by twice s at ≡ Breaks p → at ≤ p
  unfolding turn_by
  turn_breaks at p e = by_test (is_space (byte_at s at)) (name_start (byte_at s (space_end s at))) (twice (space_end s at)) (attribute_at s (space_end s at)) refl e
    where
      by_test : (a b c : Bool) (r : Reach) → attribute_at s (space_end s at) ≡ r
          → cond a (cond b (cond c (Breaks (space_end s at)) (going r)) (Ends (space_end s at))) (Ends at) ≡ Breaks p
          → at ≤ p
      by_test false b c r q told = absurd (let z : ◌≡◌ {A = ℕ} 0 1 = cc in omega arith)
      by_test true false c r q told = absurd (let z : ◌≡◌ {A = ℕ} 0 1 = cc in omega arith)
      by_test true true true r q told = let same : space_end s at ≡ p = cc in omega arith
      by_test true true false (Err k) q told = let same : k ≡ p = cc in omega (arith, attribute_late s (space_end s at) k q)
      by_test true true false (Ok m) q told = absurd (let z : ◌≡◌ {A = ℕ} 0 1 = cc in omega arith)

  turn_goes : (at next : ℕ) → turn_by twice s at ≡ On next → at ≤ next
  turn_goes at next e = let on = attribute_forward s (space_end s at) next (turn_over at next e) in omega arith

  pub by_late : (f at p : ℕ) → walk_by (turn_by twice s) f at ≡ Err p → at ≤ p
  by_late f at p e = walk_late (turn_by twice s) turn_goes turn_breaks f at p e

  turn_ending : (at n : ℕ) → turn_by twice s at ≡ Ends n → at ≤ n
  unfolding turn_by
  turn_ending at n e = by_test (is_space (byte_at s at)) (name_start (byte_at s (space_end s at))) (twice (space_end s at)) (attribute_at s (space_end s at)) e
    where
      by_test : (a b c : Bool) (r : Reach)
          → cond a (cond b (cond c (Breaks (space_end s at)) (going r)) (Ends (space_end s at))) (Ends at) ≡ Ends n
          → at ≤ n
      by_test false b c r told = let same : at ≡ n = cc in omega arith
      by_test true false c r told = let same : space_end s at ≡ n = cc in omega arith
      by_test true true true r told = absurd (let z : ◌≡◌ {A = ℕ} 0 1 = cc in omega arith)
      by_test true true false (Err k) told = absurd (let z : ◌≡◌ {A = ℕ} 0 1 = cc in omega arith)
      by_test true true false (Ok m) told = absurd (let z : ◌≡◌ {A = ℕ} 0 1 = cc in omega arith)

  pub by_onward : Onward (turn_by twice s) (length s)
  by_onward =
      record {
        inside = λ i n e. (let on = attribute_forward s (space_end s i) n (turn_over i n e) in omega arith);
        forward = λ i n e. (let on = attribute_forward s (space_end s i) n (turn_over i n e) in omega arith);
        ending = turn_ending;
      }

  pub by_turn : (at : ℕ) (r : Turn) → turn_by twice s at ≡ r → walk (turn_by twice s) s at ≡ on_turn r (λ next. walk (turn_by twice s) s next)
  by_turn at r e = walk_turn (turn_by twice s) s by_onward at r e
