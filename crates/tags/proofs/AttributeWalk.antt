-- The laws of attributes: each way through one and through a turn, what leads forward, and what is left of a walk. Assumes nothing.
use mathlib.Core.Path.{◌≡◌, refl}
use mathlib.Core.Bool.{Bool, true, false, cond, false≢true}
use mathlib.Core.List.{List}
use Prim.Native.Nat.{ℕ, zero, suc, ◌+◌, ◌≤◌, ◌<◌}
use native.Mathlib.Omega.{arith}
use lib.Dec.{eqb}
use lib.ListN.{length}
use borrow.Author.Tests.{eq-eqb}
use Rattle.letters.specs.Places.{byte_at, on_turn, going, walk_by, walk, Reach}
use Rattle.std.specs.Prelude.{Ok, Err}
use Rattle.letters.specs.declared.Turn.{Turn}
use Rattle.letters.specs.declared.Turn.TheVariants.{On, Ends, Breaks}
use Rattle.letters.proofs.Scans.{byte_there}
use Rattle.letters.proofs.Walks.{Onward, walk_turn, walk_forward}
use Rattle.tags.specs.Names.{is_space, name_start, space_end}
use Rattle.tags.specs.Attributes.{value_at, is_quote, equals_at, quote_at, attribute_at, named, attribute_turn, attributes_at}
use Rattle.tags.proofs.Values.{value_forward}

-- ---- what a place in the text holds

pub space_some : (b : ℕ) → is_space b ≡ true → 0 < b
unfolding is_space
space_some zero e = absurd (false≢true e)
space_some (suc b) e = omega arith

pub quote_some : (b : ℕ) → is_quote b ≡ true → 0 < b
quote_some zero e = absurd (false≢true e)
quote_some (suc b) e = omega arith

-- ---- an attribute

module _ (s : List ℕ) (at e : ℕ) (equals : e ≡ equals_at s at) where
  module _ (is : byte_at s e ≡ 61) (q : ℕ) (quote : q ≡ space_end s (e + 1)) where
    pub attribute_value : is_quote (byte_at s q) ≡ true → value_at (byte_at s q) s (q + 1) ≡ attribute_at s at
    unfolding attribute_at
    attribute_value some = rw (← equals, ← quote, eq-eqb (byte_at s e) 61 is, some)

pub attribute_forward : (s : List ℕ) (at n : ℕ) → attribute_at s at ≡ Ok n → (at < n) × (at < length s)
unfolding attribute_at
attribute_forward s at n e = by_test (eqb (byte_at s (equals_at s at)) 61) (is_quote (byte_at s (quote_at s at))) refl e
  where
    by_test : (a b : Bool) → is_quote (byte_at s (quote_at s at)) ≡ b
        → cond a (cond b (value_at (byte_at s (quote_at s at)) s (quote_at s at + 1)) (Err (quote_at s at))) (Err (equals_at s at)) ≡ Ok n
        → (at < n) × (at < length s)
    by_test false b q told = absurd (let z : ◌≡◌ {A = ℕ} 0 1 = cc in omega arith)
    by_test true false q told = absurd (let z : ◌≡◌ {A = ℕ} 0 1 = cc in omega arith)
    by_test true true q told =
        let on : quote_at s at + 1 ≤ n = value_forward (byte_at s (quote_at s at)) s (quote_at s at + 1) n told in
        let there : quote_at s at < length s = byte_there s (quote_at s at) (quote_some (byte_at s (quote_at s at)) q) in
        (omega arith, omega arith)

-- ---- each way through a turn

module _ (s : List ℕ) (from at : ℕ) where
  pub turn_plain : is_space (byte_at s at) ≡ false → Ends at ≡ attribute_turn s from at
  unfolding attribute_turn
  turn_plain e = rw e

  module _ (spaced : is_space (byte_at s at) ≡ true) (k : ℕ) (after : k ≡ space_end s at) where
    pub turn_ends : name_start (byte_at s k) ≡ false → Ends k ≡ attribute_turn s from at
    unfolding attribute_turn
    turn_ends e = rw (spaced, ← after, e)

    module _ (begins : name_start (byte_at s k) ≡ true) where
      pub turn_on : named s from k ≡ false → (r : Reach) → attribute_at s k ≡ r → going r ≡ attribute_turn s from at
      unfolding attribute_turn
      turn_on e r told = rw (spaced, ← after, begins, e, told)

-- ---- the walk

module _ (s : List ℕ) (from : ℕ) where
  pub turn_forward : (at n : ℕ) → attribute_turn s from at ≡ On n → (at < length s) × (at < n)
  unfolding attribute_turn
  turn_forward at n e = by_test (is_space (byte_at s at)) refl (name_start (byte_at s (space_end s at))) (named s from (space_end s at)) (attribute_at s (space_end s at)) refl e
    where
      by_test : (a : Bool) → is_space (byte_at s at) ≡ a → (b c : Bool) (r : Reach) → attribute_at s (space_end s at) ≡ r
          → cond a (cond b (cond c (Breaks (space_end s at)) (going r)) (Ends (space_end s at))) (Ends at) ≡ On n
          → (at < length s) × (at < n)
      by_test false p b c r q told = absurd (let z : ◌≡◌ {A = ℕ} 0 1 = cc in omega arith)
      by_test true p false c r q told = absurd (let z : ◌≡◌ {A = ℕ} 0 1 = cc in omega arith)
      by_test true p true true r q told = absurd (let z : ◌≡◌ {A = ℕ} 0 1 = cc in omega arith)
      by_test true p true false (Err k) q told = absurd (let z : ◌≡◌ {A = ℕ} 0 1 = cc in omega arith)
      by_test true p true false (Ok m) q told =
          let same : m ≡ n = cc in
          let there = byte_there s at (space_some (byte_at s at) p) in
          let on = attribute_forward s (space_end s at) m q in
          (omega arith, omega arith)

  turn_ending : (at n : ℕ) → attribute_turn s from at ≡ Ends n → at ≤ n
  unfolding attribute_turn
  turn_ending at n e = by_test (is_space (byte_at s at)) (name_start (byte_at s (space_end s at))) (named s from (space_end s at)) (attribute_at s (space_end s at)) e
    where
      by_test : (a b c : Bool) (r : Reach)
          → cond a (cond b (cond c (Breaks (space_end s at)) (going r)) (Ends (space_end s at))) (Ends at) ≡ Ends n
          → at ≤ n
      by_test false b c r told = let same : at ≡ n = cc in omega arith
      by_test true false c r told = let same : space_end s at ≡ n = cc in omega arith
      by_test true true true r told = absurd (let z : ◌≡◌ {A = ℕ} 0 1 = cc in omega arith)
      by_test true true false (Err k) told = absurd (let z : ◌≡◌ {A = ℕ} 0 1 = cc in omega arith)
      by_test true true false (Ok m) told = absurd (let z : ◌≡◌ {A = ℕ} 0 1 = cc in omega arith)

  attributes_onward : Onward (attribute_turn s from) (length s)
  attributes_onward =
      record {
        inside = λ i n e. (let on = turn_forward i n e in omega arith);
        forward = λ i n e. (let on = turn_forward i n e in omega arith);
        ending = turn_ending;
      }

  pub attributes_turn : (at : ℕ) (r : Turn) → attribute_turn s from at ≡ r
      → walk (attribute_turn s from) s at ≡ on_turn r (λ next. walk (attribute_turn s from) s next)
  attributes_turn at r e = walk_turn (attribute_turn s from) s attributes_onward at r e

  pub attributes_forward : (n : ℕ) → attributes_at s from ≡ Ok n → from ≤ n
  unfolding attributes_at
  attributes_forward n e = walk_forward (attribute_turn s from) s attributes_onward from n e

  -- there are none, unless a space begins them
  pub attributes_none : is_space (byte_at s from) ≡ false → attributes_at s from ≡ Ok from
  unfolding attributes_at walk walk_by attribute_turn
  attributes_none e = rw e
