-- The laws of a value: each turn that goes on leads forward in the text, and what is left of a walk comes to what the whole does.
-- Assumes nothing.
use mathlib.Core.Path.{◌≡◌, refl}
use mathlib.Core.Bool.{Bool, true, false, cond}
use mathlib.Core.List.{List}
use Prim.Native.Nat.{ℕ, ◌+◌, ◌≤◌, ◌<◌}
use native.Mathlib.Omega.{arith}
use lib.Dec.{eqb}
use lib.ListN.{length}
use borrow.Author.Tests.{eq-eqb, ne_eqb, eqb-false}
use Rattle.letters.specs.Places.{byte_at, on_turn}
use Rattle.letters.specs.Characters.{width_at}
use Rattle.letters.specs.References.{reference_at}
use Rattle.std.specs.Prelude.{Ok, Option, Some, None}
use Rattle.letters.specs.declared.Turn.{Turn}
use Rattle.letters.specs.declared.Turn.TheVariants.{On, Ends, Breaks}
use Rattle.letters.specs.declared.Reference.{Reference}
use Rattle.letters.proofs.Walks.{Onward, walk_turn, walk_forward}
use Rattle.letters.proofs.Characters.{width_there}
use Rattle.letters.proofs.References.{reference_forward}
use Rattle.tags.specs.Attributes.{after_reference, after_character, value_turn, value_at}

-- ---- references and characters lead on, within the text, and end nothing

module _ (s : List ℕ) (at n : ℕ) where
  pub reference_on : after_reference (reference_at s at) at ≡ On n → (at < n) × (n ≤ length s)
  reference_on told = by_case (reference_at s at) refl told
    where
      by_case : (r : Option Reference) → reference_at s at ≡ r → after_reference r at ≡ On n → (at < n) × (n ≤ length s)
      by_case (Some r) e told =
          let same : r.next ≡ n = cc in
          let ahead = reference_forward s at r.character r.next e in
          (omega arith, omega arith)
      by_case None e told = absurd (let z : ◌≡◌ {A = ℕ} 0 1 = cc in omega arith)

  pub reference_unending : after_reference (reference_at s at) at ≡ Ends n → ⊥
  reference_unending told = by_case (reference_at s at) told
    where
      by_case : (r : Option Reference) → after_reference r at ≡ Ends n → ⊥
      by_case (Some r) told = let z : ◌≡◌ {A = ℕ} 0 1 = cc in omega arith
      by_case None told = let z : ◌≡◌ {A = ℕ} 0 1 = cc in omega arith

  pub character_on : after_character (width_at s at) at ≡ On n → (at < n) × (n ≤ length s)
  character_on told = by_test (eqb (width_at s at) 0) refl told
    where
      by_test : (t : Bool) → eqb (width_at s at) 0 ≡ t → cond t (Breaks at) (On (at + width_at s at)) ≡ On n → (at < n) × (n ≤ length s)
      by_test true e told = absurd (let z : ◌≡◌ {A = ℕ} 0 1 = cc in omega arith)
      by_test false e told =
          let same : at + width_at s at ≡ n = cc in
          let some : 0 < width_at s at = omega (arith, eqb-false (width_at s at) 0 e) in
          let there = width_there s at (width_at s at) refl some in
          (omega arith, omega arith)

  pub character_unending : after_character (width_at s at) at ≡ Ends n → ⊥
  character_unending told = by_test (eqb (width_at s at) 0) told
    where
      by_test : (t : Bool) → cond t (Breaks at) (On (at + width_at s at)) ≡ Ends n → ⊥
      by_test true told = let z : ◌≡◌ {A = ℕ} 0 1 = cc in omega arith
      by_test false told = let z : ◌≡◌ {A = ℕ} 0 1 = cc in omega arith

-- ---- each way through a turn

module _ (quote : ℕ) (s : List ℕ) (at : ℕ) where
  module _ (other : byte_at s at ≡ quote → ⊥) where
    module _ (plain : byte_at s at ≡ 60 → ⊥) where
      pub value_reference : byte_at s at ≡ 38 → after_reference (reference_at s at) at ≡ value_turn quote s at
      unfolding value_turn
      value_reference e = rw (ne_eqb (byte_at s at) quote other, ne_eqb (byte_at s at) 60 plain, eq-eqb (byte_at s at) 38 e)

      pub value_character : (byte_at s at ≡ 38 → ⊥) → after_character (width_at s at) at ≡ value_turn quote s at
      unfolding value_turn
      value_character e = rw (ne_eqb (byte_at s at) quote other, ne_eqb (byte_at s at) 60 plain, ne_eqb (byte_at s at) 38 e)

-- ---- the walk

module _ (quote : ℕ) (s : List ℕ) where
  pub value_on : (at n : ℕ) → value_turn quote s at ≡ On n → (at < n) × (n ≤ length s)
  unfolding value_turn
  value_on at n e = by_test (eqb (byte_at s at) quote) (eqb (byte_at s at) 60) (eqb (byte_at s at) 38) e
    where
      by_test : (a b c : Bool)
          → cond a (Ends (at + 1)) (cond b (Breaks at) (cond c (after_reference (reference_at s at) at) (after_character (width_at s at) at))) ≡ On n
          → (at < n) × (n ≤ length s)
      by_test true b c told = absurd (let z : ◌≡◌ {A = ℕ} 0 1 = cc in omega arith)
      by_test false true c told = absurd (let z : ◌≡◌ {A = ℕ} 0 1 = cc in omega arith)
      by_test false false true told = reference_on s at n told
      by_test false false false told = character_on s at n told

  value_ends : (at n : ℕ) → value_turn quote s at ≡ Ends n → at ≤ n
  unfolding value_turn
  value_ends at n e = by_test (eqb (byte_at s at) quote) (eqb (byte_at s at) 60) (eqb (byte_at s at) 38) e
    where
      by_test : (a b c : Bool)
          → cond a (Ends (at + 1)) (cond b (Breaks at) (cond c (after_reference (reference_at s at) at) (after_character (width_at s at) at))) ≡ Ends n
          → at ≤ n
      by_test true b c told = let same : at + 1 ≡ n = cc in omega arith
      by_test false true c told = absurd (let z : ◌≡◌ {A = ℕ} 0 1 = cc in omega arith)
      by_test false false true told = absurd (reference_unending s at n told)
      by_test false false false told = absurd (character_unending s at n told)

  value_onward : Onward (value_turn quote s) (length s)
  value_onward =
      record {
        inside = λ i n e. (let on = value_on i n e in omega arith);
        forward = λ i n e. (let on = value_on i n e in omega arith);
        ending = value_ends;
      }

  pub value_turn_lem : (at : ℕ) (r : Turn) → value_turn quote s at ≡ r → value_at quote s at ≡ on_turn r (λ next. value_at quote s next)
  unfolding value_at
  value_turn_lem at r e = walk_turn (value_turn quote s) s value_onward at r e

  pub value_forward : (at n : ℕ) → value_at quote s at ≡ Ok n → at ≤ n
  unfolding value_at
  value_forward at n e = walk_forward (value_turn quote s) s value_onward at n e
