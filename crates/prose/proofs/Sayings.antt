-- The laws of what is kept: what was said so far, stored over spaces, with what is still to be said. Assumes nothing.
use mathlib.Core.Path.{◌≡◌, refl, sym, ap, ◌∙◌}
use mathlib.Core.Bool.{Bool, false}
use mathlib.Core.List.{List, [], ◌∷◌, ◌++◌, append_assoc, append-nil}
use Prim.Native.Nat.{ℕ, zero, suc, ◌+◌, ◌≤◌}
use native.Mathlib.Nat.{zero-add}
use native.Mathlib.Omega.{arith}
use lib.ListN.{length, take, set, replicate, length-append}
use lib.Seq.{sets, length-sets}
use Rattle.wire.proofs.Stores.{sets_append, sets_out}
use Rattle.prose.specs.Prose.{said_at, Kept}
use Rattle.prose.proofs.Pieces.{said_from}

-- ---- a text stored over spaces

sets_behind : (d : List ℕ) (x i : ℕ) (vs : List ℕ) → sets (x ∷ d) (suc i) vs ≡ x ∷ sets d i vs
sets_behind d x i [] = refl
sets_behind d x i (v ∷ vs) = sets_behind (set d i v) x (suc i) vs

-- as many as there is room for, and the rest is as before
filled : (m k x : ℕ) (t : List ℕ) → m ≤ k → sets (replicate m x) 0 t ≡ take m (t ++ replicate k x)
filled zero k x t h = sets_out [] 0 t (omega arith)
filled (suc m) zero x t h = absurd (omega arith)
filled (suc m) (suc k) x [] h = ap (λ (l : List ℕ). x ∷ l) (filled m k x [] (omega arith))
filled (suc m) (suc k) x (v ∷ vs) h = sets_behind (replicate m x) v 0 vs ∙ ap (λ (l : List ℕ). v ∷ l) (filled m (suc k) x vs (omega arith))

-- ---- what the loop holds

pub record Saying (s : List ℕ) (at : ℕ) (bytes : List ℕ) (n : ℕ) (inside : Bool) (i : ℕ) : Type 0 where
  pub so_far : List ℕ
  pub stored : bytes ≡ sets (replicate 35 32) 0 so_far
  pub size : n ≡ length so_far
  pub whole : so_far ++ said_from s inside i ≡ said_at s at

module _ (s : List ℕ) (at : ℕ) where
  pub saying_first : Saying s at (replicate 35 32) 0 false at
  unfolding said_at
  saying_first = record { so_far = []; stored = refl; size = refl; whole = refl }

  module _ (bytes : List ℕ) (n : ℕ) (inside : Bool) (i : ℕ) (before : Saying s at bytes n inside i) where
    pub saying_long : 35 ≡ length bytes
    saying_long = sym (ap length before.stored ∙ length-sets (replicate 35 32) 0 before.so_far)

    -- a piece more
    pub saying_more : (xs bytes₂ : List ℕ) (n₂ : ℕ) (inside₂ : Bool) (next : ℕ)
        → bytes₂ ≡ sets bytes n xs → n₂ ≡ n + length xs → said_from s inside i ≡ xs ++ said_from s inside₂ next → Saying s at bytes₂ n₂ inside₂ next
    saying_more xs bytes₂ n₂ inside₂ next e size rest = record {
      so_far = before.so_far ++ xs;
      stored = e ∙ (rw (before.stored, before.size, sets_append (replicate 35 32) 0 before.so_far xs, zero-add));
      size = rw (length-append before.so_far xs) (omega (arith, before.size));
      whole = append_assoc before.so_far xs (said_from s inside₂ next) ∙ ap (λ (l : List ℕ). before.so_far ++ l) (sym rest) ∙ before.whole;
    }

    -- nothing more
    pub saying_ends : n ≤ 35 → said_from s inside i ≡ [] → Kept (said_at s at) bytes n
    saying_ends h none =
        let all : before.so_far ≡ said_at s at = sym (append-nil before.so_far) ∙ ap (λ (l : List ℕ). before.so_far ++ l) (sym none) ∙ before.whole in
        record {
          bytes = before.stored ∙ filled 35 35 32 before.so_far (omega arith) ∙ (rw all);
          size = rw (← all) (omega (arith, before.size));
        }

    -- no room for more
    pub saying_full : 36 ≤ n → Kept (said_at s at) bytes 36
    saying_full h = record {
      bytes =
          before.stored
          ∙ sym (sets_out (sets (replicate 35 32) 0 before.so_far) (0 + length before.so_far) (said_from s inside i) (rw (length-sets (replicate 35 32) 0 before.so_far) (omega (arith, before.size))))
          ∙ sym (sets_append (replicate 35 32) 0 before.so_far (said_from s inside i))
          ∙ filled 35 35 32 (before.so_far ++ said_from s inside i) (omega arith)
          ∙ (rw before.whole);
      size = rw (← before.whole, length-append before.so_far (said_from s inside i)) (omega (arith, before.size));
    }
