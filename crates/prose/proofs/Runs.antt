-- The laws of runs: what holds where a run ends holds where it starts, if each of its bytes keeps it; a walk over plain bytes. Assumes nothing.
use mathlib.Core.Path.{◌≡◌, refl, sym, ◌∙◌}
use mathlib.Core.Bool.{Bool, true, false}
use mathlib.Core.Logic.{⊎_elim}
use mathlib.Core.List.{List}
use Prim.Native.Nat.{ℕ, zero, suc, ◌+◌, ◌≤◌, ◌<◌}
use native.Mathlib.Nat.{add-zero}
use native.Mathlib.Omega.{arith}
use lib.ListN.{length, drop}
use Rattle.wire.proofs.Sides.{le_or_lt}
use Rattle.letters.specs.Places.{byte_at, run, run_end, on_turn, walk}
use Rattle.letters.specs.declared.Turn.{Turn}
use Rattle.letters.specs.declared.Turn.TheVariants.{On, Ends, Breaks}
use Rattle.std.specs.Prelude.{Ok}
use Rattle.letters.proofs.Scans.{run_on, run_stops, run_ends}
use Rattle.letters.proofs.Walks.{Onward, walk_turn}
use Rattle.prose.specs.Plain.{plain}
use Rattle.prose.specs.Prose.{past_plain, text_turn, text_at}
use Rattle.prose.proofs.Turns.{text_sign, text_plain, text_onward}

-- ---- from the end of a run back to its start

module _ (f : ℕ → Bool) (s : List ℕ) (P : ℕ → Type 0) (back : (i : ℕ) → i < length s → f (byte_at s i) ≡ true → P (i + 1) → P i) where
  run_from : (n at : ℕ) → run f (drop at s) ≡ n → P (at + n) → P at
  run_from zero at e last = rw add-zero at last
  run_from (suc n) at e last = ⊎_elim
      (λ (past : length s ≤ at). absurd (omega (arith, run_ends f s at past)))
      (λ (there : at < length s). by_test there (run_from n (at + 1)) (f (byte_at s at)) refl)
      (le_or_lt (length s) at)
    where
      by_test : at < length s → (run f (drop (at + 1) s) ≡ n → P (at + 1 + n) → P (at + 1)) → (t : Bool) → f (byte_at s at) ≡ t → P at
      by_test there rest true passes =
          let fewer : run f (drop (at + 1) s) ≡ n = omega (arith, run_on f s at there passes) in
          let on : at + suc n ≡ at + 1 + n = omega arith in
          back at there passes (rest fewer (rw on at last))
      by_test there rest false stops = absurd (omega (arith, run_stops f s at there stops))

  pub run_back : (at : ℕ) → P (run_end f s at) → P at
  run_back at last = run_from (run f (drop at s)) at refl last

-- ---- a walk whose turn at a plain byte is to the next

module _ (turn : ℕ → Turn) (s : List ℕ) (onward : Onward turn (length s)) (over : (i : ℕ) → plain (byte_at s i) ≡ true → turn i ≡ On (i + 1)) where
  pub walk_plain : (at : ℕ) → walk turn s at ≡ walk turn s (run_end plain s at)
  walk_plain at =
      run_back plain s (λ i. walk turn s i ≡ walk turn s (run_end plain s at))
      (λ i there passes rest. walk_turn turn s onward i (On (i + 1)) (over i passes) ∙ rest)
      at refl

  -- with turns that go over plain bytes too
  pub walk_past : (i : ℕ) (r : Turn) → turn i ≡ r → on_turn (past_plain s r) (λ next. walk turn s next) ≡ walk turn s i
  walk_past i (On next) e = sym (walk_plain next) ∙ sym (walk_turn turn s onward i (On next) e)
  walk_past i (Ends m) e = sym (walk_turn turn s onward i (Ends m) e)
  walk_past i (Breaks p) e = sym (walk_turn turn s onward i (Breaks p) e)

  pub past_forward : (i n : ℕ) (r : Turn) → turn i ≡ r → past_plain s r ≡ On n → (i < n) × (i < length s)
  past_forward i n (On next) e told = let same : run_end plain s next ≡ n = cc in (omega (arith, onward.forward i next e), onward.inside i next e)
  past_forward i n (Ends m) e told = absurd (let z : ◌≡◌ {A = ℕ} 0 1 = cc in omega arith)
  past_forward i n (Breaks p) e told = absurd (let z : ◌≡◌ {A = ℕ} 0 1 = cc in omega arith)

-- ---- a text that begins with plain bytes

module _ (s : List ℕ) (at e : ℕ) (plainly : e ≡ run_end plain s at) where
  pub text_left : text_at s e ≡ text_at s at
  unfolding text_at
  text_left = rw plainly (sym (walk_plain (text_turn s) s (text_onward s) (text_plain s) at))

  pub text_tag : byte_at s e ≡ 60 → (byte_at s (e + 1) ≡ 33 → ⊥) → Ok e ≡ text_at s at
  unfolding text_at
  text_tag sign other = sym (walk_turn (text_turn s) s (text_onward s) e (Ends e) (text_sign s e sign other)) ∙ text_left
