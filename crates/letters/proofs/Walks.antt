-- The laws of a walk: its bound never shows, where each turn that goes on begins in the text and ends after where it began. Assumes nothing.
use mathlib.Core.Path.{◌≡◌, refl, ◌∙◌}
use mathlib.Core.Bool.{Bool, true, false, cond}
use mathlib.Core.List.{List, [], ◌∷◌}
use Prim.Native.Nat.{ℕ, zero, suc, ◌+◌, ◌≤◌, ◌<◌}
use native.Mathlib.Omega.{arith}
use lib.Dec.{eqb}
use lib.ListN.{length}
use Rattle.letters.specs.Places.{matches, on_reach, on_turn, walk_by, walk, Reach}
use Rattle.std.specs.Prelude.{Ok, Err}
use Rattle.letters.specs.declared.Turn.{Turn}
use Rattle.letters.specs.declared.Turn.TheVariants.{On, Ends, Breaks}

-- ---- what was read in two steps

pub record Went (r : Reach) (f : ℕ → Reach) (n : ℕ) : Type 0 where
  pub mid : ℕ
  pub first : r ≡ Ok mid
  pub then : f mid ≡ Ok n

pub went : (r : Reach) (f : ℕ → Reach) (n : ℕ) → on_reach r f ≡ Ok n → Went r f n
went (Ok m) f n e = record { mid = m; first = refl; then = e }
went (Err p) f n e = absurd (let z : ◌≡◌ {A = ℕ} 0 1 = cc in omega arith)

-- a word that stands ends so many bytes on
pub match_forward : (word t : List ℕ) (at n : ℕ) → matches word t at ≡ Ok n → n ≡ at + length word
unfolding matches
match_forward [] t at n e = let same : at ≡ n = cc in omega arith
match_forward (b ∷ bs) [] at n e = absurd (let z : ◌≡◌ {A = ℕ} 0 1 = cc in omega arith)
match_forward (b ∷ bs) (c ∷ cs) at n e = by_test (match_forward bs cs (at + 1) n) (eqb c b) e
  where
    by_test : (matches bs cs (at + 1) ≡ Ok n → n ≡ at + 1 + length bs) → (t : Bool) → cond t (matches bs cs (at + 1)) (Err at) ≡ Ok n → n ≡ at + suc (length bs)
    by_test rest true told = omega (arith, rest told)
    by_test rest false told = absurd (let z : ◌≡◌ {A = ℕ} 0 1 = cc in omega arith)

-- ---- turns

pub record Onward (turn : ℕ → Turn) (end : ℕ) : Type 0 where
  pub inside : (i n : ℕ) → turn i ≡ On n → i < end
  pub forward : (i n : ℕ) → turn i ≡ On n → i < n
  pub ending : (i n : ℕ) → turn i ≡ Ends n → i ≤ n

module _ (turn : ℕ → Turn) (end : ℕ) (onward : Onward turn end) where
  -- a walk ends no earlier than it began
  walk_on : (f at n : ℕ) → walk_by turn f at ≡ Ok n → at ≤ n
  unfolding walk_by
  walk_on zero at n e = absurd (let z : ◌≡◌ {A = ℕ} 0 1 = cc in omega arith)
  walk_on (suc f) at n e = by_turn (walk_on f) (turn at) refl e
    where
      by_turn : ((at n : ℕ) → walk_by turn f at ≡ Ok n → at ≤ n) → (r : Turn) → turn at ≡ r → on_turn r (λ next. walk_by turn f next) ≡ Ok n → at ≤ n
      by_turn rest (On next) e told = omega (arith, onward.forward at next e, rest next n told)
      by_turn rest (Ends m) e told = let same : m ≡ n = cc in omega (arith, onward.ending at m e)
      by_turn rest (Breaks p) e told = absurd (let z : ◌≡◌ {A = ℕ} 0 1 = cc in omega arith)

  -- any bound does that passes what is left
  walk_any : (f g at : ℕ) → end < at + f → end < at + g → 0 < f → 0 < g → walk_by turn f at ≡ walk_by turn g at
  unfolding walk_by
  walk_any zero g at h k p q = absurd (omega arith)
  walk_any (suc f) zero at h k p q = absurd (omega arith)
  walk_any (suc f) (suc g) at h k p q = by_turn (walk_any f g) (turn at) refl
    where
      by_turn : ((at : ℕ) → end < at + f → end < at + g → 0 < f → 0 < g → walk_by turn f at ≡ walk_by turn g at) → (r : Turn) → turn at ≡ r
          → on_turn r (λ next. walk_by turn f next) ≡ on_turn r (λ next. walk_by turn g next)
      by_turn rest (On next) e =
          let in_text = onward.inside at next e in
          let on = onward.forward at next e in
          rest next (omega arith) (omega arith) (omega arith) (omega arith)
      by_turn rest (Ends m) e = refl
      by_turn rest (Breaks p) e = refl

module _ (turn : ℕ → Turn) (s : List ℕ) (onward : Onward turn (length s)) where
  pub walk_turn : (at : ℕ) (r : Turn) → turn at ≡ r → walk turn s at ≡ on_turn r (λ next. walk turn s next)
  unfolding walk walk_by
  walk_turn at r e = (rw e) ∙ by_turn r e
    where
      by_turn : (r : Turn) → turn at ≡ r → on_turn r (λ next. walk_by turn (length s) next) ≡ on_turn r (λ next. walk_by turn (suc (length s)) next)
      by_turn (On next) e =
          let in_text = onward.inside at next e in
          let on = onward.forward at next e in
          walk_any turn (length s) onward (length s) (suc (length s)) next (omega arith) (omega arith) (omega arith) (omega arith)
      by_turn (Ends m) e = refl
      by_turn (Breaks p) e = refl

  pub walk_forward : (at n : ℕ) → walk turn s at ≡ Ok n → at ≤ n
  unfolding walk
  walk_forward at n e = walk_on turn (length s) onward (suc (length s)) at n e

-- what each end of a turn shows, the end of the walk does
module _ (turn : ℕ → Turn) (P : ℕ → Type 0) (ends : (i n : ℕ) → turn i ≡ Ends n → P n) where
  walk_last : (f at n : ℕ) → walk_by turn f at ≡ Ok n → P n
  unfolding walk_by
  walk_last zero at n e = absurd (let z : ◌≡◌ {A = ℕ} 0 1 = cc in omega arith)
  walk_last (suc f) at n e = by_turn (walk_last f) (turn at) refl e
    where
      by_turn : ((at n : ℕ) → walk_by turn f at ≡ Ok n → P n) → (r : Turn) → turn at ≡ r → on_turn r (λ next. walk_by turn f next) ≡ Ok n → P n
      by_turn rest (On next) e told = rest next n told
      by_turn rest (Ends m) e told = let same : m ≡ n = cc in rw same at (ends at m e)
      by_turn rest (Breaks p) e told = absurd (let z : ◌≡◌ {A = ℕ} 0 1 = cc in omega arith)

  pub walk_shows : (s : List ℕ) (at n : ℕ) → walk turn s at ≡ Ok n → P n
  unfolding walk
  walk_shows s at n e = walk_last (suc (length s)) at n e
