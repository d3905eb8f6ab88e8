-- The laws of bytes, runs and words: what a loop at a place has left comes to what the whole comes to. Assumes nothing.
use mathlib.Core.Path.{◌≡◌, refl, sym, ◌∙◌}
use mathlib.Core.Bool.{Bool, true, false, cond}
use mathlib.Core.List.{List, [], ◌∷◌}
use Prim.Native.Nat.{ℕ, zero, suc, ◌+◌, ◌-◌, ◌≤◌, ◌<◌}
use native.Mathlib.Nat.{add-zero}
use native.Mathlib.Numerals.{add-one}
use native.Mathlib.Omega.{arith}
use lib.ListN.{length, drop, get_or, length-drop, drop_of_length-le, get_or-eq_default}
use lib.Seq.{drop-cons, get_or-drop}
use borrow.Author.Tests.{eq-eqb, ne_eqb}
use Rattle.letters.specs.Places.{byte_at, run, run_end, between, matches, expected}
use Rattle.std.specs.Prelude.{Ok, Err}

-- ---- past the end stands 0

pub byte_past : (s : List ℕ) (at : ℕ) → length s ≤ at → byte_at s at ≡ 0
byte_past s at h = get_or-eq_default s 0 h

pub byte_there : (s : List ℕ) (at : ℕ) → 0 < byte_at s at → at < length s
byte_there [] at h = absurd (omega arith)
byte_there (x ∷ xs) zero h = omega arith
byte_there (x ∷ xs) (suc at) h = omega (arith, byte_there xs at h)

-- ---- a run that goes on from place i

module _ (f : ℕ → Bool) (s : List ℕ) (i : ℕ) where
  run_step : i < length s → run f (drop i s) ≡ cond (f (get_or s i 0)) (suc (run f (drop (i + 1) s))) 0
  unfolding run
  run_step h = rw (add-one, drop-cons s i 0)

  pub run_on : i < length s → f (get_or s i 0) ≡ true → i + 1 + run f (drop (i + 1) s) ≡ i + run f (drop i s)
  run_on h e = let more : run f (drop i s) ≡ suc (run f (drop (i + 1) s)) = run_step h ∙ (rw e) in omega arith

  pub run_stops : i < length s → f (get_or s i 0) ≡ false → i ≡ i + run f (drop i s)
  run_stops h e = let none : run f (drop i s) ≡ 0 = run_step h ∙ (rw e) in omega arith

  pub run_ends : length s ≤ i → i ≡ i + run f (drop i s)
  unfolding run
  run_ends h = rw (drop_of_length-le s h) (omega arith)

-- a run is no longer than the text, and ends in it
pub run_within : (f : ℕ → Bool) (t : List ℕ) → run f t ≤ length t
unfolding run
run_within f [] = omega arith
run_within f (b ∷ bs) = by_test (run_within f bs) (f b)
  where
    by_test : run f bs ≤ length bs → (t : Bool) → cond t (suc (run f bs)) 0 ≤ suc (length bs)
    by_test h true = omega arith
    by_test h false = omega arith

pub run_inside : (f : ℕ → Bool) (s : List ℕ) (at : ℕ) → at < run_end f s at → run_end f s at ≤ length s
run_inside f s at h = omega (arith, run_within f (drop at s), length-drop at s)

-- ---- a word at place p, by its first byte

module _ (s : List ℕ) (b : ℕ) (bs : List ℕ) (p : ℕ) where
  pub word_short : length s ≤ p → expected s (b ∷ bs) p ≡ Err p
  unfolding matches
  word_short past = rw (drop_of_length-le s past)

  pub word_other : (byte_at s p ≡ b → ⊥) → expected s (b ∷ bs) p ≡ Err p
  unfolding matches
  word_other d = by_text (drop p s) (λ e. d (sym (get_or-drop p s 0 0 ∙ (rw add-zero)) ∙ e))
    where
      by_text : (t : List ℕ) → (byte_at t 0 ≡ b → ⊥) → matches (b ∷ bs) t p ≡ Err p
      by_text [] d = refl
      by_text (c ∷ cs) d = rw (ne_eqb c b d)

  pub word_on : p < length s → byte_at s p ≡ b → expected s (b ∷ bs) p ≡ expected s bs (p + 1)
  unfolding matches
  word_on k e = rw (drop-cons s p 0 k, eq-eqb (byte_at s p) b e, add-one p)

-- a byte that is not 0 stands in the text
pub word_first : (s : List ℕ) (b : ℕ) (bs : List ℕ) (p : ℕ) → 0 < b → byte_at s p ≡ b → expected s (b ∷ bs) p ≡ expected s bs (p + 1)
word_first s b bs p some e = word_on s b bs p (byte_there s p (omega arith)) e

-- ---- a word that is compared from place i of it on, with the text from place p on

module _ (s word : List ℕ) (p i : ℕ) where
  pub match_ends : length word ≤ i → expected s (drop i word) p ≡ Ok p
  unfolding matches
  match_ends h = rw (drop_of_length-le word h)

  module _ (h : i < length word) where
    pub match_short : length s ≤ p → expected s (drop i word) p ≡ Err p
    match_short past = rw (drop-cons word i 0 h) (word_short s _ _ p past)

    pub match_differs : (get_or s p 0 ≡ get_or word i 0 → ⊥) → expected s (drop i word) p ≡ Err p
    match_differs d = rw (drop-cons word i 0 h) (word_other s _ _ p d)

    pub match_on : p < length s → get_or s p 0 ≡ get_or word i 0 → expected s (drop i word) p ≡ expected s (drop (i + 1) word) (p + 1)
    match_on k e = rw (drop-cons word i 0 h, add-one i) (word_on s _ _ p k e)

-- ---- the part of a text up to place to, from place i on, looked for again at place p

module _ (s : List ℕ) (to i p : ℕ) where
  pub again_ends : to ≤ i → expected s (between s i to) p ≡ Ok p
  unfolding matches
  again_ends h = let none : to - i ≡ 0 = omega arith in rw none

  module _ (h : i < to) (here : i < length s) where
    between_more : between s i to ≡ byte_at s i ∷ between s (i + 1) to
    between_more =
        let width : to - i ≡ suc (to - (i + 1)) = omega arith in
        rw (width, drop-cons s i 0 here, add-one i)

    pub again_short : length s ≤ p → expected s (between s i to) p ≡ Err p
    again_short past = rw between_more (word_short s _ _ p past)

    pub again_differs : (byte_at s p ≡ byte_at s i → ⊥) → expected s (between s i to) p ≡ Err p
    again_differs d = rw between_more (word_other s _ _ p d)

    pub again_on : (j q : ℕ) → j ≡ i + 1 → q ≡ p + 1 → p < length s → byte_at s p ≡ byte_at s i → expected s (between s i to) p ≡ expected s (between s j to) q
    again_on j q next after k e = rw (between_more, next, after) (word_on s _ _ p k e)
