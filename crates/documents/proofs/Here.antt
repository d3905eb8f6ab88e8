-- What stands at a place of a text, where what is left of the text from there on is known. Assumes nothing.
use mathlib.Core.Path.{◌≡◌, refl, sym, ap, ◌∙◌}
use mathlib.Core.Bool.{Bool, true, false, cond, ◌&&◌, and-eq-true_iff, false≢true}
use mathlib.Core.List.{List, [], ◌∷◌, ◌++◌}
use Prim.Native.Nat.{ℕ, suc, ◌+◌, ◌-◌, ◌≤◌, ◌<◌}
use native.Mathlib.Nat.{add-sub_cancel_left}
use native.Mathlib.Omega.{arith}
use lib.ListN.{length, take, drop, get_or, length-drop}
use lib.Seq.{drop-drop, drop-append_seam, take-append_seam, get_or-drop}
use borrow.Author.Tests.{eq-eqb}
use Rattle.wire.specs.Field.{part}
use Rattle.letters.specs.Places.{byte_at, run, run_end, between, matches}
use Rattle.std.specs.Prelude.{Ok}

-- ---- bytes and parts

module _ (s : List ℕ) (at : ℕ) where
  pub byte_here : (b : ℕ) (ys : List ℕ) → drop at s ≡ b ∷ ys → byte_at s at ≡ b
  byte_here b ys e = let same : at + 0 ≡ at = omega arith in sym (rw (e, same) at (get_or-drop at s 0 0))

  pub byte_further : (k : ℕ) (ys : List ℕ) → drop at s ≡ ys → byte_at s (at + k) ≡ get_or ys k 0
  byte_further k ys e = sym (rw e at (get_or-drop at s k 0))

  pub next_here : (b : ℕ) (ys : List ℕ) → drop at s ≡ b ∷ ys → drop (at + 1) s ≡ ys
  next_here b ys e = sym (drop-drop 1 at s) ∙ ap (λ (l : List ℕ). drop 1 l) e

  pub skip_here : (xs ys : List ℕ) → drop at s ≡ xs ++ ys → drop (at + length xs) s ≡ ys
  skip_here xs ys e = sym (drop-drop (length xs) at s) ∙ ap (λ (l : List ℕ). drop (length xs) l) e ∙ drop-append_seam xs ys

  pub part_here : (xs ys : List ℕ) → drop at s ≡ xs ++ ys → part s at (length xs) ≡ xs
  part_here xs ys e = ap (λ (l : List ℕ). take (length xs) l) e ∙ take-append_seam xs ys

  pub inside_here : (b : ℕ) (ys : List ℕ) → drop at s ≡ b ∷ ys → at < length s
  inside_here b ys e = let long : length s - at ≡ suc (length ys) = sym (length-drop at s) ∙ ap length e in omega arith

  pub past_here : drop at s ≡ [] → length s ≤ at
  past_here e = let long : length s - at ≡ 0 = sym (length-drop at s) ∙ ap length e in omega arith

-- ---- runs

unfoldable pub all : (ℕ → Bool) → List ℕ → Bool
all f [] = true
all f (b ∷ bs) = f b && all f bs

pub all_append : (f : ℕ → Bool) (xs ys : List ℕ) → all f xs ≡ true → all f ys ≡ true → all f (xs ++ ys) ≡ true
unfolding all
all_append f [] ys h k = k
all_append f (x ∷ xs) ys h k =
    let both = (and-eq-true_iff (f x) (all f xs)).0 h in
    rw both.0 (all_append f xs ys both.1 k)

pub all_weaker : (f g : ℕ → Bool) → ((b : ℕ) → f b ≡ true → g b ≡ true) → (t : List ℕ) → all f t ≡ true → all g t ≡ true
unfolding all
all_weaker f g weaker [] h = refl
all_weaker f g weaker (b ∷ bs) h =
    let both = (and-eq-true_iff (f b) (all f bs)).0 h in
    rw (weaker b both.0) (all_weaker f g weaker bs both.1)

pub run_all : (f : ℕ → Bool) (t : List ℕ) (b : ℕ) (ys : List ℕ) → all f t ≡ true → f b ≡ false → run f (t ++ (b ∷ ys)) ≡ length t
unfolding run all
run_all f [] b ys h k = rw k
run_all f (x ∷ xs) b ys h k = by_test (run_all f xs b ys) (f x) h
  where
    by_test : (all f xs ≡ true → f b ≡ false → run f (xs ++ (b ∷ ys)) ≡ length xs) → (t : Bool) → (t && all f xs) ≡ true
        → cond t (suc (run f (xs ++ (b ∷ ys)))) 0 ≡ suc (length xs)
    by_test rest true h = ap suc (rest h k)
    by_test rest false h = absurd (false≢true h)

module _ (f : ℕ → Bool) (s : List ℕ) (at : ℕ) (t : List ℕ) (b : ℕ) (ys : List ℕ) (h : all f t ≡ true) (stop : f b ≡ false) (e : drop at s ≡ t ++ (b ∷ ys)) where
  pub run_here : run_end f s at ≡ at + length t
  run_here = rw e (ap (λ (k : ℕ). at + k) (run_all f t b ys h stop))

  pub between_here : between s at (run_end f s at) ≡ t
  between_here =
      let width : run_end f s at - at ≡ length t = rw run_here (add-sub_cancel_left at (length t)) in
      rw width (part_here s at t (b ∷ ys) e)

-- ---- words

match_all : (word ys : List ℕ) (at : ℕ) → matches word (word ++ ys) at ≡ Ok (at + length word)
unfolding matches
match_all [] ys at = ap Ok (omega arith)
match_all (b ∷ bs) ys at = rw (eq-eqb b b refl) (match_all bs ys (at + 1) ∙ ap Ok (omega arith))

pub word_here : (s : List ℕ) (at : ℕ) (word ys : List ℕ) → drop at s ≡ word ++ ys → matches word (drop at s) at ≡ Ok (at + length word)
word_here s at word ys e = rw e (match_all word ys at)
