-- A part of a text: its bytes, runs and words are those of the whole, as far as they stand in it. Assumes nothing.
use mathlib.Core.Path.{◌≡◌, refl, sym, ap, subst, ◌∙◌}
use mathlib.Core.Bool.{Bool, true, false, cond}
use mathlib.Core.List.{List, [], ◌∷◌, ◌++◌, append-nil}
use Prim.Native.Nat.{ℕ, suc, ◌+◌, ◌-◌, ◌≤◌, ◌<◌}
use native.Mathlib.Omega.{arith}
use lib.Dec.{eqb}
use lib.ListN.{length, take, drop, get_or, length-drop, length-append, take-append-drop}
use lib.Seq.{get_or-drop, take-append-le, drop-append-le, drop-append-add, length-take-le}
use Rattle.wire.specs.Field.{part, same}
use Rattle.letters.specs.Places.{byte_at, run, run_end, between, matches, expected}
use Rattle.letters.specs.References.{stands}
use Rattle.std.specs.Prelude.{Ok, Err}
use Rattle.letters.proofs.Walks.{match_forward}
use Rattle.letters.proofs.References.{stands_there}

-- ---- lists

-- a run that ends before what is added is the run without it
run_front : (f : ℕ → Bool) (xs ys : List ℕ) → run f (xs ++ ys) ≤ length xs → run f (xs ++ ys) ≡ run f xs
unfolding run
run_front f [] ys h = omega arith
run_front f (x ∷ xs) ys h = by_test (run_front f xs ys) (f x) h
  where
    by_test : (run f (xs ++ ys) ≤ length xs → run f (xs ++ ys) ≡ run f xs) → (t : Bool) → cond t (suc (run f (xs ++ ys))) 0 ≤ suc (length xs)
        → cond t (suc (run f (xs ++ ys))) 0 ≡ cond t (suc (run f xs)) 0
    by_test rest true h = ap suc (rest (omega arith))
    by_test rest false h = refl

match_front : (word xs ys : List ℕ) (q i n : ℕ) → matches word (xs ++ ys) q ≡ Ok n → n ≤ q + length xs → matches word xs i ≡ Ok (i + length word)
unfolding matches
match_front [] xs ys q i n e h = ap Ok (omega arith)
match_front (b ∷ bs) [] ys q i n e h = absurd (omega (arith, match_forward (b ∷ bs) ys q n e))
match_front (b ∷ bs) (x ∷ xs) ys q i n e h = by_test (match_front bs xs ys (q + 1) (i + 1) n) (eqb x b) e
  where
    by_test : (matches bs (xs ++ ys) (q + 1) ≡ Ok n → n ≤ q + 1 + length xs → matches bs xs (i + 1) ≡ Ok (i + 1 + length bs)) → (t : Bool)
        → cond t (matches bs (xs ++ ys) (q + 1)) (Err q) ≡ Ok n → cond t (matches bs xs (i + 1)) (Err i) ≡ Ok (i + suc (length bs))
    by_test rest true told = rest told (omega arith) ∙ ap Ok (omega arith)
    by_test rest false told = absurd (let z : ◌≡◌ {A = ℕ} 0 1 = cc in omega arith)

-- ---- a part

-- s stands in t from place d on
pub record Part (s t : List ℕ) (d : ℕ) : Type 0 where
  pub behind : List ℕ
  pub rest : (i : ℕ) → i ≤ length s → drop (d + i) t ≡ drop i s ++ behind

front : (s c : List ℕ) → Part s (s ++ c) 0
front s c = record { behind = c; rest = λ i h. (let none : 0 + i ≡ i = omega arith in rw none (drop-append-le i s c h)) }

back : (a s : List ℕ) → Part s (a ++ s) (length a)
back a s = record { behind = []; rest = λ i h. drop-append-add a s i ∙ sym (append-nil (drop i s)) }

-- the two parts of a text that is cut at a place, and all of it
pub first_part_lem : (t : List ℕ) (n : ℕ) → Part (take n t) t 0
first_part_lem t n = subst (λ (u : List ℕ). Part (take n t) u 0) (take-append-drop n t) (front (take n t) (drop n t))

pub second_part_lem : (t : List ℕ) (n : ℕ) → n ≤ length t → Part (drop n t) t n
second_part_lem t n h =
    subst (λ (d : ℕ). Part (drop n t) t d) (length-take-le n t h)
    (subst (λ (u : List ℕ). Part (drop n t) u (length (take n t))) (take-append-drop n t) (back (take n t) (drop n t)))

pub whole_part : (t : List ℕ) → Part t t 0
whole_part t = subst (λ (u : List ℕ). Part t u 0) (append-nil t) (front t [])

module _ {s t : List ℕ} {d : ℕ} (p : Part s t d) where
  from_there : (q i : ℕ) → q ≡ d + i → i ≤ length s → drop q t ≡ drop i s ++ p.behind
  from_there q i e h = rw e (p.rest i h)

  pub long_in : 0 < length s → d + length s ≤ length t
  long_in some =
      let long : length (drop d t) ≡ length s + length p.behind = ap length (from_there d 0 (omega arith) (omega arith)) ∙ length-append s p.behind in
      omega (arith, length-drop d t)

  pub byte_in : (q i : ℕ) → q ≡ d + i → i < length s → byte_at t q ≡ byte_at s i
  byte_in q i e h =
      let none : q + 0 ≡ q = omega arith in
      let nil : i + 0 ≡ i = omega arith in
      sym (get_or-drop q t 0 0 ∙ (rw none))
      ∙ ap (λ (l : List ℕ). get_or l 0 0) (from_there q i e (omega arith))
      ∙ front (drop i s) (omega (arith, length-drop i s))
      ∙ get_or-drop i s 0 0 ∙ (rw nil)
    where
      front : (xs : List ℕ) → 0 < length xs → get_or (xs ++ p.behind) 0 0 ≡ get_or xs 0 0
      front [] h = absurd (omega arith)
      front (x ∷ xs) h = refl

  pub run_in : (f : ℕ → Bool) (q i : ℕ) → q ≡ d + i → i ≤ length s → run_end f t q ≤ d + length s → run_end f t q ≡ d + run_end f s i
  run_in f q i e h k =
      let there = from_there q i e h in
      let few : run f (drop i s ++ p.behind) ≤ length (drop i s) = rw (← there) (omega (arith, length-drop i s)) in
      let alike : run f (drop q t) ≡ run f (drop i s) = ap (run f) there ∙ run_front f (drop i s) p.behind few in
      omega arith

  pub part_in_lem : (q i n : ℕ) → q ≡ d + i → i + n ≤ length s → part t q n ≡ part s i n
  part_in_lem q i n e h = ap (take n) (from_there q i e (omega arith)) ∙ take-append-le n (drop i s) p.behind (omega (arith, length-drop i s))

  pub between_in : (q i m j : ℕ) → q ≡ d + i → m ≡ d + j → i ≤ j → j ≤ length s → between t q m ≡ between s i j
  between_in q i m j e f low high = let width : m - q ≡ j - i = omega arith in rw width (part_in_lem q i (j - i) e (omega arith))

  pub word_in : (word : List ℕ) (q i n : ℕ) → q ≡ d + i → i ≤ length s → expected t word q ≡ Ok n → n ≤ d + length s → expected s word i ≡ Ok (i + length word)
  word_in word q i n e h told k =
      match_front word (drop i s) p.behind q i n (rw (← (from_there q i e h)) told) (omega (arith, length-drop i s))

  pub stands_in : (word : List ℕ) (q i : ℕ) → q ≡ d + i → i + length word ≤ length s → stands t q word ≡ stands s i word
  stands_in word q i e h = ap (λ (l : List ℕ). same l word) (part_in_lem q i (length word) e h)

  -- what does not stand in the whole does not in the part
  pub stands_not : (word : List ℕ) (q i : ℕ) → q ≡ d + i → 0 < length word → stands t q word ≡ false → stands s i word ≡ false
  stands_not word q i e some told = by_test (stands s i word) refl
    where
      by_test : (b : Bool) → stands s i word ≡ b → b ≡ false
      by_test true e' = sym e' ∙ sym (stands_in word q i e (stands_there s i word e' some)) ∙ told
      by_test false e' = refl
