-- The laws that the proofs of the tests share, and those that crates above may cite. Assumes nothing.
use mathlib.Core.Path.{◌≡◌, refl, sym, ap, ◌∙◌}
use mathlib.Core.Bool.{Bool, true, false, cond, not, ◌&&◌, ◌||◌, false≢true, and-true, and-false}
use mathlib.Core.List.{List, [], ◌∷◌, ◌++◌}
use Prim.Native.Nat.{ℕ, suc, ◌+◌, ◌-◌, ◌≤◌, ◌<◌}
use native.Mathlib.Nat.{sub-zero}
use native.Mathlib.Omega.{arith}
use lib.Dec.{leb, ltb, eqb, eqb-suc-zero, lit≤}
use lib.ListN.{length, get_or, take, length-take}
use lib.Seq.{take-suc}
use borrow.Author.Tests.{le-leb, lt-leb, ne_eqb, eqb-true, eqb-false, ltb-true, ltb-false, not-true, not-false}
use Rattle.wire.specs.Places.{every_from}
use Rattle.wire.proofs.Scans.{every_holds, every_fails, every_more, every_ends}
use Rattle.wording.specs.Wording.{among, allowed, kept, space, is_space, is_slash, has, every, apart, most_characters, spelled, formed}

-- ---- characters

-- the set as the runs of codes that it lies in
abbrev pub marks_and_digits : ℕ → Bool
marks_and_digits c = leb 43 c && leb c 58

abbrev pub letters : ℕ → Bool
letters c = leb 65 c && leb c 90 || leb 97 c && leb c 122

abbrev pub others : ℕ → Bool
others c = leb 39 c && leb c 41 || eqb c 63 || eqb c 32

abbrev in_runs : ℕ → Bool
in_runs c = cond (marks_and_digits c) true (cond (letters c) true (others c))

abbrev agree : Bool → Bool → Bool
agree a b = cond a b (not b)

agree_equal : (a b : Bool) → agree a b ≡ true → a ≡ b
agree_equal true true e = refl
agree_equal true false e = sym e
agree_equal false true e = e
agree_equal false false e = refl

-- of all 256 bytes, by computing
every_byte : every_from (λ c. agree (in_runs c) (allowed c)) 256 0 ≡ true
unfolding every_from allowed among
every_byte = refl

runs_allowed : (c : ℕ) → c < 256 → in_runs c ≡ allowed c
runs_allowed c byte =
    agree_equal (in_runs c) (allowed c)
    (every_holds (λ k. agree (in_runs k) (allowed k)) 256 0 c every_byte (omega arith) (omega arith))

module _ (c : ℕ) (byte : c < 256) where
  pub first_allowed : marks_and_digits c ≡ true → true ≡ allowed c
  first_allowed e = (rw e at (runs_allowed c byte))

  pub letter_allowed : marks_and_digits c ≡ false → letters c ≡ true → true ≡ allowed c
  letter_allowed e l = (rw (e, l) at (runs_allowed c byte))

  pub other_allowed : marks_and_digits c ≡ false → letters c ≡ false → others c ≡ allowed c
  other_allowed e l = (rw (e, l) at (runs_allowed c byte))

-- ---- trailing spaces

-- a space at the end leaves what was left without it
kept_space : (s : List ℕ) → kept (s ++ (space ∷ [])) ≡ kept s
unfolding kept
kept_space [] = refl
kept_space (c ∷ cs) = rw (kept_space cs)

-- anything else at the end leaves all
kept_other : (s : List ℕ) (c : ℕ) → (c ≡ space → ⊥) → kept (s ++ (c ∷ [])) ≡ suc (length s)
unfolding kept
kept_other [] c other = rw (ne_eqb c space other)
kept_other (x ∷ xs) c other = rw (kept_other xs c other, eqb-suc-zero (length xs))

-- the last of the first n
last_taken : (s : List ℕ) (n : ℕ) → 0 < n → n ≤ length s → take n s ≡ take (n - 1) s ++ (get_or s (n - 1) 0 ∷ [])
last_taken s n some within =
    let next : n ≡ suc (n - 1) = omega arith in
    let inside : n - 1 < length s = omega arith in
    ap (λ (k : ℕ). take k s) next ∙ take-suc s (n - 1) 0 inside

module _ (s : List ℕ) (n : ℕ) (some : 0 < n) (within : n ≤ length s) where
  pub kept_more : get_or s (n - 1) 0 ≡ space → kept (take (n - 1) s) ≡ kept (take n s)
  kept_more e = sym (ap kept (last_taken s n some within ∙ (rw e)) ∙ kept_space (take (n - 1) s))

  pub kept_here : (get_or s (n - 1) 0 ≡ space → ⊥) → n ≡ kept (take n s)
  kept_here other =
      sym (ap kept (last_taken s n some within)
      ∙ kept_other (take (n - 1) s) (get_or s (n - 1) 0) other
      ∙ (rw (length-take (n - 1) s) (omega arith)))

pub kept_none : (s : List ℕ) (n : ℕ) → n ≤ 0 → 0 ≡ kept (take n s)
unfolding kept
kept_none s n h = let none : n ≡ 0 = omega arith in rw none

pub kept_within : (s : List ℕ) → kept s ≤ length s
unfolding kept
kept_within [] = lit≤ tt
kept_within (c ∷ cs) = by_test (kept cs) (kept_within cs) (eqb (kept cs) 0 && is_space c)
  where
    by_test : (k : ℕ) → k ≤ length cs → (t : Bool) → cond t 0 (suc k) ≤ suc (length cs)
    by_test k h true = omega arith
    by_test k h false = omega arith

-- ---- identifiers

-- a loop at place i: what is left of the two scans
abbrev pub run_left : List ℕ → ℕ → Bool
run_left t i = every allowed t i (length t) && every_from (apart t) (length t - i) i

pub run_first : (t : List ℕ) → run_left t 0 ≡ spelled t
run_first t = rw sub-zero

module _ (t : List ℕ) (i : ℕ) where
  pub run_ends : length t ≤ i → true ≡ run_left t i
  run_ends h = sym (rw (every_ends (has allowed t) (length t) i h, every_ends (apart t) (length t) i h))

  module _ (h : i < length t) where
    pub run_other : has allowed t i ≡ false → false ≡ run_left t i
    run_other e = sym (rw (every_fails (has allowed t) (length t) i h e))

    pub run_second : not (apart t i) ≡ true → false ≡ run_left t i
    run_second e = sym (rw (every_fails (apart t) (length t) i h (not-true (apart t i) e), and-false (every allowed t i (length t))))

    pub run_more : has allowed t i ≡ true → not (apart t i) ≡ false → run_left t (i + 1) ≡ run_left t i
    run_more here single = rw (every_more (has allowed t) (length t) i h here, every_more (apart t) (length t) i h (not-false (apart t i) single))

-- what the test of the size leaves
pub size_fits : (n : ℕ) → (eqb n 0 || ltb most_characters n) ≡ false → (1 ≤ n) × (n ≤ most_characters)
size_fits n e = by_size (eqb n 0) refl e
  where
    by_size : (z : Bool) → eqb n 0 ≡ z → (z || ltb most_characters n) ≡ false → (1 ≤ n) × (n ≤ most_characters)
    by_size true q h = absurd (false≢true (sym h))
    by_size false q h = let some = eqb-false n 0 q in (omega arith, ltb-false most_characters n h)

-- the tests of both ends
abbrev pub edges : List ℕ → Bool
edges t = has is_space t 0 || has is_slash t 0 || has is_slash t (length t - 1)

module _ (t : List ℕ) where
  -- how many there may be
  pub formed_size : (eqb (length t) 0 || ltb most_characters (length t)) ≡ true → false ≡ formed t
  unfolding formed
  formed_size e = sym (rw (by_size (eqb (length t) 0) refl e))
    where
      by_size : (z : Bool) → eqb (length t) 0 ≡ z → (z || ltb most_characters (length t)) ≡ true → (leb 1 (length t) && leb (length t) most_characters) ≡ false
      by_size true q h = rw (lt-leb 1 (length t) (omega (arith, eqb-true (length t) 0 q)))
      by_size false q h = rw (lt-leb (length t) most_characters (ltb-true most_characters (length t) h), and-false)

  pub formed_edge : edges t ≡ true → false ≡ formed t
  unfolding formed
  formed_edge e =
      sym (by_test (leb 1 (length t) && leb (length t) most_characters && every allowed t 0 (length t))
      (has is_space t 0) (has is_slash t 0) (has is_slash t (length t - 1)) (every_from (apart t) (length t) 0) e)
    where
      by_test : (a s l z b : Bool) → (s || l || z) ≡ true → (a && not s && not l && not z && b) ≡ false
      by_test a true l z b e = rw (and-false a)
      by_test a false true z b e = rw (and-false (a && true))
      by_test a false false true b e = rw (and-false (a && true && true))
      by_test a false false false b e = absurd (false≢true e)

  pub formed_rest : edges t ≡ false → 1 ≤ length t → length t ≤ most_characters → spelled t ≡ formed t
  unfolding formed
  formed_rest e some few =
      rw (sub-zero, le-leb 1 (length t) some, le-leb (length t) most_characters few)
      (by_test (every_from (has allowed t) (length t) 0)
      (has is_space t 0) (has is_slash t 0) (has is_slash t (length t - 1)) (every_from (apart t) (length t) 0) e)
    where
      by_test : (a s l z b : Bool) → (s || l || z) ≡ false → (a && b) ≡ (a && not s && not l && not z && b)
      by_test a true l z b e = absurd (false≢true (sym e))
      by_test a false true z b e = absurd (false≢true (sym e))
      by_test a false false true b e = absurd (false≢true (sym e))
      by_test a false false false b e = simp and-true
