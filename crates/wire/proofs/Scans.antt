-- The laws of a search and a test over numbered places. A loop at place i of n has left what `first_from f (n - i) i` finds, and that
-- comes to what the whole finds: one law for each way a turn may go. Assumes nothing.
use mathlib.Core.Path.{◌≡◌, refl, sym, ◌∙◌}
use mathlib.Core.Logic.{⊎_elim}
use mathlib.Core.Bool.{Bool, true, false, cond, ◌&&◌, false≢true}
use mathlib.Core.Option.{none, some}
use Prim.Native.Nat.{ℕ, zero, suc, ◌+◌, ◌-◌, ◌≤◌, ◌<◌}
use native.Mathlib.Nat.{eq-or-lt_of_le}
use native.Mathlib.Numerals.{add-one}
use native.Mathlib.Omega.{arith}
use Rattle.wire.specs.Places.{first_from, every_from}

module _ (f : ℕ → Bool) where
  -- ---- a turn of the search

  first_step : (n i : ℕ) → i < n → first_from f (n - i) i ≡ cond (f i) (some i) (first_from f (n - (i + 1)) (i + 1))
  unfolding first_from
  first_step n i h = let left : n - i ≡ suc (n - (i + 1)) = omega arith in rw (left, add-one i)

  pub first_here : (n i : ℕ) → i < n → f i ≡ true → first_from f (n - i) i ≡ some i
  first_here n i h here = first_step n i h ∙ (rw here)

  pub first_more : (n i : ℕ) → i < n → f i ≡ false → first_from f (n - (i + 1)) (i + 1) ≡ first_from f (n - i) i
  first_more n i h here = sym (first_step n i h ∙ (rw here))

  pub first_ends : (n i : ℕ) → n ≤ i → first_from f (n - i) i ≡ none
  unfolding first_from
  first_ends n i h = let left : n - i ≡ 0 = omega arith in rw left

  -- ---- a turn of the test

  every_step : (n i : ℕ) → i < n → every_from f (n - i) i ≡ (f i && every_from f (n - (i + 1)) (i + 1))
  unfolding every_from
  every_step n i h = let left : n - i ≡ suc (n - (i + 1)) = omega arith in rw (left, add-one i)

  pub every_fails : (n i : ℕ) → i < n → f i ≡ false → every_from f (n - i) i ≡ false
  every_fails n i h here = every_step n i h ∙ (rw here)

  pub every_more : (n i : ℕ) → i < n → f i ≡ true → every_from f (n - (i + 1)) (i + 1) ≡ every_from f (n - i) i
  every_more n i h here = sym (every_step n i h ∙ (rw here))

  pub every_ends : (n i : ℕ) → n ≤ i → every_from f (n - i) i ≡ true
  unfolding every_from
  every_ends n i h = let left : n - i ≡ 0 = omega arith in rw left

  -- ---- what they mean

  -- the place found is one of those searched, and the test holds there
  pub first_found : (n i k : ℕ) → first_from f n i ≡ some k → (i ≤ k) × (k < i + n) × (f k ≡ true)
  unfolding first_from
  first_found zero i k e = absurd (let z : ◌≡◌ {A = ℕ} 0 1 = cc in omega arith)
  first_found (suc n) i k e = by_test (first_found n (suc i) k) (f i) refl e
    where
      by_test : (first_from f n (suc i) ≡ some k → (suc i ≤ k) × (k < suc i + n) × (f k ≡ true)) → (t : Bool) → f i ≡ t → cond t (some i) (first_from f n (suc i)) ≡ some k → (i ≤ k) × (k < i + suc n) × (f k ≡ true)
      by_test rest true here found = let same : i ≡ k = cc in (omega arith, omega arith, rw (← same) here)
      by_test rest false here found = let later = rest found in (omega arith, omega arith, later.2)

  -- at none of the places before it
  pub first_before : (n i k : ℕ) → first_from f n i ≡ some k → (j : ℕ) → i ≤ j → j < k → f j ≡ false
  unfolding first_from
  first_before zero i k e j low high = absurd (let z : ◌≡◌ {A = ℕ} 0 1 = cc in omega arith)
  first_before (suc n) i k e j low high = by_test (λ found l. first_before n (suc i) k found j l high) (f i) refl e
    where
      by_test : (first_from f n (suc i) ≡ some k → suc i ≤ j → f j ≡ false) → (t : Bool) → f i ≡ t → cond t (some i) (first_from f n (suc i)) ≡ some k → f j ≡ false
      by_test rest true here found = let same : i ≡ k = cc in absurd (omega arith)
      by_test rest false here found = ⊎_elim (λ (q : i ≡ j). rw (← q) here) (λ (l : i < j). rest found l) (eq-or-lt_of_le low)

  -- where no place was found, at none of them
  pub first_nowhere : (n i : ℕ) → first_from f n i ≡ none → (j : ℕ) → i ≤ j → j < i + n → f j ≡ false
  unfolding first_from
  first_nowhere zero i e j low high = absurd (omega arith)
  first_nowhere (suc n) i e j low high = by_test (λ found l. first_nowhere n (suc i) found j l (omega arith)) (f i) refl e
    where
      by_test : (first_from f n (suc i) ≡ none → suc i ≤ j → f j ≡ false) → (t : Bool) → f i ≡ t → cond t (some i) (first_from f n (suc i)) ≡ none → f j ≡ false
      by_test rest true here found = absurd (let z : ◌≡◌ {A = ℕ} 0 1 = cc in omega arith)
      by_test rest false here found = ⊎_elim (λ (q : i ≡ j). rw (← q) here) (λ (l : i < j). rest found l) (eq-or-lt_of_le low)

  -- a place at which the test holds, and at none before it
  first_at : (n i k : ℕ) → i ≤ k → k < i + n → f k ≡ true → ((j : ℕ) → j < k → f j ≡ true → ⊥) → first_from f n i ≡ some k
  unfolding first_from
  first_at zero i k low high is earlier = absurd (omega arith)
  first_at (suc n) i k low high is earlier = by_test (first_at n (suc i) k) (f i) refl
    where
      by_test : (suc i ≤ k → k < suc i + n → f k ≡ true → ((j : ℕ) → j < k → f j ≡ true → ⊥) → first_from f n (suc i) ≡ some k)
          → (t : Bool) → f i ≡ t → cond t (some i) (first_from f n (suc i)) ≡ some k
      by_test rest true here = ⊎_elim (λ (q : i ≡ k). rw q) (λ (l : i < k). absurd (earlier i l here)) (eq-or-lt_of_le low)
      by_test rest false here = ⊎_elim
          (λ (q : i ≡ k). absurd (false≢true (sym here ∙ (rw q is))))
          (λ (l : i < k). rest l (omega arith) is earlier)
          (eq-or-lt_of_le low)

  pub first_is : (n k : ℕ) → k < n → f k ≡ true → ((j : ℕ) → j < k → f j ≡ true → ⊥) → first_from f n 0 ≡ some k
  first_is n k l is earlier = first_at n 0 k (omega arith) (omega arith) is earlier

  nowhere : (n i : ℕ) → ((j : ℕ) → j < i + n → f j ≡ true → ⊥) → first_from f n i ≡ none
  unfolding first_from
  nowhere zero i fails = refl
  nowhere (suc n) i fails = by_test (nowhere n (suc i) (λ j l. fails j (omega arith))) (f i) refl
    where
      by_test : first_from f n (suc i) ≡ none → (t : Bool) → f i ≡ t → cond t (some i) (first_from f n (suc i)) ≡ none
      by_test rest true here = absurd (fails i (omega arith) here)
      by_test rest false here = rest

  pub first_none : (n : ℕ) → ((j : ℕ) → j < n → f j ≡ true → ⊥) → first_from f n 0 ≡ none
  first_none n fails = nowhere n 0 (λ j l. fails j (omega arith))

  pub every_holds : (n i k : ℕ) → every_from f n i ≡ true → i ≤ k → k < i + n → f k ≡ true
  unfolding every_from
  every_holds zero i k e low high = absurd (omega arith)
  every_holds (suc n) i k e low high = by_test (every_holds n (suc i) k) (f i) refl e
    where
      by_test : (every_from f n (suc i) ≡ true → suc i ≤ k → k < suc i + n → f k ≡ true) → (t : Bool) → f i ≡ t → (t && every_from f n (suc i)) ≡ true → f k ≡ true
      by_test later true here rest =
          ⊎_elim (λ (q : i ≡ k). rw (← q) here) (λ (l : i < k). later rest l (omega arith)) (eq-or-lt_of_le low)
      by_test later false here rest = absurd (false≢true rest)
