-- Whether slots are those to which the first m keys were added, told in place: the search of each key among those before it ends at the
-- slot that names it, or at an equal one before it, and as many slots are taken as name the key that ended there. Assumes nothing.
use mathlib.Core.Path.{◌≡◌, refl, sym, ap, ◌∙◌}
use mathlib.Core.Logic.{⊎_elim}
use mathlib.Core.Bool.{Bool, true, false, cond, ◌&&◌, and-eq-true_iff}
use mathlib.Core.List.{List}
use Prim.Native.Nat.{ℕ, zero, suc, ◌+◌, ◌-◌, ◌≤◌, ◌<◌}
use native.Mathlib.Nat.{add-zero, add-suc, suc-add, zero-add}
use native.Mathlib.Omega.{arith}
use lib.Dec.{eqb}
use lib.ListN.{length, get_or, set, get_or-eq_default}
use lib.Seq.{get_or-set_same}
use borrow.Author.Tests.{eq-eqb, ne_eqb, eqb-true}
use Rattle.wire.specs.Places.{every_from}
use Rattle.wire.proofs.Sides.{le_or_lt}
use Rattle.slots.specs.Slots.{names, searched, built_to}
use Rattle.slots.specs.Asked.{taken}
use Rattle.slots.proofs.Walks.{names_true, names_told, names_none_lem}
use Rattle.slots.proofs.Under.{Under, under_taken, under_full, taken_more}
use Rattle.slots.proofs.Filled.{Filled, every, built_filled, steps, steps_inside, place_inside, place_holds, place_empty}
use Rattle.slots.proofs.Masks.{seen, masked, seen_low, seen_high, seen_is, masked_length, masked_get, masked_most, masked_all, masked_later, masked_under, masked_more, masked_put, masked_steps, masked_place, masked_name, place_met}

-- ---- the check

-- of the n places from i on, those at which the test holds
unfoldable pub count_from : (ℕ → Bool) → ℕ → ℕ → ℕ
count_from f zero i = 0
count_from f (suc n) i = cond (f i) (suc (count_from f n (suc i))) (count_from f n (suc i))

-- what the slot holds at which the search of key k among those before it ends
abbrev pub name_of : (List ℕ → ℕ) → (ℕ → List ℕ) → List ℕ → ℕ → ℕ
name_of number keys xs k = (searched number keys k (keys k) xs).name

abbrev place_of : (List ℕ → ℕ) → (ℕ → List ℕ) → List ℕ → ℕ → ℕ
place_of number keys xs k = (searched number keys k (keys k) xs).place

-- it names key k or one before it
abbrev pub fits_at : (List ℕ → ℕ) → (ℕ → List ℕ) → List ℕ → ℕ → Bool
fits_at number keys xs k = names (k + 1) (name_of number keys xs k)

-- it names key k
abbrev pub new_at : (List ℕ → ℕ) → (ℕ → List ℕ) → List ℕ → ℕ → Bool
new_at number keys xs k = eqb (name_of number keys xs k) (k + 1)

unfoldable pub checked : (List ℕ → ℕ) → (ℕ → List ℕ) → List ℕ → ℕ → Bool
checked number keys xs m = every_from (fits_at number keys xs) m 0 && eqb (taken xs) (count_from (new_at number keys xs) m 0)

-- ---- a key added

module _ (number : List ℕ → ℕ) (keys : ℕ → List ℕ) (n k : ℕ) where
  built_old : names k (name_of number keys (built_to number keys n k) k) ≡ true → built_to number keys n (suc k) ≡ built_to number keys n k
  unfolding built_to
  built_old e = rw e

  built_new : names k (name_of number keys (built_to number keys n k) k) ≡ false
      → built_to number keys n (suc k) ≡ set (built_to number keys n k) (place_of number keys (built_to number keys n k) k) (k + 1)
  unfolding built_to
  built_new e = rw e

-- ---- what passes the check

module _ (number : List ℕ → ℕ) (keys : ℕ → List ℕ) (n : ℕ) (xs : List ℕ) where
  -- of the j keys from k on: there are slots enough for those counted, and if there are no more, the slots are those built
  record Sound (j k : ℕ) : Type 0 where
    enough : taken (masked k xs) + count_from (new_at number keys xs) j k ≤ taken xs
    is : taken xs ≤ taken (masked k xs) + count_from (new_at number keys xs) j k → masked k xs ≡ built_to number keys n k → xs ≡ built_to number keys n (k + j)

  sound_end : (k : ℕ) → Sound 0 k
  unfolding count_from
  sound_end k =
      let less : taken (masked k xs) ≤ taken xs = under_taken (masked_under k xs) in
      record {
        enough = omega arith;
        is = λ h b. sym (under_full (masked_under k xs) (omega arith)) ∙ b ∙ ap (built_to number keys n) (sym (add-zero k));
      }

  -- the search of key k ends at the slot that names it
  module _ (j k : ℕ) (rest : Sound j (suc k)) (new : name_of number keys xs k ≡ k + 1) where
    holds : get_or xs (place_of number keys xs k) 0 ≡ k + 1
    holds = place_met number keys k (keys k) xs (λ z. omega (arith, z, new)) ∙ new

    inside : place_of number keys xs k < length xs
    inside = ⊎_elim
        (λ (past : length xs ≤ place_of number keys xs k). absurd (let z : 0 ≡ k + 1 = sym (get_or-eq_default xs 0 past) ∙ holds in omega arith))
        (λ (l : place_of number keys xs k < length xs). l)
        (le_or_lt (length xs) (place_of number keys xs k))

    free : get_or (masked k xs) (place_of number keys xs k) 0 ≡ 0
    free = masked_get k xs (place_of number keys xs k) ∙ ap (seen k) holds ∙ seen_high k (k + 1) (omega arith)

    over : Under (set (masked k xs) (place_of number keys xs k) (k + 1)) (masked (suc k) xs)
    over = masked_put k xs (place_of number keys xs k) holds

    one_more_lem : taken (set (masked k xs) (place_of number keys xs k) (k + 1)) ≡ taken (masked k xs) + 1
    one_more_lem = taken_more (masked k xs) (place_of number keys xs k) (k + 1) (rw (masked_length k xs) inside) free (λ z. omega arith)

    next : masked k xs ≡ built_to number keys n k → built_to number keys n (suc k) ≡ set (masked k xs) (place_of number keys xs k) (k + 1)
    next b =
        let none : name_of number keys (masked k xs) k ≡ 0 = masked_name number keys k (keys k) xs ∙ ap (seen k) new ∙ seen_high k (k + 1) (omega arith) in
        let unnamed : names k (name_of number keys (masked k xs) k) ≡ false = ap (names k) none ∙ names_none_lem k in
        built_new number keys n k (rw b at unnamed) ∙ (rw (← b, masked_place number keys k (keys k) xs))

    sound_new : Sound (suc j) k
    unfolding count_from
    sound_new =
        let more : taken (masked k xs) + 1 ≤ taken (masked (suc k) xs) = omega (arith, one_more_lem, under_taken over) in
        let counted : new_at number keys xs k ≡ true = eq-eqb (name_of number keys xs k) (k + 1) new in
        record {
          enough = rw counted (omega (arith, rest.enough));
          is = λ h b.
              let h2 : taken xs ≤ taken (masked k xs) + suc (count_from (new_at number keys xs) j (suc k)) = rw counted at h in
              let all : taken (masked (suc k) xs) ≤ taken (set (masked k xs) (place_of number keys xs k) (k + 1)) = omega (arith, one_more_lem, rest.enough) in
              rest.is (omega arith) (sym (under_full over all) ∙ sym (next b)) ∙ ap (built_to number keys n) (suc-add k j ∙ sym (add-suc k j));
        }

  -- the search of key k ends at an equal one before it
  module _ (j k : ℕ) (rest : Sound j (suc k)) (old : names k (name_of number keys xs k) ≡ true) where
    sound_old : Sound (suc j) k
    unfolding count_from
    sound_old =
        let low : name_of number keys xs k ≤ k = (names_told k (name_of number keys xs k) old).1 in
        let more : taken (masked k xs) ≤ taken (masked (suc k) xs) = under_taken (masked_more k xs) in
        let counted : new_at number keys xs k ≡ false = ne_eqb (name_of number keys xs k) (k + 1) (λ z. omega arith) in
        record {
          enough = rw counted (omega (arith, rest.enough));
          is = λ h b.
              let h2 : taken xs ≤ taken (masked k xs) + count_from (new_at number keys xs) j (suc k) = rw counted at h in
              let all : taken (masked (suc k) xs) ≤ taken (masked k xs) = omega (arith, rest.enough) in
              let found : names k (name_of number keys (masked k xs) k) ≡ true = ap (names k) (masked_name number keys k (keys k) xs ∙ seen_low k (name_of number keys xs k) low) ∙ old in
              rest.is (omega arith) (sym (under_full (masked_more k xs) all) ∙ b ∙ sym (built_old number keys n k (rw b at found))) ∙ ap (built_to number keys n) (suc-add k j ∙ sym (add-suc k j));
        }

  sound : (j k : ℕ) → every_from (fits_at number keys xs) j k ≡ true → Sound j k
  unfolding every_from
  sound zero k e = sound_end k
  sound (suc j) k e =
      let tests = (and-eq-true_iff (fits_at number keys xs k) (every_from (fits_at number keys xs) j (suc k))).0 e in
      by_side (sound j (suc k) tests.1) (names_told (k + 1) (name_of number keys xs k) tests.0)
    where
      by_side : Sound j (suc k) → (name_of number keys xs k ≡ 0 → ⊥) × (name_of number keys xs k ≤ k + 1) → Sound (suc j) k
      by_side rest told = ⊎_elim
          (λ (l : name_of number keys xs k ≤ k). sound_old j k rest (names_true k (name_of number keys xs k) told.0 l))
          (λ (g : k < name_of number keys xs k). let new : name_of number keys xs k ≡ k + 1 = omega (arith, told.1) in sound_new j k rest new)
          (le_or_lt (name_of number keys xs k) k)

  pub checked_built : (m : ℕ) → length xs ≡ n → checked number keys xs m ≡ true → xs ≡ built_to number keys n m
  unfolding checked built_to
  checked_built m long e =
      let tests = (and-eq-true_iff (every_from (fits_at number keys xs) m 0) (eqb (taken xs) (count_from (new_at number keys xs) m 0))).0 e in
      let count : taken xs ≡ count_from (new_at number keys xs) m 0 = eqb-true (taken xs) (count_from (new_at number keys xs) m 0) tests.1 in
      (sound m 0 tests.0).is (omega arith) (masked_all xs ∙ (rw long)) ∙ ap (built_to number keys n) (zero-add m)

-- ---- what is built

-- of the slots of more keys those of the first k are seen
masked_built : (number : List ℕ → ℕ) (keys : ℕ → List ℕ) (n j k : ℕ) → k + j ≤ n → masked k (built_to number keys n (k + j)) ≡ built_to number keys n k
masked_built number keys n zero k h =
    let low : k ≤ n = omega arith in
    rw (add-zero k) (masked_most k (built_to number keys n k) (built_filled number keys n k low).most)
masked_built number keys n (suc j) k h =
    let low : k + j ≤ n = omega arith in
    rw (add-suc k j) (by_test (masked_built number keys n j k low) (built_filled number keys n (k + j) low) (names (k + j) (name_of number keys (built_to number keys n (k + j)) (k + j))) refl)
  where
    by_test : masked k (built_to number keys n (k + j)) ≡ built_to number keys n k → Filled every number keys n (k + j) (built_to number keys n (k + j))
        → (t : Bool) → names (k + j) (name_of number keys (built_to number keys n (k + j)) (k + j)) ≡ t → masked k (built_to number keys n (suc (k + j))) ≡ built_to number keys n k
    by_test rest f true e = rw (built_old number keys n (k + j) e) rest
    by_test rest f false e =
        let room : k + j < n = omega arith in
        rw (built_new number keys n (k + j) e)
        (masked_later k (built_to number keys n (k + j)) (place_of number keys (built_to number keys n (k + j)) (k + j)) (k + j + 1) (omega arith) (place_empty every number keys n (k + j) (built_to number keys n (k + j)) f room e) ∙ rest)

module _ (number : List ℕ → ℕ) (keys : ℕ → List ℕ) (n m : ℕ) (xs : List ℕ) (long : length xs ≡ n) (fit : m ≤ n) (view : (k : ℕ) → k ≤ m → masked k xs ≡ built_to number keys n k) where
  -- the check of key k tells what was done when it was added
  record Step (k : ℕ) : Type 0 where
    fine : fits_at number keys xs k ≡ true
    count : taken (built_to number keys n (suc k)) ≡ cond (new_at number keys xs k) (taken (built_to number keys n k) + 1) (taken (built_to number keys n k))

  step : (k : ℕ) → k < m → Step k
  step k h = by_test (names k (name_of number keys (built_to number keys n k) k)) refl
    where
      here : masked k xs ≡ built_to number keys n k
      here = view k (omega arith)

      room : k < n
      room = omega arith

      filled : Filled every number keys n k (built_to number keys n k)
      filled = built_filled number keys n k (omega arith)

      name_seen : name_of number keys (built_to number keys n k) k ≡ seen k (name_of number keys xs k)
      name_seen = rw (← here) (masked_name number keys k (keys k) xs)

      place_same : place_of number keys xs k ≡ place_of number keys (built_to number keys n k) k
      place_same = rw (← here) (sym (masked_place number keys k (keys k) xs))

      short : steps number keys k (keys k) xs < length xs
      short = rw (← (masked_steps number keys k (keys k) xs), here) (omega (arith, steps_inside every number keys n k (built_to number keys n k) filled room, filled.long, long))

      by_test : (t : Bool) → names k (name_of number keys (built_to number keys n k) k) ≡ t → Step k
      by_test true e =
          let told = names_told k (name_of number keys (built_to number keys n k) k) e in
          let is = seen_is k (name_of number keys xs k) (name_of number keys (built_to number keys n k) k) (sym name_seen) told.0 in
          let old : new_at number keys xs k ≡ false = ne_eqb (name_of number keys xs k) (k + 1) (λ z. omega (arith, is.1)) in
          record {
            fine = names_true (k + 1) (name_of number keys xs k) (λ z. told.0 (sym is.0 ∙ z)) (omega (arith, is.1));
            count = rw (old, built_old number keys n k e);
          }
      by_test false e =
          let at : ℕ = place_of number keys (built_to number keys n k) k in
          let inside : at < length (built_to number keys n k) = place_inside number keys k (keys k) (built_to number keys n k) (steps_inside every number keys n k (built_to number keys n k) filled room) in
          let held : get_or (built_to number keys n (suc k)) at 0 ≡ k + 1 = rw (built_new number keys n k e) (get_or-set_same (built_to number keys n k) at (k + 1) 0 inside) in
          let told : seen (suc k) (get_or xs at 0) ≡ k + 1 = sym (masked_get (suc k) xs at) ∙ ap (λ (l : List ℕ). get_or l at 0) (view (suc k) h) ∙ held in
          let is : name_of number keys xs k ≡ k + 1 = sym (place_holds number keys k (keys k) xs short) ∙ ap (λ (i : ℕ). get_or xs i 0) place_same ∙ (seen_is (suc k) (get_or xs at 0) (k + 1) told (λ z. omega arith)).0 in
          record {
            fine = names_true (k + 1) (name_of number keys xs k) (λ z. omega (arith, is)) (omega (arith, is));
            count = rw (eq-eqb (name_of number keys xs k) (k + 1) is, built_new number keys n k e)
                (taken_more (built_to number keys n k) at (k + 1) inside (place_empty every number keys n k (built_to number keys n k) filled room e) (λ z. omega arith));
          }

  all_fine : (j k : ℕ) → k + j ≡ m → every_from (fits_at number keys xs) j k ≡ true
  unfolding every_from
  all_fine zero k e = refl
  all_fine (suc j) k e =
      let within : k < m = omega arith in
      let next : suc k + j ≡ m = omega arith in
      rw ((step k within).fine, all_fine j (suc k) next)

  all_counted : (j k : ℕ) → k + j ≡ m → taken (built_to number keys n k) + count_from (new_at number keys xs) j k ≡ taken (built_to number keys n m)
  unfolding count_from
  all_counted zero k e = add-zero (taken (built_to number keys n k)) ∙ ap (λ (i : ℕ). taken (built_to number keys n i)) (sym (add-zero k) ∙ e)
  all_counted (suc j) k e =
      let within : k < m = omega arith in
      let next : suc k + j ≡ m = omega arith in
      by_test (all_counted j (suc k) next) (new_at number keys xs k) (step k within).count
    where
      by_test : taken (built_to number keys n (suc k)) + count_from (new_at number keys xs) j (suc k) ≡ taken (built_to number keys n m)
          → (t : Bool) → taken (built_to number keys n (suc k)) ≡ cond t (taken (built_to number keys n k) + 1) (taken (built_to number keys n k))
          → taken (built_to number keys n k) + cond t (suc (count_from (new_at number keys xs) j (suc k))) (count_from (new_at number keys xs) j (suc k)) ≡ taken (built_to number keys n m)
      by_test rest true c = omega arith
      by_test rest false c = omega arith

pub built_checked : (number : List ℕ → ℕ) (keys : ℕ → List ℕ) (n m : ℕ) (xs : List ℕ) → m ≤ n → xs ≡ built_to number keys n m → checked number keys xs m ≡ true
unfolding checked
built_checked number keys n m xs fit e =
    let long : length xs ≡ n = ap length e ∙ (built_filled number keys n m fit).long in
    let count : taken (built_to number keys n 0) + count_from (new_at number keys xs) m 0 ≡ taken (built_to number keys n m) = all_counted number keys n m xs long fit view m 0 (zero-add m) in
    let none : taken (built_to number keys n 0) ≤ 0 = (built_filled number keys n 0 (omega arith)).few in
    let is : taken xs ≡ count_from (new_at number keys xs) m 0 = omega (arith, ap taken e) in
    rw (all_fine number keys n m xs long fit view m 0 (zero-add m), eq-eqb (taken xs) (count_from (new_at number keys xs) m 0) is)
  where
    view : (k : ℕ) → k ≤ m → masked k xs ≡ built_to number keys n k
    view k h =
        let sum : k + (m - k) ≡ m = omega arith in
        let low : k + (m - k) ≤ n = omega arith in
        ap (masked k) (e ∙ ap (built_to number keys n) (sym sum)) ∙ masked_built number keys n (m - k) k low
