-- What a search tells, in any slots and in those to which keys were added in order: each key that was added is found, no slot is left that
-- names another, and no more slots are read than keys were added, and one. Assumes nothing.
use mathlib.Core.Path.{◌≡◌, refl, sym, ap, fun_ext, ◌∙◌}
use mathlib.Core.Logic.{⊎_elim}
use mathlib.Core.Bool.{Bool, true, false, cond, false≢true}
use mathlib.Core.List.{List, [], ◌∷◌}
use Prim.Native.Nat.{ℕ, zero, suc, ◌+◌, ◌-◌, ◌≤◌, ◌<◌, min}
use native.Mathlib.Nat.{eq-or-lt_of_le}
use native.Mathlib.Omega.{arith}
use lib.ListN.{length, get_or, set, replicate, length-replicate, length-set, get_or-eq_default}
use borrow.Author.Tests.{le-leb}
use Rattle.wire.specs.Field.{same}
use Rattle.wire.proofs.Texts.{same_itself, same_equal}
use Rattle.wire.proofs.Sides.{le_or_lt}
use Rattle.slots.specs.Slots.{start_at, turned, place_after, passed, names, end_after, stops_at, searched, placed, built_to}
use Rattle.slots.specs.Asked.{taken}
use Rattle.slots.proofs.Walks.{start_within, place_within, turned_length, turned_get, turned_set, names_true, names_told, names_least, names_later, names_none_lem, stops_empty, stops_named}
use Rattle.slots.proofs.Under.{Under, under_itself, under_set, under_turned, taken_turned, taken_zeros, taken_set, hit, Most, hit_stops, passed_taken, under_hit, set_hit}

-- ---- what a slot names

-- the bound is no matter for a slot that holds no more than the lesser one
stops_more : (keys : ℕ → List ℕ) (k m : ℕ) (looked : List ℕ) (x : ℕ) → k ≤ m → x ≤ k → stops_at keys m looked x ≡ stops_at keys k looked x
unfolding stops_at names
stops_more keys k m looked x h l = rw (le-leb x k l, le-leb x m (omega arith))

pub stops_zero : (keys : ℕ → List ℕ) (k : ℕ) (looked : List ℕ) → stops_at keys k looked 0 ≡ true
stops_zero keys k looked = stops_empty keys k looked 0 (names_none_lem k)

names_not : (k x : ℕ) → names k x ≡ false → x ≤ k → x ≡ 0
names_not k zero e h = refl
names_not k (suc x) e h = absurd (false≢true (sym e ∙ names_true k (suc x) (λ z. omega arith) h))

-- ---- what holds of each slot, and of an empty one

abbrev Each : (ℕ → Type 0) → List ℕ → Type 0
Each P xs = (i : ℕ) → P (get_or xs i 0)

module _ (P : ℕ → Type 0) where
  each_set : (xs : List ℕ) (p v : ℕ) → Each P xs → P v → Each P (set xs p v)
  each_set [] p v e h i = e i
  each_set (x ∷ xs) zero v e h zero = h
  each_set (x ∷ xs) zero v e h (suc i) = e (suc i)
  each_set (x ∷ xs) (suc p) v e h zero = e 0
  each_set (x ∷ xs) (suc p) v e h (suc i) = each_set xs p v (λ j. e (suc j)) h i

  module _ (empty : P 0) where
    each_zeros : (n : ℕ) → Each P (replicate n 0)
    each_zeros zero i = empty
    each_zeros (suc n) zero = empty
    each_zeros (suc n) (suc i) = each_zeros n i

    each_turned : (s : ℕ) (xs : List ℕ) → s ≤ length xs → Each P xs → Each P (turned s xs)
    each_turned s xs h e i = ⊎_elim
        (λ (past : length xs ≤ i). let out : length (turned s xs) ≤ i = rw (turned_length s xs h) past in rw (get_or-eq_default (turned s xs) 0 out) empty)
        (λ (l : i < length xs). rw (turned_get s xs h i l) (e (place_after s i (length xs))))
        (le_or_lt (length xs) i)

-- no slot holds more than k
most_turned : (s k : ℕ) (xs : List ℕ) → s ≤ length xs → Most k xs → Most k (turned s xs)
most_turned s k xs = each_turned (λ x. x ≤ k) (omega arith) s xs

-- a slot that names a key names one that a test picks out
abbrev Picked : (ℕ → Bool) → ℕ → Type 0
Picked picks x = (j : ℕ) → x ≡ j + 1 → picks j ≡ true

picked_none : (picks : ℕ → Bool) → Picked picks 0
picked_none picks j e = absurd (omega arith)

-- ---- how a search ended, in any slots

-- where the search of a key starts
abbrev pub origin : (List ℕ → ℕ) → List ℕ → List ℕ → ℕ
origin number looked xs = start_at (number looked) (length xs)

-- how many slots it passes
abbrev pub steps : (List ℕ → ℕ) → (ℕ → List ℕ) → ℕ → List ℕ → List ℕ → ℕ
steps number keys bound looked xs = passed (stops_at keys bound looked) (turned (origin number looked xs) xs)

module _ (number : List ℕ → ℕ) (keys : ℕ → List ℕ) (bound : ℕ) (looked xs : List ℕ) where
  pub origin_within : origin number looked xs ≤ length xs
  origin_within = start_within (number looked) (length xs)

  pub searched_name : (searched number keys bound looked xs).name ≡ hit (stops_at keys bound looked) (turned (origin number looked xs) xs)
  unfolding end_after
  searched_name = refl

  pub searched_place : (searched number keys bound looked xs).place ≡ place_after (origin number looked xs) (steps number keys bound looked xs) (length xs)
  unfolding end_after
  searched_place = refl

  searched_read : (searched number keys bound looked xs).read ≡ min (steps number keys bound looked xs + 1) (length xs)
  unfolding end_after
  searched_read = refl

  -- only slots that are taken are passed
  steps_taken : steps number keys bound looked xs ≤ taken xs
  steps_taken = omega (arith, taken_turned (origin number looked xs) xs, passed_taken (stops_at keys bound looked) (stops_zero keys bound looked) (turned (origin number looked xs) xs))

  pub place_inside : steps number keys bound looked xs < length xs → (searched number keys bound looked xs).place < length xs
  place_inside l = rw searched_place (place_within (origin number looked xs) (steps number keys bound looked xs) (length xs) origin_within l)

  pub place_holds : steps number keys bound looked xs < length xs → get_or xs (searched number keys bound looked xs).place 0 ≡ (searched number keys bound looked xs).name
  place_holds l = sym (searched_name ∙ turned_get (origin number looked xs) xs origin_within (steps number keys bound looked xs) l ∙ (rw searched_place))

  -- no more slots are read than there are
  pub reads_within : (searched number keys bound looked xs).read ≤ length xs
  reads_within = rw searched_read (omega arith)

  -- what is found is the key looked for
  pub found_is : names bound (searched number keys bound looked xs).name ≡ true → same (keys ((searched number keys bound looked xs).name - 1)) looked ≡ true
  found_is e =
      let stopped : stops_at keys bound looked (searched number keys bound looked xs).name ≡ true =
      rw searched_name (hit_stops (stops_at keys bound looked) (stops_zero keys bound looked) (turned (origin number looked xs) xs)) in
      sym (stops_named keys bound looked (searched number keys bound looked xs).name e) ∙ stopped

-- ---- keys that agree

stops_same : (keys other : ℕ → List ℕ) (bound : ℕ) (looked : List ℕ) → ((j : ℕ) → j < bound → keys j ≡ other j)
    → (x : ℕ) → stops_at keys bound looked x ≡ stops_at other bound looked x
stops_same keys other bound looked agree zero = stops_zero keys bound looked ∙ sym (stops_zero other bound looked)
stops_same keys other bound looked agree (suc x) = ⊎_elim
    (λ (l : suc x ≤ bound).
    let named : names bound (suc x) ≡ true = names_true bound (suc x) (λ z. omega arith) l in
    let is : keys (suc x - 1) ≡ other (suc x - 1) = agree (suc x - 1) (omega arith) in
    stops_named keys bound looked (suc x) named ∙ ap (λ (key : List ℕ). same key looked) is ∙ sym (stops_named other bound looked (suc x) named))
    (λ (g : bound < suc x). stops_empty keys bound looked (suc x) (names_later bound (suc x) g) ∙ sym (stops_empty other bound looked (suc x) (names_later bound (suc x) g)))
    (le_or_lt (suc x) bound)

pub searched_same : (number : List ℕ → ℕ) (keys other : ℕ → List ℕ) (bound : ℕ) (looked xs : List ℕ) → ((j : ℕ) → j < bound → keys j ≡ other j)
    → searched number keys bound looked xs ≡ searched number other bound looked xs
searched_same number keys other bound looked xs agree =
    ap (λ (stops : ℕ → Bool). end_after (origin number looked xs) xs (passed stops (turned (origin number looked xs) xs))) (fun_ext (stops_same keys other bound looked agree))

built_same : (number : List ℕ → ℕ) (keys other : ℕ → List ℕ) (n k : ℕ) → ((j : ℕ) → j < k → keys j ≡ other j) → built_to number keys n k ≡ built_to number other n k
unfolding built_to
built_same number keys other n zero agree = refl
built_same number keys other n (suc k) agree =
    let before : built_to number keys n k ≡ built_to number other n k = built_same number keys other n k (λ j l. agree j (omega arith)) in
    let key : keys k ≡ other k = agree k (omega arith) in
    rw (before, key, searched_same number keys other k (other k) (built_to number other n k) (λ j l. agree j (omega arith)))

-- ---- those of the first k keys that a test picks out, added to n empty slots

unfoldable pub picked_to : (ℕ → Bool) → (List ℕ → ℕ) → (ℕ → List ℕ) → ℕ → ℕ → List ℕ
picked_to picks number keys n zero = replicate n 0
picked_to picks number keys n (suc k) =
    let before = picked_to picks number keys n k in
    cond (picks k) (placed (searched number keys k (keys k) before) k before) before

-- where it picks all of them
abbrev pub every : ℕ → Bool
every k = true

pub built_every : (number : List ℕ → ℕ) (keys : ℕ → List ℕ) (n k : ℕ) → built_to number keys n k ≡ picked_to every number keys n k
unfolding built_to picked_to
built_every number keys n zero = refl
built_every number keys n (suc k) = rw (built_every number keys n k)

module _ (picks : ℕ → Bool) (number : List ℕ → ℕ) (keys : ℕ → List ℕ) (n : ℕ) where
  -- key j is found: it, or the same before it
  abbrev Found : ℕ → List ℕ → ℕ → Type 0
  Found k xs j = (names k (searched number keys k (keys j) xs).name ≡ true) × ((searched number keys k (keys j) xs).name ≤ j + 1)

  pub record Filled (k : ℕ) (xs : List ℕ) : Type 0 where
    pub long : length xs ≡ n
    pub most : Most k xs
    pub few : taken xs ≤ k
    pub found : (j : ℕ) → j < k → picks j ≡ true → Found k xs j
    pub picked : Each (Picked picks) xs

  -- what is found is found in slots over these, among one key more
  still_found : (k : ℕ) (xs ys : List ℕ) → length ys ≡ length xs → Most k xs → Under xs ys → (j : ℕ) → Found k xs j → Found (suc k) ys j
  still_found k xs ys el m u j e =
      let looked : List ℕ = keys j in
      let s : ℕ = origin number looked xs in
      let low : s ≤ length xs = origin_within number keys k looked xs in
      let stops = stops_at keys k looked in
      let other = stops_at keys (suc k) looked in
      let told = names_told k (searched number keys k looked xs).name e.0 in
      let before : (searched number keys k looked xs).name ≡ hit stops (turned s xs) = searched_name number keys k looked xs in
      let after : (searched number keys (suc k) looked ys).name ≡ hit other (turned s ys) = searched_name number keys (suc k) looked ys ∙ (rw el) in
      let is : hit other (turned s ys) ≡ hit stops (turned s xs) = under_hit stops (stops_zero keys k looked) other k (λ x l. stops_more keys k (suc k) looked x (omega arith) l)
      (under_turned s u) (most_turned s k xs low m) (λ z. told.0 (before ∙ z)) in
      rw (after ∙ is ∙ sym before) (names_true (suc k) (searched number keys k looked xs).name told.0 (omega (arith, told.1)), e.1)

  module _ (k : ℕ) (xs : List ℕ) (f : Filled k xs) where
    -- a key that is left out, or found already
    filled_same : (picks k ≡ true → Found k xs k) → Filled (suc k) xs
    filled_same there = record {
      long = f.long;
      most = λ i. omega (arith, f.most i);
      few = omega (arith, f.few);
      found = λ j l p. still_found k xs xs refl f.most (under_itself xs) j (⊎_elim
          (λ (q : j ≡ k). rw q (there (rw q at p)))
          (λ (o : j < k). f.found j o p)
          (eq-or-lt_of_le (let h : j ≤ k = omega arith in h)));
      picked = f.picked;
    }

    -- there is a slot left for one key more
    module _ (room : k < n) where
      pub steps_inside : steps number keys k (keys k) xs < length xs
      steps_inside = omega (arith, f.long, f.few, steps_taken number keys k (keys k) xs)

      -- a key that is not found ends at an empty slot
      pub place_empty : names k (searched number keys k (keys k) xs).name ≡ false → get_or xs (searched number keys k (keys k) xs).place 0 ≡ 0
      place_empty e =
          let is : get_or xs (searched number keys k (keys k) xs).place 0 ≡ (searched number keys k (keys k) xs).name = place_holds number keys k (keys k) xs steps_inside in
          is ∙ names_not k (searched number keys k (keys k) xs).name e (rw is at (f.most (searched number keys k (keys k) xs).place))

      -- and is found there once it is named
      new_found : (searched number keys (suc k) (keys k) (set xs (searched number keys k (keys k) xs).place (k + 1))).name ≡ k + 1
      new_found =
          let s : ℕ = origin number (keys k) xs in
          let low : s ≤ length xs = origin_within number keys k (keys k) xs in
          let p : ℕ = steps number keys k (keys k) xs in
          let back : k + 1 - 1 ≡ k = omega arith in
          let new : stops_at keys (suc k) (keys k) (k + 1) ≡ true =
          stops_named keys (suc k) (keys k) (k + 1) (names_true (suc k) (k + 1) (λ z. omega arith) (omega arith)) ∙ (rw (back, same_itself (keys k))) in
          searched_name number keys (suc k) (keys k) (set xs (searched number keys k (keys k) xs).place (k + 1))
          ∙ (rw (searched_place number keys k (keys k) xs, length-set xs (place_after s p (length xs)) (k + 1), turned_set s xs low p (k + 1) steps_inside)
          (set_hit (stops_at keys k (keys k)) (stops_zero keys k (keys k)) (stops_at keys (suc k) (keys k)) k (λ x l. stops_more keys k (suc k) (keys k) x (omega arith) l) (k + 1) new
          (turned s xs) (most_turned s k xs low f.most) (rw (turned_length s xs low) steps_inside)))

      filled_more : picks k ≡ true → Filled (suc k) (placed (searched number keys k (keys k) xs) k xs)
      filled_more p = by_test (names k (searched number keys k (keys k) xs).name) refl
        where
          by_test : (t : Bool) → names k (searched number keys k (keys k) xs).name ≡ t → Filled (suc k) (cond t xs (set xs (searched number keys k (keys k) xs).place (k + 1)))
          by_test true e = filled_same (λ q. (e, omega (arith, (names_told k (searched number keys k (keys k) xs).name e).1)))
          by_test false e =
              let there = (searched number keys k (keys k) xs).place in
              record {
                long = length-set xs there (k + 1) ∙ f.long;
                most = each_set (λ x. x ≤ suc k) xs there (k + 1) (λ i. omega (arith, f.most i)) (omega arith);
                few = omega (arith, f.few, taken_set xs there (k + 1));
                found = λ j l q. ⊎_elim
                    (λ (q : j ≡ k). rw (q, new_found) (names_true (suc k) (k + 1) (λ z. omega arith) (omega arith), omega arith))
                    (λ (o : j < k). still_found k xs (set xs there (k + 1)) (length-set xs there (k + 1)) f.most (under_set xs there (k + 1) (place_empty e)) j (f.found j o q))
                    (eq-or-lt_of_le (let h : j ≤ k = omega arith in h));
                picked = each_set (Picked picks) xs there (k + 1) f.picked (λ j e. let is : k ≡ j = omega arith in rw (← is) p);
              }

  pub picked_filled : (k : ℕ) → k ≤ n → Filled k (picked_to picks number keys n k)
  unfolding picked_to
  picked_filled zero h = record {
    long = length-replicate n 0;
    most = each_zeros (λ x. x ≤ 0) (omega arith) n;
    few = omega (arith, taken_zeros n);
    found = λ j l p. absurd (omega arith);
    picked = each_zeros (Picked picks) (picked_none picks) n;
  }
  picked_filled (suc k) h = by_test (picked_filled k (omega arith)) (picks k) refl
    where
      by_test : Filled k (picked_to picks number keys n k) → (t : Bool) → picks k ≡ t
          → Filled (suc k) (cond t (placed (searched number keys k (keys k) (picked_to picks number keys n k)) k (picked_to picks number keys n k)) (picked_to picks number keys n k))
      by_test f true p = filled_more k (picked_to picks number keys n k) f (omega arith) p
      by_test f false p = filled_same k (picked_to picks number keys n k) f (λ q. absurd (false≢true (sym p ∙ q)))

pub built_filled : (number : List ℕ → ℕ) (keys : ℕ → List ℕ) (n k : ℕ) → k ≤ n → Filled every number keys n k (built_to number keys n k)
built_filled number keys n k h = rw (built_every number keys n k) (picked_filled every number keys n k h)

-- ---- what a search of them tells

module _ (picks : ℕ → Bool) (number : List ℕ → ℕ) (keys : ℕ → List ℕ) (n k : ℕ) (xs : List ℕ) (f : Filled picks number keys n k xs) (looked : List ℕ) where
  abbrev name : ℕ
  name = (searched number keys k looked xs).name

  there : (j : ℕ) → j < k → picks j ≡ true → same (keys j) looked ≡ true → (names k name ≡ true) × (name ≤ j + 1)
  there j l p e = let is : keys j ≡ looked = same_equal (keys j) looked e in rw is at (f.found j l p)

  -- each of the first k keys that was picked is found
  pub found_there : (j : ℕ) → j < k → picks j ≡ true → same (keys j) looked ≡ true → names k name ≡ true
  found_there j l p e = (there j l p e).0

  -- and of those that are the same the first
  pub found_first : (j : ℕ) → j < k → picks j ≡ true → same (keys j) looked ≡ true → name ≤ j + 1
  found_first j l p e = (there j l p e).1

  -- nothing else is
  pub found_picked : names k name ≡ true → picks (name - 1) ≡ true
  found_picked e =
      let s : ℕ = origin number looked xs in
      let low : s ≤ length xs = origin_within number keys k looked xs in
      let told = names_told k name e in
      each_turned (Picked picks) (picked_none picks) s xs low f.picked (steps number keys k looked xs) (name - 1)
      (sym (searched_name number keys k looked xs) ∙ (omega (arith, names_least k name e)))

  pub reads_few : (searched number keys k looked xs).read ≤ k + 1
  reads_few = rw (searched_read number keys k looked xs) (omega (arith, f.few, steps_taken number keys k looked xs))
