-- One list of slots over another: where the lower has a slot taken, the upper holds the same. The upper has no fewer slots taken, and if
-- it has no more the two are one. A search that ends at a taken slot of the lower ends at the same name in the upper. Assumes nothing.
use mathlib.Core.Path.{◌≡◌, refl, sym, ap, ap₂, ◌∙◌}
use mathlib.Core.Bool.{Bool, true, false, cond, false≢true}
use mathlib.Core.List.{List, [], ◌∷◌, ◌++◌}
use Prim.Native.Nat.{ℕ, zero, suc, ◌+◌, ◌≤◌, ◌<◌}
use native.Mathlib.Omega.{arith}
use borrow.Author.Tests.{ne_eqb}
use lib.ListN.{length, take, drop, get_or, set, replicate, take-append-drop}
use Rattle.slots.specs.Slots.{turned, passed}
use Rattle.slots.specs.Asked.{taken}

pub data Under : List ℕ → List ℕ → Type 0 where
  nothing : Under [] []
  blank : {x y : ℕ} {xs ys : List ℕ} → x ≡ 0 → Under xs ys → Under (x ∷ xs) (y ∷ ys)
  equal : {x y : ℕ} {xs ys : List ℕ} → x ≡ y → Under xs ys → Under (x ∷ xs) (y ∷ ys)

pub under_itself : (xs : List ℕ) → Under xs xs
under_itself [] = nothing
under_itself (x ∷ xs) = equal refl (under_itself xs)

-- a slot that was empty is given a name
pub under_set : (xs : List ℕ) (p v : ℕ) → get_or xs p 0 ≡ 0 → Under xs (set xs p v)
under_set [] p v e = nothing
under_set (x ∷ xs) zero v e = blank e (under_itself xs)
under_set (x ∷ xs) (suc p) v e = equal refl (under_set xs p v e)

under_join : {xs ys us vs : List ℕ} → Under xs ys → Under us vs → Under (xs ++ us) (ys ++ vs)
under_join nothing w = w
under_join (blank e u) w = blank e (under_join u w)
under_join (equal e u) w = equal e (under_join u w)

under_front : (s : ℕ) {xs ys : List ℕ} → Under xs ys → Under (take s xs) (take s ys)
under_front zero u = nothing
under_front (suc s) nothing = nothing
under_front (suc s) (blank e u) = blank e (under_front s u)
under_front (suc s) (equal e u) = equal e (under_front s u)

under_back : (s : ℕ) {xs ys : List ℕ} → Under xs ys → Under (drop s xs) (drop s ys)
under_back zero u = u
under_back (suc s) nothing = nothing
under_back (suc s) (blank e u) = under_back s u
under_back (suc s) (equal e u) = under_back s u

pub under_turned : (s : ℕ) {xs ys : List ℕ} → Under xs ys → Under (turned s xs) (turned s ys)
under_turned s u = under_join (under_back s u) (under_front s u)

-- ---- the slots taken

-- what one slot adds to them
weight : ℕ → ℕ
weight zero = 0
weight (suc x) = 1

weight_empty : (x : ℕ) → x ≡ 0 → weight x ≡ 0
unfolding weight
weight_empty zero e = refl
weight_empty (suc x) e = absurd (omega arith)

weight_some : (x : ℕ) → (x ≡ 0 → ⊥) → weight x ≡ 1
unfolding weight
weight_some zero s = absurd (s refl)
weight_some (suc x) s = refl

weight_none : (x : ℕ) → weight x ≤ 0 → x ≡ 0
unfolding weight
weight_none zero h = refl
weight_none (suc x) h = absurd (omega arith)

weight_most : (x : ℕ) → weight x ≤ 1
unfolding weight
weight_most zero = omega arith
weight_most (suc x) = omega arith

taken_cons : (x : ℕ) (xs : List ℕ) → taken (x ∷ xs) ≡ weight x + taken xs
unfolding taken weight
taken_cons zero xs = omega arith
taken_cons (suc x) xs = rw (ne_eqb (suc x) 0 (λ z. omega arith)) (omega arith)

taken_nil : taken [] ≡ 0
unfolding taken
taken_nil = refl

taken_append : (xs ys : List ℕ) → taken (xs ++ ys) ≡ taken xs + taken ys
taken_append [] ys = omega (arith, taken_nil)
taken_append (x ∷ xs) ys = omega (arith, taken_cons x (xs ++ ys), taken_cons x xs, taken_append xs ys)

pub taken_turned : (s : ℕ) (xs : List ℕ) → taken (turned s xs) ≡ taken xs
taken_turned s xs =
    let whole : taken (take s xs ++ drop s xs) ≡ taken xs = ap taken (take-append-drop s xs) in
    omega (arith, taken_append (drop s xs) (take s xs), taken_append (take s xs) (drop s xs))

pub taken_zeros : (n : ℕ) → taken (replicate n 0) ≡ 0
unfolding taken
taken_zeros zero = refl
taken_zeros (suc n) = taken_zeros n

pub taken_set : (xs : List ℕ) (p v : ℕ) → taken (set xs p v) ≤ taken xs + 1
taken_set [] p v = omega arith
taken_set (x ∷ xs) zero v = omega (arith, taken_cons v xs, taken_cons x xs, weight_most v)
taken_set (x ∷ xs) (suc p) v = omega (arith, taken_cons x (set xs p v), taken_cons x xs, taken_set xs p v)

pub taken_more : (xs : List ℕ) (p v : ℕ) → p < length xs → get_or xs p 0 ≡ 0 → (v ≡ 0 → ⊥) → taken (set xs p v) ≡ taken xs + 1
taken_more [] p v l e s = absurd (omega arith)
taken_more (x ∷ xs) zero v l e s = omega (arith, taken_cons v xs, taken_cons x xs, weight_empty x e, weight_some v s)
taken_more (x ∷ xs) (suc p) v l e s =
    let rest : taken (set xs p v) ≡ taken xs + 1 = taken_more xs p v (omega arith) e s in
    omega (arith, taken_cons x (set xs p v), taken_cons x xs)

pub under_taken : {xs ys : List ℕ} → Under xs ys → taken xs ≤ taken ys
under_taken nothing = omega arith
under_taken (blank {x = x} {y = y} {xs = xs} {ys = ys} e u) = omega (arith, taken_cons x xs, taken_cons y ys, weight_empty x e, under_taken u)
under_taken (equal {x = x} {y = y} {xs = xs} {ys = ys} e u) = omega (arith, taken_cons x xs, taken_cons y ys, ap weight e, under_taken u)

pub under_full : {xs ys : List ℕ} → Under xs ys → taken ys ≤ taken xs → xs ≡ ys
under_full nothing h = refl
under_full (blank {x = x} {y = y} {xs = xs} {ys = ys} e u) h =
    let none : weight y ≤ 0 = omega (arith, taken_cons x xs, taken_cons y ys, weight_empty x e, under_taken u) in
    ap₂ {A = ℕ} ◌∷◌ (e ∙ sym (weight_none y none)) (under_full u (omega (arith, taken_cons x xs, taken_cons y ys, weight_empty x e)))
under_full (equal {x = x} {y = y} {xs = xs} {ys = ys} e u) h =
    ap₂ {A = ℕ} ◌∷◌ e (under_full u (omega (arith, taken_cons x xs, taken_cons y ys, ap weight e)))

-- ---- where a test holds first

-- what the first slot holds at which the test holds; 0 if there is none
abbrev pub hit : (ℕ → Bool) → List ℕ → ℕ
hit stops ts = get_or ts (passed stops ts) 0

-- no slot holds more than k
abbrev pub Most : ℕ → List ℕ → Type 0
Most k ts = (i : ℕ) → get_or ts i 0 ≤ k

module _ (stops : ℕ → Bool) (x : ℕ) (xs : List ℕ) where
  passed_here : stops x ≡ true → passed stops (x ∷ xs) ≡ 0
  unfolding passed
  passed_here e = rw e

  passed_on : stops x ≡ false → passed stops (x ∷ xs) ≡ suc (passed stops xs)
  unfolding passed
  passed_on e = rw e

  hit_here : stops x ≡ true → hit stops (x ∷ xs) ≡ x
  hit_here e = rw (passed_here e)

  hit_on : stops x ≡ false → hit stops (x ∷ xs) ≡ hit stops xs
  hit_on e = rw (passed_on e)

-- if the test holds of what is none too, it holds of what is hit
pub hit_stops : (stops : ℕ → Bool) → stops 0 ≡ true → (ts : List ℕ) → stops (hit stops ts) ≡ true
hit_stops stops zeros [] = zeros
hit_stops stops zeros (x ∷ xs) = by_test (hit_stops stops zeros xs) (stops x) refl
  where
    by_test : stops (hit stops xs) ≡ true → (t : Bool) → stops x ≡ t → stops (hit stops (x ∷ xs)) ≡ true
    by_test rest true e = rw (hit_here stops x xs e) e
    by_test rest false e = rw (hit_on stops x xs e) rest

module _ (stops : ℕ → Bool) (zeros : stops 0 ≡ true) where
  -- a test that holds of an empty slot passes only taken ones
  pub passed_taken : (ts : List ℕ) → passed stops ts ≤ taken ts
  unfolding passed
  passed_taken [] = omega arith
  passed_taken (x ∷ xs) = by_test (passed_taken xs) (stops x) refl
    where
      by_test : passed stops xs ≤ taken xs → (t : Bool) → stops x ≡ t → cond t 0 (suc (passed stops xs)) ≤ taken (x ∷ xs)
      by_test h true e = omega arith
      by_test h false e = omega (arith, taken_cons x xs, weight_some x (λ z. false≢true (sym e ∙ ap stops z ∙ zeros)))

  -- a second test, which up to k says the same
  module _ (other : ℕ → Bool) (k : ℕ) (agree : (x : ℕ) → x ≤ k → other x ≡ stops x) where
    pub under_hit : {ts us : List ℕ} → Under ts us → Most k ts → (hit stops ts ≡ 0 → ⊥) → hit other us ≡ hit stops ts
    under_hit nothing m some = absurd (some refl)
    under_hit (blank {x = x} {y = y} {xs = xs} {ys = ys} e u) m some = absurd (some (hit_here stops x xs (ap stops e ∙ zeros) ∙ e))
    under_hit (equal {x = x} {y = y} {xs = xs} {ys = ys} e u) m some = by_test (λ s. under_hit u (λ i. m (suc i)) s) (stops x) refl
      where
        by_test : ((hit stops xs ≡ 0 → ⊥) → hit other ys ≡ hit stops xs) → (t : Bool) → stops x ≡ t → hit other (y ∷ ys) ≡ hit stops (x ∷ xs)
        by_test rest true here =
            let there : other y ≡ true = ap other (sym e) ∙ agree x (m 0) ∙ here in
            hit_here other y ys there ∙ sym e ∙ sym (hit_here stops x xs here)
        by_test rest false here =
            let there : other y ≡ false = ap other (sym e) ∙ agree x (m 0) ∙ here in
            hit_on other y ys there ∙ rest (λ z. some (hit_on stops x xs here ∙ z)) ∙ sym (hit_on stops x xs here)

    -- v named where the first test held, and the second holds of v
    pub set_hit : (v : ℕ) → other v ≡ true → (ts : List ℕ) → Most k ts → passed stops ts < length ts → hit other (set ts (passed stops ts) v) ≡ v
    unfolding passed
    set_hit v new [] m l = absurd (omega arith)
    set_hit v new (x ∷ xs) m l = by_test (set_hit v new xs (λ i. m (suc i))) (stops x) refl l
      where
        by_test : (passed stops xs < length xs → hit other (set xs (passed stops xs) v) ≡ v) → (t : Bool) → stops x ≡ t → cond t 0 (suc (passed stops xs)) < suc (length xs)
            → hit other (set (x ∷ xs) (cond t 0 (suc (passed stops xs))) v) ≡ v
        by_test rest true here l = rw new
        by_test rest false here l = rw (agree x (m 0) ∙ here) (rest (omega arith))
