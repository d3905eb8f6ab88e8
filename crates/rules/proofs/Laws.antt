-- The laws of the tests that the functions here make. Assumes nothing.
use mathlib.Core.Path.{◌≡◌, refl, sym, ap, ◌∙◌}
use mathlib.Core.Bool.{Bool, true, false, not, cond, ◌&&◌}
use Prim.Native.Nat.{ℕ, zero, suc, ◌+◌, ◌*◌, ◌/◌, ◌%◌, ◌^◌, ◌<◌, ◌≤◌}
use native.Mathlib.Nat.{zero-mul, zero-add, div-one, mod-eq_of_lt}
use native.Mathlib.Omega.{arith}
use lib.Dec.{ltb, eqb}
use borrow.Author.Tests.{eqb-true, eqb-false, eq-eqb, ne_eqb, lt-ltb, le-ltb}
use Rattle.masks.specs.Mask.{shown}

-- ---- the marks

-- the three named bits, and no other
module _ (n : ℕ) where
  marks_three : n ≡ 3 → (eqb (n / 1 % 2) 1 && eqb (n / 2 % 2) 1 && eqb (n / 4 % 2) 0 && eqb (n / 8) 0) ≡ true
  marks_three e = rw e

  three_is : n % 2 ≡ 1 → n / 2 % 2 ≡ 1 → n / 4 % 2 ≡ 0 → n / 8 ≡ 0 → n ≡ 3
  three_is low middle high rest =
      let small : n < 8 = omega arith in
      let quarter : n / 4 ≡ 0 = (let less : n / 4 < 2 = omega arith in sym (mod-eq_of_lt less) ∙ high) in
      let half : n / 2 ≡ 1 = (let less : n / 2 < 2 = omega arith in sym (mod-eq_of_lt less) ∙ middle) in
      omega arith

  marks_other : (a b c d : Bool) → (n ≡ 3 → ⊥) → eqb (n / 1 % 2) 1 ≡ a → eqb (n / 2 % 2) 1 ≡ b → eqb (n / 4 % 2) 0 ≡ c → eqb (n / 8) 0 ≡ d
      → (a && b && c && d) ≡ false
  marks_other true true true true other ha hb hc hd =
      absurd (other (three_is (rw (div-one n) at (eqb-true (n / 1 % 2) 1 ha)) (eqb-true (n / 2 % 2) 1 hb) (eqb-true (n / 4 % 2) 0 hc) (eqb-true (n / 8) 0 hd)))
  marks_other true true true false other ha hb hc hd = refl
  marks_other true true false d other ha hb hc hd = refl
  marks_other true false c d other ha hb hc hd = refl
  marks_other false b c d other ha hb hc hd = refl

  marks_are : (e : Bool) → eqb n 3 ≡ e → (eqb (n / 1 % 2) 1 && eqb (n / 2 % 2) 1 && eqb (n / 4 % 2) 0 && eqb (n / 8) 0) ≡ e
  marks_are true e = marks_three (eqb-true n 3 e)
  marks_are false e = marks_other _ _ _ _ (eqb-false n 3 e) refl refl refl refl

-- a bit that is not set is 0
other_bit : (n : ℕ) → not (eqb (n % 2) 1) ≡ eqb (n % 2) 0
other_bit n = by_rest (n % 2) (omega arith)
  where
    by_rest : (r : ℕ) → r < 2 → not (eqb r 1) ≡ eqb r 0
    by_rest zero h = refl
    by_rest (suc zero) h = refl
    by_rest (suc (suc r)) h = absurd (omega arith)

pub marks_read : (n : ℕ) (clrg eks recipient : Bool) → clrg ≡ shown n 0 → eks ≡ shown n 1 → recipient ≡ shown n 2
    → not (clrg && eks && not recipient && eqb (n / 8) 0) ≡ not (eqb n 3)
marks_read n clrg eks recipient ec ee er =
    rw (ec, ee, er) (ap not (ap (λ (b : Bool). eqb (n / 1 % 2) 1 && eqb (n / 2 % 2) 1 && b && eqb (n / 8) 0) (other_bit (n / 4)) ∙ marks_are n (eqb n 3) refl))

-- ---- the true sum

pub sum_low : (stated high low : ℕ) → high ≡ 0 → not (eqb stated low) ≡ not (eqb stated (high * 2 ^ 64 + low))
sum_low stated high low none = ap (λ (n : ℕ). not (eqb stated n)) (sym (rw (none, zero-mul) (zero-add low)))

pub sum_high : (stated high low : ℕ) → stated < 2 ^ 64 → (high ≡ 0 → ⊥) → true ≡ not (eqb stated (high * 2 ^ 64 + low))
sum_high stated high low fits more = rw (ne_eqb stated (high * 2 ^ 64 + low) (λ (e : stated ≡ high * 2 ^ 64 + low). more (omega arith)))

-- ---- a rule of one kind of bulk

module _ (kind k : ℕ) (fact : Bool) where
  pub of_kind : (t : Bool) → kind ≡ k → t ≡ fact → t ≡ (eqb kind k && fact)
  of_kind t here e = rw (eq-eqb kind k here) e

  pub of_other_kind : (kind ≡ k → ⊥) → false ≡ (eqb kind k && fact)
  of_other_kind other = rw (ne_eqb kind k other)

-- ---- what is returned of an original amount, with a charge allowed or not

module _ (amount original : ℕ) where
  pub less_returned : (allowed : Bool) → amount < original → not allowed ≡ cond allowed (ltb original amount) (not (eqb amount original))
  less_returned true h = sym (le-ltb original amount (omega arith))
  less_returned false h = rw (ne_eqb amount original (λ (e : amount ≡ original). omega arith))

  pub no_less_returned : (allowed : Bool) → original ≤ amount → ltb original amount ≡ cond allowed (ltb original amount) (not (eqb amount original))
  no_less_returned true h = refl
  no_less_returned false h = by_test (eqb amount original) refl
    where
      by_test : (t : Bool) → eqb amount original ≡ t → ltb original amount ≡ not (eqb amount original)
      by_test true e = rw (e) (le-ltb original amount (omega (arith, eqb-true amount original e)))
      by_test false e = rw (e) (lt-ltb original amount (omega (arith, eqb-false amount original e)))
