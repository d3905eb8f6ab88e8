-- Each refusal stands in the order, which is all that is said of them one by one; so it has a number of its own, from 1 to 98, since
-- the program says 99 itself. Assumes nothing.
use mathlib.Core.Path.{◌≡◌, refl, sym, ap, ◌∙◌}
use mathlib.Core.Bool.{Bool, true, false, cond, not, ◌&&◌, and-eq-true_iff}
use mathlib.Core.List.{List, [], ◌∷◌}
use Prim.Native.Nat.{ℕ, ◌<◌}
use native.Mathlib.Omega.{arith}
use lib.Dec.{eqb, ltb, lit<}
use lib.ListN.{length}
use borrow.Author.Tests.{ltb-true, not-true}
use Rattle.refusing.specs.Refusals.{Call, refusal_number, holds, holds_with, refusals, first_holding, refusal, indexed_refusal}
use Rattle.refusing.specs.Checking.{from_in, from}
use Rattle.refusing.specs.declared.Refusal.{Refusal}
use Rattle.refusing.specs.declared.Refusal.TheVariants.{Date, Table, Positions, Register, IndexLength, IndexContents, Sheet, Size, Kind, Order, Room, Limit, Space}

pub in_order : (r : Refusal) → (later : List Refusal) × (from r ≡ r ∷ later)
in_order Date = (_, refl)
in_order Table = (_, refl)
in_order Positions = (_, refl)
in_order Register = (_, refl)
in_order IndexLength = (_, refl)
in_order IndexContents = (_, refl)
in_order Sheet = (_, refl)
in_order Size = (_, refl)
in_order Kind = (_, refl)
in_order Order = (_, refl)
in_order Room = (_, refl)
in_order Limit = (_, refl)
in_order Space = (_, refl)

-- ---- what a test says of the whole list it says of each

every : (Refusal → Bool) → List Refusal → Bool
every p [] = true
every p (r ∷ rs) = p r && every p rs

first : List Refusal → Refusal
first [] = Date
first (r ∷ rs) = r

each : (p : Refusal → Bool) (rs : List Refusal) (r : Refusal) (later : List Refusal) → from_in rs r ≡ r ∷ later → every p rs ≡ true → p r ≡ true
unfolding every first
each p [] r later e all = absurd (let h = ap length e in omega arith)
each p (x ∷ xs) r later e all =
    let parts = (and-eq-true_iff (p x) (every p xs)).0 all in
    by_test (eqb (refusal_number x) (refusal_number r)) parts.0 (λ f. each p xs r later f parts.1) e
  where
    by_test : (t : Bool) → p x ≡ true → (from_in xs r ≡ r ∷ later → p r ≡ true) → cond t (x ∷ xs) (from_in xs r) ≡ r ∷ later → p r ≡ true
    by_test true here rest e = ap p (sym (ap first e)) ∙ here
    by_test false here rest e = rest e

-- ---- the numbers

abbrev some : Refusal → Bool
some r = not (eqb (refusal_number r) 0)

abbrev small : Refusal → Bool
small r = ltb (refusal_number r) 99

pub some_number : (r : Refusal) → eqb (refusal_number r) 0 ≡ false
unfolding every
some_number r = not-true _ (each some refusals r (in_order r).0 (in_order r).1 refl)

pub small_number : (r : Refusal) → refusal_number r < 99
unfolding every
small_number r = ltb-true (refusal_number r) 99 (each small refusals r (in_order r).0 (in_order r).1 refl)

-- the refusals from one on are found by its number
same_from : (rs : List Refusal) (r s : Refusal) → refusal_number r ≡ refusal_number s → from_in rs r ≡ from_in rs s
same_from [] r s e = refl
same_from (x ∷ xs) r s e = rw (e, same_from xs r s e)

-- so no two have the same
pub number_tells : (r s : Refusal) → refusal_number r ≡ refusal_number s → r ≡ s
unfolding first
number_tells r s e = ap first (sym (in_order r).1 ∙ same_from refusals r s e ∙ (in_order s).1)

-- ---- the answer's number

module _ (test : Refusal → Bool) where
  first_named : (rs : List Refusal) → (first_holding test rs ≡ 0 → ⊥) → (r : Refusal) × (refusal_number r ≡ first_holding test rs)
  unfolding first_holding
  first_named [] e = absurd (e refl)
  first_named (r ∷ rs) e = by_test (first_named rs) (test r) e
    where
      by_test : ((first_holding test rs ≡ 0 → ⊥) → (x : Refusal) × (refusal_number x ≡ first_holding test rs))
          → (t : Bool) → (cond t (refusal_number r) (first_holding test rs) ≡ 0 → ⊥) → (x : Refusal) × (refusal_number x ≡ cond t (refusal_number r) (first_holding test rs))
      by_test later true e = (r, refl)
      by_test later false e = later e

  first_small : (rs : List Refusal) → first_holding test rs < 99
  unfolding first_holding
  first_small [] = lit< tt
  first_small (r ∷ rs) = by_test (test r) (first_small rs)
    where
      by_test : (t : Bool) → first_holding test rs < 99 → cond t (refusal_number r) (first_holding test rs) < 99
      by_test true h = small_number r
      by_test false h = h

-- other than 0 it is the number of a refusal
pub refusal_named : (call : Call) → (refusal call ≡ 0 → ⊥) → (r : Refusal) × (refusal_number r ≡ refusal call)
unfolding refusal
refusal_named call e = first_named (λ r. holds r call) refusals e

pub indexed_named : (call : Call) (index : List ℕ) → (indexed_refusal call index ≡ 0 → ⊥) → (r : Refusal) × (refusal_number r ≡ indexed_refusal call index)
unfolding indexed_refusal
indexed_named call index e = first_named (λ r. holds_with index r call) refusals e

pub refusal_small : (call : Call) → refusal call < 99
unfolding refusal
refusal_small call = first_small (λ r. holds r call) refusals
