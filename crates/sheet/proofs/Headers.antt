-- The headers of a sheet's bulks, and their kinds: those of the first bulks, and of the others. Assumes nothing.
use mathlib.Core.Path.{◌≡◌, refl}
use mathlib.Core.Bool.{Bool, true, false, ◌&&◌, ◌||◌, false≢true}
use mathlib.Core.List.{List, [], ◌∷◌, ◌++◌, map}
use Prim.Native.Nat.{ℕ}
use lib.Dec.{eqb}
use Rattle.wire.proofs.Sides.{both_false}
use Rattle.sheet.specs.Sheet.{kind_of, count_width, Bulk, bulk_count, first_section, bulks_of, payment_kind, return_kind, known_kind, headers_of, kinds_known, mixed}
use Rattle.sheet.proofs.Laws.{bulks_headers}

abbrev pub headers : List Bulk → List (List ℕ)
headers bs = map (λ b. b.header) bs

-- the headers of a sheet are those of its bulks
pub headers_of_lem : (s : List ℕ) → headers (bulks_of s) ≡ headers_of s (bulk_count s)
headers_of_lem s = bulks_headers s (bulk_count s) count_width (first_section s)

pub known_parts : (xs ys : List (List ℕ)) → kinds_known (xs ++ ys) ≡ true → (kinds_known xs ≡ true) × (kinds_known ys ≡ true)
unfolding kinds_known
known_parts [] ys e = (refl, e)
known_parts (x ∷ xs) ys e = by_test (known_parts xs ys) (known_kind (kind_of x)) e
  where
    by_test : (kinds_known (xs ++ ys) ≡ true → (kinds_known xs ≡ true) × (kinds_known ys ≡ true)) → (t : Bool) → (t && kinds_known (xs ++ ys)) ≡ true
        → ((t && kinds_known xs) ≡ true) × (kinds_known ys ≡ true)
    by_test later true e = later e
    by_test later false e = absurd (false≢true e)

-- no payment after a return, so none either where fewer returns were seen
mixed_less : (seen : Bool) (xs : List (List ℕ)) → mixed seen xs ≡ false → mixed false xs ≡ false
unfolding mixed
mixed_less false xs e = e
mixed_less true [] e = refl
mixed_less true (x ∷ xs) e =
    let parts = both_false (eqb (kind_of x) payment_kind) (mixed true xs) e in
    by_test (mixed_less true xs) (eqb (kind_of x) return_kind) parts.1
  where
    by_test : (mixed true xs ≡ false → mixed false xs ≡ false) → (t : Bool) → mixed true xs ≡ false → mixed t xs ≡ false
    by_test less true e = e
    by_test less false e = less e

pub order_parts : (seen : Bool) (xs ys : List (List ℕ)) → mixed seen (xs ++ ys) ≡ false → (mixed seen xs ≡ false) × (mixed false ys ≡ false)
unfolding mixed
order_parts seen [] ys e = (refl, mixed_less seen ys e)
order_parts seen (x ∷ xs) ys e =
    let parts = both_false (seen && eqb (kind_of x) payment_kind) (mixed (seen || eqb (kind_of x) return_kind) (xs ++ ys)) e in
    let rest = order_parts (seen || eqb (kind_of x) return_kind) xs ys parts.1 in
    (rw parts.0 rest.0, rest.1)
