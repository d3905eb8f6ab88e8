-- The laws of the forms: what each asks of a text, and that none but a mark's allows a text over 35 bytes. Assumes nothing.
use mathlib.Core.Path.{◌≡◌, refl, ◌∙◌}
use mathlib.Core.Bool.{Bool, true, false, cond, ◌||◌, ◌&&◌, and-eq-true_iff}
use mathlib.Core.List.{List}
use Prim.Native.Nat.{ℕ, ◌≤◌, ◌<◌, ◌^◌}
use native.Mathlib.Omega.{arith}
use lib.Dec.{leb, ltb, eqb}
use lib.ListN.{length, length-take, length-drop}
use borrow.Author.Tests.{leb-true, lt-leb, eq-eqb, ne_eqb, eqb-true}
use Rattle.letters.specs.Places.{byte_at, run}
use Rattle.meanings.specs.Meanings as meanings
use Rattle.meanings.proofs.Forms.{number_form}
use Rattle.paths.specs.Roles as roles
use Rattle.fields.specs.Fields.{width_of, is_mark, is_meant, fits}

-- ---- what is meant

pub meant_test : (b : Bool) (n : ℕ) → is_meant (meanings.meant_if b n) ≡ b
meant_test true n = refl
meant_test false n = refl

-- ---- how long a text of each form is at most

pub width_small : (role : ℕ) → width_of role ≤ 35
width_small role = by_role (eqb role roles.sender) (eqb role roles.receiver) (eqb role roles.reason) (eqb role roles.original_name)
  where
    by_role : (a b c d : Bool) → cond a 8 (cond b 11 (cond c 4 (cond d 15 35))) ≤ 35
    by_role true b c d = omega arith
    by_role false true c d = omega arith
    by_role false false true d = omega arith
    by_role false false false true = omega arith
    by_role false false false false = omega arith

date_length : (t : List ℕ) → meanings.is_date t ≡ true → length t ≡ 10
unfolding meanings.is_date
date_length t e =
    let size = eqb (length t) 10 in
    let all = meanings.digits (meanings.date_digits t) in
    let first = eqb (byte_at t 4) 45 in
    let front = ((and-eq-true_iff (size && all && first) (eqb (byte_at t 7) 45)).0 e).0 in
    eqb-true (length t) 10 ((and-eq-true_iff size all).0 ((and-eq-true_iff (size && all) first).0 front).0).0

-- 18 digits and a point
amount_short : (t : List ℕ) → meanings.is_amount t ≡ true → length t ≤ 19
unfolding meanings.is_amount
amount_short t e =
    let n = run meanings.digit t in
    let point = meanings.digits t || eqb (byte_at t n) 46 in
    let front = point && meanings.digits (meanings.parts t) && leb (length (meanings.parts t)) 2 && leb 1 (meanings.amount_digits t) in
    let few = leb (meanings.amount_digits t) 18 in
    let told = leb-true (meanings.amount_digits t) 18 ((and-eq-true_iff front few).0 ((and-eq-true_iff (front && few) (ltb (meanings.cents t) (2 ^ 64))).0 e).0).1 in
    omega (arith, simp (length-take, length-drop) at told)

-- ---- so a longer one has none of them

refused : (b : Bool) → (b ≡ true → ⊥) → b ≡ false
refused true h = absurd (h refl)
refused false h = refl

module _ (t : List ℕ) (long : 35 ≤ length t) where
  pub long_number : meanings.is_number t ≡ false
  long_number = refused (meanings.is_number t) (λ (e : meanings.is_number t ≡ true). let form = number_form t e in omega arith)

  pub long_date : meanings.is_date t ≡ false
  long_date = refused (meanings.is_date t) (λ (e : meanings.is_date t ≡ true). let ten = date_length t e in omega arith)

  pub long_amount : meanings.is_amount t ≡ false
  long_amount = refused (meanings.is_amount t) (λ (e : meanings.is_amount t ≡ true). let short = amount_short t e in omega arith)

pub long_fits : (role : ℕ) (t : List ℕ) → 35 < length t → is_mark role ≡ fits role t
unfolding fits
long_fits role t h =
    let wide : leb (length t) (width_of role) ≡ false = let w = width_small role in lt-leb (length t) (width_of role) (omega arith) in
    let long : 35 ≤ length t = omega arith in
    rw (long_number t long, long_date t long, long_amount t long, wide)
    (none (is_mark role) (eqb role roles.stated_number) (eqb role roles.value_date) (roles.is_amount role))
  where
    none : (m a b c : Bool) → m ≡ cond m true (cond a false (cond b false (cond c false false)))
    none true a b c = refl
    none false true b c = refl
    none false false true c = refl
    none false false false true = refl
    none false false false false = refl

-- ---- by role, in the order of the code's tests

module _ (role : ℕ) (t : List ℕ) where
  pub fits_mark : is_mark role ≡ true → true ≡ fits role t
  unfolding fits
  fits_mark e = rw e

  module _ (unmarked : is_mark role ≡ false) where
    pub fits_number : role ≡ roles.stated_number → is_meant (meanings.number_meant t) ≡ fits role t
    unfolding fits
    fits_number e = meant_test (meanings.is_number t) (meanings.decimal t) ∙ (rw (unmarked, eq-eqb role 22 e))

    module _ (other : role ≡ roles.stated_number → ⊥) where
      pub fits_date : role ≡ roles.value_date → is_meant (meanings.date_meant t) ≡ fits role t
      unfolding fits
      fits_date e = meant_test (meanings.is_date t) (meanings.date_number t) ∙ (rw (unmarked, ne_eqb role 22 other, eq-eqb role 24 e))

      module _ (undated : role ≡ roles.value_date → ⊥) where
        pub fits_amount : roles.is_amount role ≡ true → is_meant (meanings.amount_meant t) ≡ fits role t
        unfolding fits
        fits_amount e = meant_test (meanings.is_amount t) (meanings.cents t) ∙ (rw (unmarked, ne_eqb role 22 other, ne_eqb role 24 undated, e))

        pub fits_width : roles.is_amount role ≡ false → leb (length t) (width_of role) ≡ fits role t
        unfolding fits
        fits_width e = rw (unmarked, ne_eqb role 22 other, ne_eqb role 24 undated, e)
