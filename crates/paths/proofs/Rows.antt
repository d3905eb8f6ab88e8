-- The laws of the table: what a child of a name plays, what no row has as its parent, and what an element lacks. Assumes nothing.
use mathlib.Core.Path.{◌≡◌, refl, ap, ◌∙◌}
use mathlib.Core.Bool.{Bool, true, false, not, cond, ◌&&◌, false≢true, and-eq-true_iff, and_assoc, and-true}
use mathlib.Core.List.{List, [], ◌∷◌}
use Prim.Native.Nat.{ℕ, ◌≤◌, ◌<◌}
use native.Mathlib.Omega.{arith}
use lib.Dec.{eqb, leb, ltb}
use borrow.Author.Tests.{ne_eqb, ltb-true, leb-true}
use Rattle.wire.specs.Field.{same}
use Rattle.wire.proofs.Texts.{same_equal}
use Rattle.paths.specs.Roles as roles
use Rattle.paths.specs.Table.{Row, rows, among, child_role, met, all_met, lacks}

-- ---- a child of a name that is asked for

-- of two names the one that stands later may be asked for first
pub commoner_first : (name a b : List ℕ) (x y z : ℕ) → same a b ≡ false
    → cond (same name a) x (cond (same name b) y z) ≡ cond (same name b) y (cond (same name a) x z)
commoner_first name a b x y z differ = by_test (same name a) refl
  where
    by_test : (t : Bool) → same name a ≡ t → cond t x (cond (same name b) y z) ≡ cond (same name b) y (cond t x z)
    by_test true e =
        let other : same name b ≡ false = rw (same_equal name a e) differ in
        rw other
    by_test false e = refl

-- in a parent that a match has found
pub there : {role : ℕ} {parent key : ℕ} (name : List ℕ) → parent ≡ key → role ≡ child_role key name → role ≡ child_role parent name
there name e told = rw e told

pub no_others : (name : List ℕ) → child_role roles.other name ≡ roles.other
unfolding child_role among
no_others name = refl

-- ---- what no row has as its parent

unfoldable parents_within : List Row → Bool
parents_within [] = true
parents_within (r ∷ rs) = leb roles.document r.parent && leb r.parent roles.original_reference && parents_within rs

all_within : parents_within rows ≡ true
unfolding parents_within
all_within = refl

module _ (parent : ℕ) (none : roles.document ≤ parent → roles.original_reference < parent) where
  apart : (r : Row) → leb roles.document r.parent ≡ true → leb r.parent roles.original_reference ≡ true → eqb r.parent parent ≡ false
  apart r low high =
      let l = leb-true roles.document r.parent low in
      let h = leb-true r.parent roles.original_reference high in
      ne_eqb r.parent parent (λ (e : r.parent ≡ parent). absurd (omega (arith, none (omega arith))))

  among_none : (name : List ℕ) (rs : List Row) → parents_within rs ≡ true → among rs parent name ≡ roles.other
  unfolding among parents_within
  among_none name [] e = refl
  among_none name (r ∷ rs) e =
      let both = (and-eq-true_iff _ _).0 e in
      let ends = (and-eq-true_iff _ _).0 both.0 in
      rw (apart r ends.0 ends.1, among_none name rs both.1)

  pub child_none : (name : List ℕ) → child_role parent name ≡ roles.other
  unfolding child_role
  child_none name = among_none name rows all_within

  met_none : (count : ℕ → ℕ) (rs : List Row) → parents_within rs ≡ true → all_met count rs parent ≡ true
  unfolding all_met parents_within
  met_none count [] e = refl
  met_none count (r ∷ rs) e =
      let both = (and-eq-true_iff _ _).0 e in
      let ends = (and-eq-true_iff _ _).0 both.0 in
      rw (apart r ends.0 ends.1, met_none count rs both.1)

  pub lacks_none : (count : ℕ → ℕ) → (parent ≡ roles.stranger → ⊥) → lacks parent count ≡ false
  unfolding lacks
  lacks_none count e = rw (ne_eqb _ _ e, met_none count rows all_within)

-- ---- what an element lacks

pub lacks_other : (role : ℕ) (count : ℕ → ℕ) → role ≡ roles.other → lacks role count ≡ false
unfolding lacks all_met
lacks_other role count e = rw e

-- what the tests of a header and of a message come to, one after the other as the table has them, however often each role is counted
three : (a b c : Bool) → not (a && b && c) ≡ not (a && (b && (c && true)))
three a b c = rw (and-true, and_assoc)

six : (a b c d e f : Bool) → not (a && b && c && d && e && f) ≡ not (a && (b && (c && (d && (e && (f && true))))))
six a b c d e f = simp (and-true, and_assoc)

again : (a b : Bool) → (a && b) ≡ (a && (a && b))
again true b = refl
again false b = refl

-- two rows of the table are of one role
seven : (a b c d e f : Bool) → not (a && b && c && d && e && f) ≡ not (a && (b && (b && (c && (d && (e && (f && true)))))))
seven a b c d e f = six a b c d e f ∙ ap (λ (t : Bool). not (a && t)) (again b _)

module _ (count : ℕ → ℕ) where
  abbrev once : ℕ → Bool
  once role = eqb (count role) 1

  pub header_lacks : not (once roles.bulk_identifier && once roles.stated_number && once roles.stated_sum && once roles.value_date && once roles.settlement && once roles.sender_agent) ≡ lacks roles.payments_header count
  unfolding lacks all_met
  header_lacks = seven (once roles.bulk_identifier) (once roles.stated_number) (once roles.stated_sum) (once roles.value_date) (once roles.settlement) (once roles.sender_agent)

  pub payment_lacks : not (once roles.payment_identification && once roles.amount && once roles.receiver_agent) ≡ lacks roles.one_payment count
  unfolding lacks all_met
  payment_lacks = three (once roles.payment_identification) (once roles.amount) (once roles.receiver_agent)

  pub return_lacks : not (once roles.identifier && once roles.original_group && once roles.original_amount && once roles.amount && once roles.reason_information && once roles.original_reference) ≡ lacks roles.one_return count
  unfolding lacks all_met
  return_lacks = six (once roles.identifier) (once roles.original_group) (once roles.original_amount) (once roles.amount) (once roles.reason_information) (once roles.original_reference)

-- a field lacks nothing
pub field_complete : (count : ℕ → ℕ) (role : ℕ) → roles.bulk_identifier ≤ role → lacks role count ≡ false
field_complete count role h = lacks_none role (λ low. omega arith) count (λ e. absurd (omega arith))

-- ---- only whether a count is 1 matters

unfoldable roles_below : List Row → Bool
roles_below [] = true
roles_below (r ∷ rs) = ltb (roles.counts_as r.role) roles.roles && roles_below rs

all_roles_below : roles_below rows ≡ true
unfolding roles_below
all_roles_below = refl

met_alike : (count other : ℕ → ℕ) (role : ℕ) → ((k : ℕ) → k < roles.roles → eqb (count k) 1 ≡ eqb (other k) 1) → (rs : List Row) → roles_below rs ≡ true
    → all_met count rs role ≡ all_met other rs role
unfolding all_met roles_below
met_alike count other role alike [] e = refl
met_alike count other role alike (r ∷ rs) e = by_test (met_alike count other role alike rs) (ltb (roles.counts_as r.role) roles.roles) refl e
  where
    by_test : (roles_below rs ≡ true → all_met count rs role ≡ all_met other rs role) → (t : Bool) → ltb (roles.counts_as r.role) roles.roles ≡ t → (t && roles_below rs) ≡ true
        → (met count r role && all_met count rs role) ≡ (met other r role && all_met other rs role)
    by_test rest true p q = rw (alike (roles.counts_as r.role) (ltb-true (roles.counts_as r.role) roles.roles p), rest q)
    by_test rest false p q = absurd (false≢true q)

pub lacks_alike : (count other : ℕ → ℕ) (role : ℕ) → ((k : ℕ) → k < roles.roles → eqb (count k) 1 ≡ eqb (other k) 1) → lacks role count ≡ lacks role other
unfolding lacks
lacks_alike count other role alike = rw (met_alike count other role alike rows all_roles_below)
