-- The needed elements of any text that is read: each plays a role that is named below its parent's, begins in the text, and says what fits
-- its role if it is a field. Assumes nothing.
use mathlib.Core.Path.{◌≡◌, refl, sym, ap, ◌∙◌}
use mathlib.Core.Bool.{Bool, true, false, cond, false≢true}
use mathlib.Core.List.{List, []}
use Prim.Native.Nat.{ℕ, zero, suc, ◌+◌, ◌<◌}
use native.Mathlib.Omega.{arith}
use lib.Dec.{eqb, ltb}
use lib.ListN.{length}
use borrow.Author.Tests.{eqb-false, leb-true}
use Rattle.letters.specs.Places.{byte_at}
use Rattle.tags.specs.Names.{name_start, name_end, name_at}
use Rattle.tags.specs.Attributes.{attributes_at}
use Rattle.tags.specs.Tags.{closing, start_at, end_at}
use Rattle.std.specs.Prelude.{Result, Ok, Err}
use Rattle.tags.specs.declared.Tag.{Tag}
use Rattle.tags.specs.declared.Tag.TheVariants.{Open, Empty}
use Rattle.tags.proofs.Tags.{open_forward, empty_forward}
use Rattle.prose.specs.Prose.{text_at, piece_at, said_at}
use Rattle.prose.specs.declared.Piece.TheVariants.{Silent}
use Rattle.prose.proofs.Turns.{text_forward, no_start}
use Rattle.prose.proofs.Pieces.{said_piece}
use Rattle.paths.specs.Roles as roles
use Rattle.paths.specs.Table.{child_role}
use Rattle.fields.specs.Fields.{fits}
use Rattle.elements.specs.Forest.{Forest, none, tree, beside}
use Rattle.elements.specs.Grammar.{Parsed, read, broken, deep, on_read, on_reached, provided, in_euros, filled_field, field_at, whole, items_by, content_by, group_at, element_at}
use Rattle.elements.proofs.Forward.{went, reached, held}

-- ---- forests that grew in a text

pub record Sound (s : List ℕ) (role place : ℕ) : Type 0 where
  pub known : role ≡ roles.other → ⊥
  pub inside : place < length s
  pub form : roles.is_field role ≡ true → fits role (said_at s place) ≡ true

pub record ChildOf (parent role : ℕ) : Type 0 where
  pub name : List ℕ
  pub plays : child_role parent name ≡ role

-- the roles of the first level are told apart from those below
unfoldable pub Grown : List ℕ → (ℕ → Type 0) → Forest → Type 0
Grown s May none = Unit {0}
Grown s May (tree role place inner rest) = May role × Sound s role place × Grown s (ChildOf role) inner × Grown s May rest

pub grown_beside : (s : List ℕ) (May : ℕ → Type 0) (f g : Forest) → Grown s May f → Grown s May g → Grown s May (beside f g)
unfolding Grown beside
grown_beside s May none g a b = b
grown_beside s May (tree role place inner rest) g a b = (a.0, a.1, a.2, grown_beside s May rest g a.3 b)

pub grown_as : (s : List ℕ) (May Must : ℕ → Type 0) → ((role : ℕ) → May role → Must role) → (f : Forest) → Grown s May f → Grown s Must f
unfolding Grown
grown_as s May Must then none a = tt
grown_as s May Must then (tree role place inner rest) a = (then role a.0, a.1, a.2, grown_as s May Must then rest a.3)

-- ---- what is read

module _ (s : List ℕ) where
  -- an element is read where a '<' stands
  abbrev Grows : (ℕ → ℕ → Parsed) → Type 0
  Grows element = (role i n : ℕ) (f : Forest) → byte_at s i ≡ 60 → element role i ≡ read n f → Grown s (λ r. r ≡ role) f

  module _ (element : ℕ → ℕ → Parsed) (role : ℕ) (grows : Grows element) where
    items_grown : (b at n : ℕ) (f : Forest) → items_by element role s b at ≡ read n f → Grown s (ChildOf role) f
    unfolding items_by Grown
    items_grown zero at n f e = absurd (let z : ◌≡◌ {A = ℕ} 0 1 = cc in omega arith)
    items_grown (suc b) at n f e =
        let t = reached (text_at s at) (λ i. cond (eqb (byte_at s (i + 1)) 47) (read i none) (on_read (element (child_role role (name_at s (i + 1))) i) (λ next f. on_read (items_by element role s b next) (λ e g. read e (beside f g))))) n f e in
        by_test (items_grown b) t.mid (text_forward s at t.mid t.first).2 (eqb (byte_at s (t.mid + 1)) 47) t.then
      where
        by_test : ((at n : ℕ) (f : Forest) → items_by element role s b at ≡ read n f → Grown s (ChildOf role) f) → (i : ℕ) → byte_at s i ≡ 60 → (t : Bool)
            → cond t (read i none) (on_read (element (child_role role (name_at s (i + 1))) i) (λ next f. on_read (items_by element role s b next) (λ e g. read e (beside f g)))) ≡ read n f
            → Grown s (ChildOf role) f
        by_test rest i sign true told = let nothing : none ≡ f = cc in rw (← nothing) tt
        by_test rest i sign false told =
            let name = name_at s (i + 1) in
            let w = went (element (child_role role name) i) (λ next f. on_read (items_by element role s b next) (λ e g. read e (beside f g))) n f told in
            let v = went (items_by element role s b w.mid) (λ e g. read e (beside w.part g)) n f w.then in
            let first = grown_as s (λ r. r ≡ child_role role name) (ChildOf role) (λ r is. record { name = name; plays = sym is }) w.part (grows (child_role role name) i w.mid w.part sign w.first) in
            let all : beside w.part v.part ≡ f = cc in
            rw (← all) (grown_beside s (ChildOf role) w.part v.part first (rest w.mid v.mid v.part v.first))

    content_grown : (at n : ℕ) (f : Forest) → content_by element role s at ≡ read n f → Grown s (ChildOf role) f
    unfolding content_by
    content_grown at n f e = items_grown (suc (length s)) at n f e

  -- ---- tags and what an empty one says

  -- a name stands behind the '<'
  tag_named : (at e n : ℕ) → start_at s at ≡ Ok (Empty e n) → name_start (byte_at s (at + 1)) ≡ true
  unfolding start_at
  tag_named at e n told = by_test (ltb at (length s)) (name_start (byte_at s (at + 1))) told
    where
      by_test : (t u : Bool) → cond t (cond u (closing s (attributes_at s (name_end s (at + 1)))) (Err (at + 1))) (Err at) ≡ Ok (Empty e n) → u ≡ true
      by_test t true told = refl
      by_test true false told = absurd (let z : ◌≡◌ {A = ℕ} 0 1 = cc in omega arith)
      by_test false false told = absurd (let z : ◌≡◌ {A = ℕ} 0 1 = cc in omega arith)

  tag_silent : (at e n : ℕ) → byte_at s at ≡ 60 → start_at s at ≡ Ok (Empty e n) → said_at s at ≡ []
  unfolding said_at piece_at name_start
  tag_silent at e n sign told =
      let no_section = no_start s at (λ (z : byte_at s (at + 1) ≡ 33). false≢true (ap name_start (sym z) ∙ tag_named at e n told)) in
      said_piece s false at Silent (rw (sign, no_section))

  -- ---- elements

  module _ (role at n : ℕ) (f : Forest) where
    passed : (t : Bool) (p : ℕ) (k : Unit {0} → Parsed) → provided t p k ≡ read n f → (t ≡ true) × (k tt ≡ read n f)
    passed true p k e = (refl, e)
    passed false p k e = absurd (let z : ◌≡◌ {A = ℕ} 0 1 = cc in omega arith)

    leaf : (place : ℕ) → (role ≡ roles.other → ⊥) → place < length s → fits role (said_at s place) ≡ true → tree role place none none ≡ f → Grown s (λ r. r ≡ role) f
    unfolding Grown
    leaf place known inside form e = rw (← e) (refl, record { known = known; inside = inside; form = λ k. form }, tt, tt)

    field_grown : byte_at s at ≡ 60 → roles.is_field role ≡ true → (tag : Result Tag ℕ) → start_at s at ≡ tag → field_at role s at tag ≡ read n f → Grown s (λ r. r ≡ role) f
    unfolding field_at filled_field
    field_grown sign is_field (Ok (Open end inside)) is told =
        let a = held (in_euros role s (name_end s (at + 1)) end) end (λ u. on_reached (text_at s inside) (λ e. provided (fits role (said_at s inside)) e (λ u. on_reached (end_at s at e) (λ n. read n (tree role inside none none))))) n f told in
        let b = reached (text_at s inside) (λ e. provided (fits role (said_at s inside)) e (λ u. on_reached (end_at s at e) (λ n. read n (tree role inside none none)))) n f a in
        let c = passed (fits role (said_at s inside)) b.mid (λ u. on_reached (end_at s at b.mid) (λ n. read n (tree role inside none none))) b.then in
        let d = reached (end_at s at b.mid) (λ n. read n (tree role inside none none)) n f c.1 in
        let t = text_forward s inside b.mid b.first in
        leaf inside (λ z. omega (arith, leb-true roles.bulk_identifier role is_field)) (omega arith) c.0 (let same : tree role inside none none ≡ f = cc in same)
    field_grown sign is_field (Ok (Empty end next)) is told =
        let a = held (in_euros role s (name_end s (at + 1)) end) end (λ u. provided (fits role []) end (λ u. read next (tree role at none none))) n f told in
        let b = passed (fits role []) end (λ u. read next (tree role at none none)) a in
        let o = empty_forward s at end next is in
        let silent = tag_silent at end next sign is in
        leaf at (λ z. omega (arith, leb-true roles.bulk_identifier role is_field)) (omega arith) (rw silent b.0) (let same : tree role at none none ≡ f = cc in same)
    field_grown sign is_field (Err p) is told = absurd (let z : ◌≡◌ {A = ℕ} 0 1 = cc in omega arith)

    whole_grown : (inner : Forest) → at < length s → roles.is_field role ≡ false → Grown s (ChildOf role) inner → Grown s (λ r. r ≡ role) (whole role at inner)
    unfolding Grown
    whole_grown inner inside group below = by_test (eqb role roles.other) refl
      where
        by_test : (t : Bool) → eqb role roles.other ≡ t → Grown s (λ r. r ≡ role) (cond t none (tree role at inner none))
        by_test true e = tt
        by_test false e = (refl, record { known = eqb-false role roles.other e; inside = inside; form = λ k. absurd (false≢true (sym group ∙ k)) }, below, tt)

    group_grown : (element : ℕ → ℕ → Parsed) → Grows element → roles.is_field role ≡ false → (tag : Result Tag ℕ) → start_at s at ≡ tag → group_at element role s at tag ≡ read n f
        → Grown s (λ r. r ≡ role) f
    unfolding Grown
    group_grown element grows group (Ok (Open end inside)) is told =
        let a = went (content_by element role s inside) (λ e f. on_reached (end_at s at e) (λ n. read n (whole role at f))) n f told in
        let d = reached (end_at s at a.mid) (λ n. read n (whole role at a.part)) n f a.then in
        let o = open_forward s at end inside is in
        let same : whole role at a.part ≡ f = cc in
        rw (← same) (whole_grown a.part (omega arith) group (content_grown element role grows inside a.mid a.part a.first))
    group_grown element grows group (Ok (Empty end next)) is told =
        let o = empty_forward s at end next is in
        let same : whole role at none ≡ f = cc in
        rw (← same) (whole_grown none (omega arith) group tt)
    group_grown element grows group (Err p) is told = absurd (let z : ◌≡◌ {A = ℕ} 0 1 = cc in omega arith)

  pub element_grown : (depth : ℕ) → Grows (element_at depth s)
  unfolding element_at
  element_grown zero role at n f sign e = by_test (ltb at (length s)) (name_start (byte_at s (at + 1))) e
    where
      by_test : (t u : Bool) → cond t (cond u (deep at) (broken (at + 1))) (broken at) ≡ read n f → Grown s (λ r. r ≡ role) f
      by_test true true e = absurd (let z : ◌≡◌ {A = ℕ} 0 1 = cc in omega arith)
      by_test true false e = absurd (let z : ◌≡◌ {A = ℕ} 0 1 = cc in omega arith)
      by_test false u e = absurd (let z : ◌≡◌ {A = ℕ} 0 1 = cc in omega arith)
  element_grown (suc depth) role at n f sign e = by_test (element_grown depth) (roles.is_field role) refl e
    where
      by_test : Grows (element_at depth s) → (t : Bool) → roles.is_field role ≡ t → cond t (field_at role s at (start_at s at)) (group_at (element_at depth s) role s at (start_at s at)) ≡ read n f
          → Grown s (λ r. r ≡ role) f
      by_test grows true kind told = field_grown role at n f sign kind (start_at s at) refl told
      by_test grows false kind told = group_grown role at n f (element_at depth s) grows kind (start_at s at) refl told
