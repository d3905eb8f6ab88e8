-- Forests whose roles all stand in a set that the table does not leave: where a role is played, and what their messages are. Assumes
-- nothing.
use mathlib.Core.Path.{◌≡◌, refl, sym, ap, ◌∙◌}
use mathlib.Core.Bool.{Bool, true, false, cond, not, ◌&&◌, ◌||◌, false≢true}
use mathlib.Core.List.{List, [], ◌∷◌, ◌++◌}
use Prim.Native.Nat.{ℕ}
use lib.Dec.{eqb}
use borrow.Author.Tests.{eqb-true}
use Rattle.wire.specs.Field.{same}
use Rattle.paths.specs.Roles as roles
use Rattle.paths.specs.Table.{Row, rows, among, child_role}
use Rattle.elements.specs.Forest.{Forest, none, tree}
use Rattle.elements.specs.Questions.{place_in, messages_in}
use Rattle.documents.proofs.Grown.{Sound, ChildOf, Grown}

-- ---- the table

-- below a role of one set it names roles of the other only
unfoldable pub leads : (ℕ → Bool) → (ℕ → Bool) → List Row → Bool
leads from to [] = true
leads from to (r ∷ rs) = (not (from r.parent) || to r.role) && leads from to rs

module _ (from to : ℕ → Bool) (other : to roles.other ≡ true) (parent : ℕ) (name : List ℕ) (there : from parent ≡ true) where
  among_leads : (rs : List Row) → leads from to rs ≡ true → to (among rs parent name) ≡ true
  unfolding leads among
  among_leads [] e = other
  among_leads (r ∷ rs) e = by_test (among_leads rs) (eqb r.parent parent) refl (same name r.name) (from r.parent) refl (to r.role) refl e
    where
      by_test : (leads from to rs ≡ true → to (among rs parent name) ≡ true)
          → (p : Bool) → eqb r.parent parent ≡ p → (n : Bool) → (d : Bool) → from r.parent ≡ d → (q : Bool) → to r.role ≡ q → ((not d || q) && leads from to rs) ≡ true
          → to (cond (p && n) r.role (among rs parent name)) ≡ true
      by_test rest true p true true d true q e = q
      by_test rest true p true false d qq q e = absurd (false≢true (sym d ∙ ap from (eqb-true r.parent parent p) ∙ there))
      by_test rest true p false true d true q e = rest e
      by_test rest true p false false d qq q e = rest e
      by_test rest false p n true d true q e = rest e
      by_test rest false p n false d qq q e = rest e
      by_test rest p pp n true d false q e = absurd (false≢true e)

pub child_leads : (from to : ℕ → Bool) → leads from to rows ≡ true → to roles.other ≡ true → (parent role : ℕ) → from parent ≡ true → ChildOf parent role → to role ≡ true
unfolding child_role
child_leads from to e other parent role there c = rw (← c.plays) (among_leads from to other parent c.name there rows e)

-- ---- forests

module _ (s : List ℕ) (set : ℕ → Bool) where
  unfoldable pub Within : Forest → Type 0
  Within none = Unit {0}
  Within (tree role place inner rest) = (set role ≡ true) × Sound s role place × Within inner × Within rest

  pub grown_within : leads set set rows ≡ true → set roles.other ≡ true → (May : ℕ → Type 0) → ((role : ℕ) → May role → set role ≡ true) → (f : Forest) → Grown s May f → Within f
  unfolding Grown Within
  grown_within e other May in-set none g = tt
  grown_within e other May in-set (tree role place inner rest) g =
      let here = in-set role g.0 in
      (here, g.1, grown_within e other (ChildOf role) (λ r c. child_leads set set e other role r here c) inner g.2, grown_within e other May in-set rest g.3)

  -- whatever is true of each place where a role may be played, is true of the last
  pub place_such : (k : ℕ) (Such : ℕ → Type 0) → (set k ≡ true → (place : ℕ) → Sound s k place → Such place) → (f : Forest) → Within f → (p : ℕ) → Such p → Such (place_in k f p)
  unfolding Within place_in
  place_such k Such own none w p h = h
  place_such k Such own (tree role place inner rest) w p h =
      place_such k Such own rest w.3 _ (by_test (eqb role k) refl (place_such k Such own inner w.2 p h))
    where
      by_test : (t : Bool) → eqb role k ≡ t → Such (place_in k inner p) → Such (cond t place (place_in k inner p))
      by_test true e within = let is = eqb-true role k e in own (rw (← is) w.0) place (rw (← is) w.1)
      by_test false e within = within

  -- ---- their messages

  unfoldable pub EachWithin : List Forest → Type 0
  EachWithin [] = Unit {0}
  EachWithin (m ∷ ms) = Within m × EachWithin ms

  pub each_append : (ms ns : List Forest) → EachWithin ms → EachWithin ns → EachWithin (ms ++ ns)
  unfolding EachWithin
  each_append [] ns a b = b
  each_append (m ∷ ms) ns a b = (a.0, each_append ms ns a.1 b)

  pub messages_within : (f : Forest) → Within f → EachWithin (messages_in f)
  unfolding Within EachWithin messages_in
  messages_within none w = tt
  messages_within (tree role place inner rest) w =
      each_append (messages_in inner) (cond (roles.is_message role) (tree role place inner none ∷ []) [] ++ messages_in rest) (messages_within inner w.2)
      (each_append (cond (roles.is_message role) (tree role place inner none ∷ []) []) (messages_in rest) (by_test (roles.is_message role)) (messages_within rest w.3))
    where
      by_test : (t : Bool) → EachWithin (cond t (tree role place inner none ∷ []) [])
      by_test true = ((w.0, w.1, w.2, tt), tt)
      by_test false = tt
