-- A message holds no other message: below every role but those of a document, its payments and its returns there is none. Assumes nothing.
use mathlib.Core.Path.{◌≡◌, refl, sym, ap, ◌∙◌}
use mathlib.Core.Bool.{Bool, true, false, cond, not, ◌&&◌, ◌||◌, false≢true}
use mathlib.Core.List.{List, [], ◌∷◌, ◌++◌, append_assoc}
use Prim.Native.Nat.{ℕ, zero, suc, ◌+◌, ◌<◌}
use native.Mathlib.Omega.{arith}
use lib.Dec.{eqb, ltb}
use lib.ListN.{length}
use borrow.Author.Tests.{eqb-true, lt-leb}
use Rattle.wire.specs.Field.{same}
use Rattle.letters.specs.Places.{byte_at}
use Rattle.tags.specs.Names.{name_start, name_end, name_at}
use Rattle.tags.specs.Tags.{start_at, end_at}
use Rattle.std.specs.Prelude.{Result, Ok, Err}
use Rattle.tags.specs.declared.Tag.{Tag}
use Rattle.tags.specs.declared.Tag.TheVariants.{Open, Empty}
use Rattle.prose.specs.Prose.{text_at, said_at}
use Rattle.paths.specs.Roles as roles
use Rattle.paths.specs.Table.{Row, rows, among, child_role}
use Rattle.fields.specs.Fields.{fits}
use Rattle.elements.specs.Forest.{Forest, none, tree, beside}
use Rattle.elements.specs.Grammar.{Parsed, read, broken, deep, on_read, on_reached, provided, in_euros, filled_field, field_at, whole, items_by, content_by, group_at, element_at}
use Rattle.elements.specs.Questions.{messages_in}
use Rattle.elements.proofs.Forward.{went, reached, held}

-- ---- the table

abbrev pub calm : ℕ → Bool
calm role = not (eqb role roles.document || eqb role roles.payments || eqb role roles.returns)

-- a role below a calm one: calm, and no message
abbrev pub quiet : ℕ → Bool
quiet role = calm role && not (roles.is_message role)

unfoldable rows_calm : List Row → Bool
rows_calm [] = true
rows_calm (r ∷ rs) = (not (calm r.parent) || quiet r.role) && rows_calm rs

all_calm : rows_calm rows ≡ true
unfolding rows_calm
all_calm = refl

among_quiet : (rs : List Row) (parent : ℕ) (name : List ℕ) → rows_calm rs ≡ true → calm parent ≡ true → quiet (among rs parent name) ≡ true
unfolding rows_calm among
among_quiet [] parent name e c = refl
among_quiet (r ∷ rs) parent name e c = by_test (among_quiet rs parent name) (eqb r.parent parent) refl (same name r.name) (calm r.parent) refl (quiet r.role) refl e
  where
    by_test : (rows_calm rs ≡ true → calm parent ≡ true → quiet (among rs parent name) ≡ true)
        → (p : Bool) → eqb r.parent parent ≡ p → (n : Bool) → (d : Bool) → calm r.parent ≡ d → (q : Bool) → quiet r.role ≡ q → ((not d || q) && rows_calm rs) ≡ true
        → quiet (cond (p && n) r.role (among rs parent name)) ≡ true
    by_test rest true p true true d true q e = q
    by_test rest true p true true d false q e = absurd (false≢true e)
    by_test rest true p true false d qq q e = absurd (false≢true (sym d ∙ ap calm (eqb-true r.parent parent p) ∙ c))
    by_test rest true p false true d true q e = rest e c
    by_test rest true p false true d false q e = absurd (false≢true e)
    by_test rest true p false false d qq q e = rest e c
    by_test rest false p n true d true q e = rest e c
    by_test rest false p n true d false q e = absurd (false≢true e)
    by_test rest false p n false d qq q e = rest e c

pub child_quiet : (parent : ℕ) (name : List ℕ) → calm parent ≡ true → quiet (child_role parent name) ≡ true
unfolding child_role
child_quiet parent name c = among_quiet rows parent name all_calm c

-- ---- what is read below them

-- the messages of two forests one after the other
pub messages_beside : (f g : Forest) → messages_in (beside f g) ≡ messages_in f ++ messages_in g
unfolding messages_in beside
messages_beside none g = refl
messages_beside (tree role place inner rest) g =
    ap (λ (r : List Forest). messages_in inner ++ (cond (roles.is_message role) (tree role place inner none ∷ []) [] ++ r)) (messages_beside rest g)
    ∙ ap (λ (r : List Forest). messages_in inner ++ r) (sym (append_assoc (cond (roles.is_message role) (tree role place inner none ∷ []) []) (messages_in rest) (messages_in g)))
    ∙ sym (append_assoc (messages_in inner) (cond (roles.is_message role) (tree role place inner none ∷ []) [] ++ messages_in rest) (messages_in g))

-- a reader of elements that finds no message in what is quiet
abbrev Quiet : (ℕ → ℕ → Parsed) → Type 0
Quiet element = (role i n : ℕ) (f : Forest) → quiet role ≡ true → element role i ≡ read n f → messages_in f ≡ []

module _ (element : ℕ → ℕ → Parsed) (role : ℕ) (s : List ℕ) (calm_role : calm role ≡ true) (hush : Quiet element) where
  items_quiet : (b at n : ℕ) (f : Forest) → items_by element role s b at ≡ read n f → messages_in f ≡ []
  unfolding items_by messages_in
  items_quiet zero at n f e = absurd (let z : ◌≡◌ {A = ℕ} 0 1 = cc in omega arith)
  items_quiet (suc b) at n f e =
      let t = reached (text_at s at) (λ i. cond (eqb (byte_at s (i + 1)) 47) (read i none) (on_read (element (child_role role (name_at s (i + 1))) i) (λ next f. on_read (items_by element role s b next) (λ e g. read e (beside f g))))) n f e in
      by_test (items_quiet b) t.mid (eqb (byte_at s (t.mid + 1)) 47) t.then
    where
      by_test : ((at n : ℕ) (f : Forest) → items_by element role s b at ≡ read n f → messages_in f ≡ []) → (i : ℕ) (t : Bool)
          → cond t (read i none) (on_read (element (child_role role (name_at s (i + 1))) i) (λ next f. on_read (items_by element role s b next) (λ e g. read e (beside f g)))) ≡ read n f
          → messages_in f ≡ []
      by_test rest i true told = let nothing : none ≡ f = cc in rw (← nothing)
      by_test rest i false told =
          let w = went (element (child_role role (name_at s (i + 1))) i) (λ next f. on_read (items_by element role s b next) (λ e g. read e (beside f g))) n f told in
          let v = went (items_by element role s b w.mid) (λ e g. read e (beside w.part g)) n f w.then in
          let first = hush (child_role role (name_at s (i + 1))) i w.mid w.part (child_quiet role (name_at s (i + 1)) calm_role) w.first in
          let others = rest w.mid v.mid v.part v.first in
          let all : beside w.part v.part ≡ f = cc in
          rw (← all, messages_beside w.part v.part, first, others)

  pub content_quiet : (at n : ℕ) (f : Forest) → content_by element role s at ≡ read n f → messages_in f ≡ []
  unfolding content_by
  content_quiet at n f e = items_quiet (suc (length s)) at n f e

-- ---- an element

quiet_calm : (role : ℕ) → quiet role ≡ true → calm role ≡ true
quiet_calm role q = by_test (calm role) (not (roles.is_message role)) q
  where
    by_test : (a b : Bool) → (a && b) ≡ true → a ≡ true
    by_test true b e = refl
    by_test false b e = absurd (false≢true e)

quiet_no_message : (role : ℕ) → quiet role ≡ true → roles.is_message role ≡ false
quiet_no_message role q = by_test (calm role) (roles.is_message role) q
  where
    by_test : (a b : Bool) → (a && not b) ≡ true → b ≡ false
    by_test true true e = absurd (false≢true e)
    by_test true false e = refl
    by_test false b e = absurd (false≢true e)

-- an element of a group's role is one tree over what its content holds
pub record Held (role at : ℕ) (f : Forest) : Type 0 where
  pub inner : Forest
  pub is : f ≡ whole role at inner
  pub hush : messages_in inner ≡ []

module _ (s : List ℕ) (role at n : ℕ) (f : Forest) where
  group_held : (element : ℕ → ℕ → Parsed) → calm role ≡ true → Quiet element → (tag : Result Tag ℕ) → group_at element role s at tag ≡ read n f → Held role at f
  unfolding messages_in
  group_held element c q (Ok (Open end inside)) told =
      let a = went (content_by element role s inside) (λ e f. on_reached (end_at s at e) (λ n. read n (whole role at f))) n f told in
      let d = reached (end_at s at a.mid) (λ n. read n (whole role at a.part)) n f a.then in
      let same : whole role at a.part ≡ f = cc in
      record { inner = a.part; is = sym same; hush = content_quiet element role s c q inside a.mid a.part a.first }
  group_held element c q (Ok (Empty end next)) told = let same : whole role at none ≡ f = cc in record { inner = none; is = sym same; hush = refl }
  group_held element c q (Err p) told = absurd (let z : ◌≡◌ {A = ℕ} 0 1 = cc in omega arith)

  leaf_quiet : (place : ℕ) → roles.is_message role ≡ false → tree role place none none ≡ f → messages_in f ≡ []
  unfolding messages_in
  leaf_quiet place m e = rw (← e, m)

  field_quiet : roles.is_message role ≡ false → (tag : Result Tag ℕ) → field_at role s at tag ≡ read n f → messages_in f ≡ []
  unfolding field_at filled_field
  field_quiet m (Ok (Open end inside)) told =
      let a = held (in_euros role s (name_end s (at + 1)) end) end (λ u. on_reached (text_at s inside) (λ e. provided (fits role (said_at s inside)) e (λ u. on_reached (end_at s at e) (λ n. read n (tree role inside none none))))) n f told in
      let b = reached (text_at s inside) (λ e. provided (fits role (said_at s inside)) e (λ u. on_reached (end_at s at e) (λ n. read n (tree role inside none none)))) n f a in
      let c = held (fits role (said_at s inside)) b.mid (λ u. on_reached (end_at s at b.mid) (λ n. read n (tree role inside none none))) n f b.then in
      let d = reached (end_at s at b.mid) (λ n. read n (tree role inside none none)) n f c in
      leaf_quiet inside m (let same : tree role inside none none ≡ f = cc in same)
  field_quiet m (Ok (Empty end next)) told =
      let a = held (in_euros role s (name_end s (at + 1)) end) end (λ u. provided (fits role []) end (λ u. read next (tree role at none none))) n f told in
      let b = held (fits role []) end (λ u. read next (tree role at none none)) n f a in
      leaf_quiet at m (let same : tree role at none none ≡ f = cc in same)
  field_quiet m (Err p) told = absurd (let z : ◌≡◌ {A = ℕ} 0 1 = cc in omega arith)

  whole_quiet : roles.is_message role ≡ false → Held role at f → messages_in f ≡ []
  unfolding messages_in
  whole_quiet m h = rw h.is (by_test (eqb role roles.other))
    where
      by_test : (t : Bool) → messages_in (cond t none (tree role at h.inner none)) ≡ []
      by_test true = refl
      by_test false = rw (m, h.hush)

pub element_quiet : (depth : ℕ) (s : List ℕ) → Quiet (element_at depth s)
unfolding element_at
element_quiet zero s role at n f q e = by_test (ltb at (length s)) (name_start (byte_at s (at + 1))) e
  where
    by_test : (t u : Bool) → cond t (cond u (deep at) (broken (at + 1))) (broken at) ≡ read n f → messages_in f ≡ []
    by_test true true e = absurd (let z : ◌≡◌ {A = ℕ} 0 1 = cc in omega arith)
    by_test true false e = absurd (let z : ◌≡◌ {A = ℕ} 0 1 = cc in omega arith)
    by_test false u e = absurd (let z : ◌≡◌ {A = ℕ} 0 1 = cc in omega arith)
element_quiet (suc depth) s role at n f q e = by_test (element_quiet depth s) (roles.is_field role) e
  where
    by_test : Quiet (element_at depth s) → (t : Bool) → cond t (field_at role s at (start_at s at)) (group_at (element_at depth s) role s at (start_at s at)) ≡ read n f → messages_in f ≡ []
    by_test hush true told = field_quiet s role at n f (quiet_no_message role q) (start_at s at) told
    by_test hush false told = whole_quiet s role at n f (quiet_no_message role q) (group_held s role at n f (element_at depth s) (quiet_calm role q) hush (start_at s at) told)

-- a message is one tree, in which there is no other
pub element_held : (depth : ℕ) (s : List ℕ) (role at n : ℕ) (f : Forest) → calm role ≡ true → role < roles.bulk_identifier → element_at depth s role at ≡ read n f → Held role at f
unfolding element_at
element_held zero s role at n f c low e = by_test (ltb at (length s)) (name_start (byte_at s (at + 1))) e
  where
    by_test : (t u : Bool) → cond t (cond u (deep at) (broken (at + 1))) (broken at) ≡ read n f → Held role at f
    by_test true true e = absurd (let z : ◌≡◌ {A = ℕ} 0 1 = cc in omega arith)
    by_test true false e = absurd (let z : ◌≡◌ {A = ℕ} 0 1 = cc in omega arith)
    by_test false u e = absurd (let z : ◌≡◌ {A = ℕ} 0 1 = cc in omega arith)
element_held (suc depth) s role at n f c low e = group_held s role at n f (element_at depth s) c (element_quiet depth s) (start_at s at) (rw (lt-leb roles.bulk_identifier role low) at e)
