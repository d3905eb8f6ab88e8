-- Reading goes forward, so that the bound on the number of children never shows: a content is its text, then its first child and the
-- content after it. Assumes nothing.
use mathlib.Core.Path.{◌≡◌, refl, ap, ◌∙◌}
use mathlib.Core.Bool.{Bool, true, false, cond}
use mathlib.Core.List.{List, []}
use Prim.Native.Nat.{ℕ, zero, suc, ◌+◌, ◌≤◌, ◌<◌}
use native.Mathlib.Omega.{arith}
use lib.Dec.{eqb, ltb}
use lib.ListN.{length}
use borrow.Author.Tests.{ne_eqb, eqb-true, eqb-false, leb-true}
use Rattle.letters.specs.Places.{byte_at, Reach}
use Rattle.std.specs.Prelude.{Ok, Err, Result}
use Rattle.tags.specs.Names.{name_start, name_end, name_at}
use Rattle.tags.specs.Tags.{start_at, end_at}
use Rattle.tags.specs.declared.Tag.{Tag}
use Rattle.tags.specs.declared.Tag.TheVariants.{Open, Empty}
use Rattle.tags.proofs.Tags.{open_forward, empty_forward, end_forward}
use Rattle.prose.specs.Prose.{text_at, said_at}
use Rattle.prose.proofs.Turns.{text_forward}
use Rattle.paths.specs.Roles as roles
use Rattle.paths.specs.Table.{child_role}
use Rattle.fields.specs.Fields.{fits}
use Rattle.elements.specs.Forest.{Forest, none, tree, beside}
use Rattle.elements.specs.Grammar.{Parsed, read, broken, deep, on_read, on_reached, provided, in_euros, filled_field, field_at, whole, items_by, content_by, group_at, element_at}

-- ---- what was read in two steps

pub record Went (r : Parsed) (k : ℕ → Forest → Parsed) (n : ℕ) (f : Forest) : Type 0 where
  pub mid : ℕ
  pub part : Forest
  pub first : r ≡ read mid part
  pub then : k mid part ≡ read n f

pub went : (r : Parsed) (k : ℕ → Forest → Parsed) (n : ℕ) (f : Forest) → on_read r k ≡ read n f → Went r k n f
went (read m g) k n f e = record { mid = m; part = g; first = refl; then = e }
went (broken p) k n f e = absurd (let z : ◌≡◌ {A = ℕ} 0 1 = cc in omega arith)
went (deep p) k n f e = absurd (let z : ◌≡◌ {A = ℕ} 0 1 = cc in omega arith)

pub record Reached (r : Reach) (k : ℕ → Parsed) (n : ℕ) (f : Forest) : Type 0 where
  pub mid : ℕ
  pub first : r ≡ Ok mid
  pub then : k mid ≡ read n f

pub reached : (r : Reach) (k : ℕ → Parsed) (n : ℕ) (f : Forest) → on_reached r k ≡ read n f → Reached r k n f
reached (Ok m) k n f e = record { mid = m; first = refl; then = e }
reached (Err p) k n f e = absurd (let z : ◌≡◌ {A = ℕ} 0 1 = cc in omega arith)

pub held : (t : Bool) (p : ℕ) (k : Unit {0} → Parsed) (n : ℕ) (f : Forest) → provided t p k ≡ read n f → k tt ≡ read n f
held true p k n f e = e
held false p k n f e = absurd (let z : ◌≡◌ {A = ℕ} 0 1 = cc in omega arith)

-- ---- a reader that goes forward

abbrev pub Onward : (ℕ → ℕ → Parsed) → ℕ → Type 0
Onward element end = (role i n : ℕ) (f : Forest) → element role i ≡ read n f → (i < n) × (n ≤ end)

module _ (element : ℕ → ℕ → Parsed) (role : ℕ) (s : List ℕ) (onward : Onward element (length s)) where
  -- what follows a text that has ended at a place
  abbrev after : (ℕ → Parsed) → ℕ → Parsed
  after rest i =
      cond (eqb (byte_at s (i + 1)) 47) (read i none)
      (on_read (element (child_role role (name_at s (i + 1))) i) (λ next f.
      on_read (rest next) (λ e g.
      read e (beside f g))))

  items_forward : (b at n : ℕ) (f : Forest) → items_by element role s b at ≡ read n f → (at ≤ n) × (n < length s)
  unfolding items_by
  items_forward zero at n f e = absurd (let z : ◌≡◌ {A = ℕ} 0 1 = cc in omega arith)
  items_forward (suc b) at n f e =
      let t = reached (text_at s at) (after (items_by element role s b)) n f e in
      by_test (items_forward b) t.mid (text_forward s at t.mid t.first) (eqb (byte_at s (t.mid + 1)) 47) t.then
    where
      by_test : ((at n : ℕ) (f : Forest) → items_by element role s b at ≡ read n f → (at ≤ n) × (n < length s))
          → (i : ℕ) → (at ≤ i) × (i < length s) × (byte_at s i ≡ 60) → (t : Bool)
          → cond t (read i none) (on_read (element (child_role role (name_at s (i + 1))) i) (λ next f. on_read (items_by element role s b next) (λ e g. read e (beside f g)))) ≡ read n f
          → (at ≤ n) × (n < length s)
      by_test rest i h true told = let same : i ≡ n = cc in (omega arith, omega arith)
      by_test rest i h false told =
          let w = went (element (child_role role (name_at s (i + 1))) i) (λ next f. on_read (items_by element role s b next) (λ e g. read e (beside f g))) n f told in
          let v = went (items_by element role s b w.mid) (λ e g. read e (beside w.part g)) n f w.then in
          let on = onward _ i w.mid w.part w.first in
          let more = rest w.mid v.mid v.part v.first in
          let same : v.mid ≡ n = cc in
          (omega arith, omega arith)

  -- two ways to go on do alike, where they do after the first child
  turn_same : (rest other : ℕ → Parsed) (at : ℕ) → ((next : ℕ) → at < next → next ≤ length s → rest next ≡ other next)
      → on_reached (text_at s at) (after rest) ≡ on_reached (text_at s at) (after other)
  turn_same rest other at alike = by_text (text_at s at) refl
    where
      by_read : (i : ℕ) → at ≤ i → (r : Parsed) → element (child_role role (name_at s (i + 1))) i ≡ r
          → on_read r (λ next f. on_read (rest next) (λ e g. read e (beside f g))) ≡ on_read r (λ next f. on_read (other next) (λ e g. read e (beside f g)))
      by_read i low (read next f) e =
          let on = onward _ i next f e in
          ap (λ (r : Parsed). on_read r (λ e g. read e (beside f g))) (alike next (omega arith) on.1)
      by_read i low (broken p) e = refl
      by_read i low (deep p) e = refl

      by_test : (i : ℕ) → at ≤ i → (t : Bool)
          → cond t (read i none) (on_read (element (child_role role (name_at s (i + 1))) i) (λ next f. on_read (rest next) (λ e g. read e (beside f g))))
          ≡ cond t (read i none) (on_read (element (child_role role (name_at s (i + 1))) i) (λ next f. on_read (other next) (λ e g. read e (beside f g))))
      by_test i low true = refl
      by_test i low false = by_read i low (element (child_role role (name_at s (i + 1))) i) refl

      by_text : (r : Reach) → text_at s at ≡ r → on_reached r (after rest) ≡ on_reached r (after other)
      by_text (Ok i) e = by_test i (text_forward s at i e).0 (eqb (byte_at s (i + 1)) 47)
      by_text (Err p) e = refl

  -- any bound that passes what is left does
  items_any : (b c at : ℕ) → length s < at + b → length s < at + c → 0 < b → 0 < c → items_by element role s b at ≡ items_by element role s c at
  unfolding items_by
  items_any zero c at h k p q = absurd (omega arith)
  items_any (suc b) zero at h k p q = absurd (omega arith)
  items_any (suc b) (suc c) at h k p q = turn_same (items_by element role s b) (items_by element role s c) at (λ next low high. items_any b c next (omega arith) (omega arith) (omega arith) (omega arith))

  -- a content is its text, then its first child and the content after that
  content_turn : (at : ℕ) → content_by element role s at ≡ on_reached (text_at s at) (after (content_by element role s))
  unfolding content_by items_by
  content_turn at =
      turn_same (items_by element role s (length s)) (items_by element role s (suc (length s))) at
      (λ next low high. items_any (length s) (suc (length s)) next (omega arith) (omega arith) (omega arith) (omega arith))

  -- each way that a turn goes
  pub content_broken : (at p : ℕ) → text_at s at ≡ Err p → content_by element role s at ≡ broken p
  content_broken at p e = content_turn at ∙ (rw e)

  pub content_ends : (at i : ℕ) → text_at s at ≡ Ok i → byte_at s (i + 1) ≡ 47 → content_by element role s at ≡ read i none
  content_ends at i e h = content_turn at ∙ (rw (e, h))

  pub content_child : (at i : ℕ) (r : Parsed) → text_at s at ≡ Ok i → (byte_at s (i + 1) ≡ 47 → ⊥) → element (child_role role (name_at s (i + 1))) i ≡ r
      → content_by element role s at ≡ on_read r (λ next f. on_read (content_by element role s next) (λ e g. read e (beside f g)))
  content_child at i r e h k = content_turn at ∙ (rw (e, ne_eqb _ _ h, k))

  pub content_forward : (at n : ℕ) (f : Forest) → content_by element role s at ≡ read n f → (at ≤ n) × (n < length s)
  unfolding content_by
  content_forward at n f e = items_forward (suc (length s)) at n f e

-- ---- what an element that was read tells

-- where it ends, and that it is one tree of its role, or none where it is stepped over
pub data Shape (role : ℕ) (f : Forest) : Type 0 where
  stepped : role ≡ roles.other → f ≡ none → Shape role f
  one : (role ≡ roles.other → ⊥) → (place : ℕ) (inner : Forest) → f ≡ tree role place inner none → Shape role f

pub record Told (s : List ℕ) (role at n : ℕ) (f : Forest) : Type 0 where
  pub onward : (at < n) × (n ≤ length s)
  pub shape : Shape role f

whole_shape : (role at : ℕ) (f : Forest) → Shape role (whole role at f)
whole_shape role at f = by_test (eqb role roles.other) refl
  where
    by_test : (t : Bool) → eqb role roles.other ≡ t → Shape role (cond t none (tree role at f none))
    by_test true e = stepped (eqb-true role roles.other e) refl
    by_test false e = one (eqb-false role roles.other e) at f refl

-- what is read, told of a place and a forest that equal those
told_as : (s : List ℕ) (role at m n : ℕ) (f g : Forest) → read m f ≡ read n g → Told s role at m f → Told s role at n g
told_as s role at m n f g e t =
    let places : m ≡ n = cc in
    let forests : f ≡ g = cc in
    record { onward = rw (← places) t.onward; shape = rw (← forests) t.shape }

module _ (s : List ℕ) (role at n : ℕ) (f : Forest) where
  field_told : roles.is_field role ≡ true → (tag : Result Tag ℕ) → start_at s at ≡ tag → field_at role s at tag ≡ read n f → Told s role at n f
  unfolding field_at filled_field
  field_told is_field (Ok (Open end inside)) e told =
      let o = open_forward s at end inside e in
      let a = held (in_euros role s (name_end s (at + 1)) end) end _ n f told in
      let b = reached (text_at s inside) _ n f a in
      let c = held (fits role (said_at s inside)) b.mid _ n f b.then in
      let d = reached (end_at s at b.mid) _ n f c in
      told_as s role at d.mid n (tree role inside none none) f d.then
      (record {
        onward = (omega (arith, (text_forward s inside b.mid b.first).0, (end_forward s at b.mid d.mid d.first).0), (end_forward s at b.mid d.mid d.first).1);
        shape = one (λ z. absurd (omega (arith, leb-true roles.bulk_identifier role is_field))) inside none refl;
      })
  field_told is_field (Ok (Empty end next)) e told =
      let o = empty_forward s at end next e in
      let a = held (in_euros role s (name_end s (at + 1)) end) end _ n f told in
      let b = held (fits role []) end _ n f a in
      told_as s role at next n (tree role at none none) f b
      (record { onward = (omega arith, o.2); shape = one (λ z. absurd (omega (arith, leb-true roles.bulk_identifier role is_field))) at none refl })
  field_told is_field (Err p) e told = absurd (let z : ◌≡◌ {A = ℕ} 0 1 = cc in omega arith)

  group_told : (element : ℕ → ℕ → Parsed) → Onward element (length s) → (tag : Result Tag ℕ) → start_at s at ≡ tag → group_at element role s at tag ≡ read n f → Told s role at n f
  group_told element onward (Ok (Open end inside)) e told =
      let o = open_forward s at end inside e in
      let a = went (content_by element role s inside) (λ e f. on_reached (end_at s at e) (λ n. read n (whole role at f))) n f told in
      let c = content_forward element role s onward inside a.mid a.part a.first in
      let d = reached (end_at s at a.mid) (λ n. read n (whole role at a.part)) n f a.then in
      told_as s role at d.mid n (whole role at a.part) f d.then
      (record { onward = (omega (arith, (end_forward s at a.mid d.mid d.first).0), (end_forward s at a.mid d.mid d.first).1); shape = whole_shape role at a.part })
  group_told element onward (Ok (Empty end next)) e told =
      let o = empty_forward s at end next e in
      told_as s role at next n (whole role at none) f told (record { onward = (omega arith, o.2); shape = whole_shape role at none })
  group_told element onward (Err p) e told = absurd (let z : ◌≡◌ {A = ℕ} 0 1 = cc in omega arith)

pub element_told : (depth : ℕ) (s : List ℕ) (role at n : ℕ) (f : Forest) → element_at depth s role at ≡ read n f → Told s role at n f
unfolding element_at
element_told zero s role at n f e = by_test (ltb at (length s)) (name_start (byte_at s (at + 1))) e
  where
    by_test : (t u : Bool) → cond t (cond u (deep at) (broken (at + 1))) (broken at) ≡ read n f → Told s role at n f
    by_test true true e = absurd (let z : ◌≡◌ {A = ℕ} 0 1 = cc in omega arith)
    by_test true false e = absurd (let z : ◌≡◌ {A = ℕ} 0 1 = cc in omega arith)
    by_test false u e = absurd (let z : ◌≡◌ {A = ℕ} 0 1 = cc in omega arith)
element_told (suc depth) s role at n f e = by_test (λ role i n f e. (element_told depth s role i n f e).onward) (roles.is_field role) refl e
  where
    by_test : Onward (element_at depth s) (length s) → (t : Bool) → roles.is_field role ≡ t
        → cond t (field_at role s at (start_at s at)) (group_at (element_at depth s) role s at (start_at s at)) ≡ read n f → Told s role at n f
    by_test onward true is_field told = field_told s role at n f is_field (start_at s at) refl told
    by_test onward false is_field told = group_told s role at n f (element_at depth s) onward (start_at s at) refl told

pub element_onward : (depth : ℕ) (s : List ℕ) → Onward (element_at depth s) (length s)
element_onward depth s role i n f e = (element_told depth s role i n f e).onward
