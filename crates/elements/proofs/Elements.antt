-- Each way that the reading of an element goes. Assumes nothing.
use mathlib.Core.Path.{◌≡◌, refl, sym, ◌∙◌}
use mathlib.Core.Bool.{Bool, true, false, cond}
use mathlib.Core.List.{List}
use Prim.Native.Nat.{ℕ, zero, suc, ◌+◌, ◌-◌, ◌≤◌, ◌<◌}
use native.Mathlib.Omega.{arith}
use lib.Dec.{eqb, ltb}
use lib.ListN.{length}
use borrow.Author.Tests.{eqb-true, le-leb, lt-leb, le-ltb}
use Rattle.letters.specs.Places.{byte_at, Reach}
use Rattle.std.specs.Prelude.{Ok, Err}
use Rattle.tags.specs.Names.{name_start, name_at}
use Rattle.tags.specs.Tags.{start_at, end_at}
use Rattle.tags.specs.declared.Tag.TheVariants.{Open, Empty}
use Rattle.prose.specs.Prose.{text_at}
use Rattle.paths.specs.Roles as roles
use Rattle.paths.specs.Table.{child_role, lacks}
use Rattle.paths.proofs.Rows.{no_others}
use Rattle.elements.specs.declared.Stop.{Stop}
use Rattle.elements.specs.declared.Stop.TheVariants.{Form, Deep}
use Rattle.elements.specs.Forest.{Forest, none, tree, beside, count_of}
use Rattle.elements.specs.Grammar.{Parsed, read, broken, deep, on_read, on_reached, field_at, whole, items_by, content_by, group_at, element_at, content_at}
use Rattle.elements.specs.Notes.{noting, noted, step_of, Noted, NotedIn, shallow, closed_by}
use Rattle.elements.proofs.Steps.{stopped}
use Rattle.elements.proofs.Forward.{went, reached, Shape, stepped, one, element_told}

-- ---- where no level is left

module _ (s : List ℕ) (role at : ℕ) where
  flat : (t u : Bool) → step_of (cond t (cond u (deep at) (broken (at + 1))) (broken at)) ≡ cond t (cond u (step_of (deep at)) (step_of (broken (at + 1)))) (step_of (broken at))
  flat true true = refl
  flat true false = refl
  flat false u = refl

  flat_noted : (t u : Bool) (before after : List ℕ) → Noted (cond t (cond u (deep at) (broken (at + 1))) (broken at)) before after
  flat_noted true true before after = tt
  flat_noted true false before after = tt
  flat_noted false u before after = tt

  pub element_flat : (depth : ℕ) → depth ≡ 0 → shallow s at ≡ step_of (element_at depth s role at)
  unfolding element_at
  element_flat depth e = rw e (sym (flat (ltb at (length s)) (name_start (byte_at s (at + 1)))))

  pub element_flat_noted : (depth : ℕ) (before after : List ℕ) → depth ≡ 0 → Noted (element_at depth s role at) before after
  unfolding element_at
  element_flat_noted depth before after e = rw e (flat_noted (ltb at (length s)) (name_start (byte_at s (at + 1))) before after)

  pub element_field : (depth : ℕ) → (depth ≡ 0 → ⊥) → roles.bulk_identifier ≤ role → element_at depth s role at ≡ field_at role s at (start_at s at)
  unfolding element_at
  element_field zero some h = absurd (some refl)
  element_field (suc depth) some h = rw (le-leb roles.bulk_identifier role h)

  pub element_group : (depth : ℕ) → (depth ≡ 0 → ⊥) → role < roles.bulk_identifier → element_at depth s role at ≡ group_at (element_at (depth - 1) s) role s at (start_at s at)
  unfolding element_at
  element_group zero some h = absurd (some refl)
  element_group (suc depth) some h = let less : suc depth - 1 ≡ depth = omega arith in rw (lt-leb roles.bulk_identifier role h, less)

-- ---- where the text has ended

pub element_past : (depth : ℕ) (s : List ℕ) (role at : ℕ) → length s ≤ at → element_at depth s role at ≡ broken at
unfolding element_at start_at field_at
element_past zero s role at past = rw (le-ltb at (length s) past)
element_past (suc depth) s role at past = rw (le-ltb at (length s) past) (by_test (roles.is_field role))
  where
    by_test : (t : Bool) → cond t (broken at) (broken at) ≡ broken at
    by_test true = refl
    by_test false = refl

-- ---- what is stepped over holds nothing that is noted

nothing : (f g : Forest) → f ≡ none → g ≡ none → beside f g ≡ none
unfolding beside
nothing f g p q = rw (p, q)

module _ (s : List ℕ) (depth : ℕ) where
  over : (role i n : ℕ) (f : Forest) → role ≡ roles.other → element_at depth s role i ≡ read n f → f ≡ none
  over role i n f e told = by_shape (element_told depth s role i n f told).shape
    where
      by_shape : Shape role f → f ≡ none
      by_shape (stepped q t) = t
      by_shape (one q place inner t) = absurd (q e)

  items_over : (b at n : ℕ) (f : Forest) → items_by (element_at depth s) roles.other s b at ≡ read n f → f ≡ none
  unfolding items_by
  items_over zero at n f e = absurd (let z : ◌≡◌ {A = ℕ} 0 1 = cc in omega arith)
  items_over (suc b) at n f e =
      let t = reached (text_at s at) (λ i. cond (eqb (byte_at s (i + 1)) 47) (read i none) (on_read (element_at depth s (child_role roles.other (name_at s (i + 1))) i) (λ next f. on_read (items_by (element_at depth s) roles.other s b next) (λ e g. read e (beside f g))))) n f e in
      by_test (items_over b) t.mid (eqb (byte_at s (t.mid + 1)) 47) t.then
    where
      by_test : ((at n : ℕ) (f : Forest) → items_by (element_at depth s) roles.other s b at ≡ read n f → f ≡ none) → (i : ℕ) (t : Bool)
          → cond t (read i none) (on_read (element_at depth s (child_role roles.other (name_at s (i + 1))) i) (λ next f. on_read (items_by (element_at depth s) roles.other s b next) (λ e g. read e (beside f g)))) ≡ read n f
          → f ≡ none
      by_test rest i true told = sym (let same : none ≡ f = cc in same)
      by_test rest i false told =
          let w = went (element_at depth s (child_role roles.other (name_at s (i + 1))) i) (λ next f. on_read (items_by (element_at depth s) roles.other s b next) (λ e g. read e (beside f g))) n f told in
          let v = went (items_by (element_at depth s) roles.other s b w.mid) (λ e g. read e (beside w.part g)) n f w.then in
          let first = over (child_role roles.other (name_at s (i + 1))) i w.mid w.part (no_others (name_at s (i + 1))) w.first in
          let others = rest w.mid v.mid v.part v.first in
          let same : beside w.part v.part ≡ f = cc in
          sym same ∙ nothing w.part v.part first others

  pub content_over : (role at n : ℕ) (f : Forest) → content_at depth s role at ≡ read n f → role ≡ roles.other → f ≡ none
  unfolding content_by
  content_over role at n f told e = items_over (suc (length s)) at n f (rw e at told)

-- so it leaves the notes as they are
pub over_noted : (depth : ℕ) (s : List ℕ) (role at : ℕ) (notes : List ℕ) → role ≡ roles.other → Noted (element_at depth s role at) notes notes
unfolding noted
over_noted depth s role at notes e = by_parsed (element_at depth s role at) refl
  where
    by_parsed : (r : Parsed) → element_at depth s role at ≡ r → Noted r notes notes
    by_parsed (read n f) told = rw (over s depth role at n f e told)
    by_parsed (broken p) told = tt
    by_parsed (deep p) told = tt

-- ---- a group

module _ (role at : ℕ) (f : Forest) (notes : List ℕ) where
  pub whole_noted : (role ≡ roles.other → f ≡ none) → noting role at (lacks role (count_of f)) (noted f notes) ≡ noted (whole role at f) notes
  unfolding noting noted
  whole_noted over = by_test (eqb role roles.other) refl
    where
      by_test : (t : Bool) → eqb role roles.other ≡ t → noting role at (lacks role (count_of f)) (noted f notes) ≡ noted (cond t none (tree role at f none)) notes
      by_test true e = rw (e, over (eqb-true role roles.other e))
      by_test false e = refl

module _ (depth : ℕ) (s : List ℕ) (role at : ℕ) where
  closed_step : (r : Reach) (f : Forest) → closed_by r ≡ step_of (on_reached r (λ n. read n (whole role at f)))
  closed_step (Ok n) f = refl
  closed_step (Err p) f = refl

  closed_noted : (r : Reach) (f : Forest) (before after : List ℕ) → (role ≡ roles.other → f ≡ none) → after ≡ noting role at (lacks role (count_of f)) (noted f before)
      → Noted (on_reached r (λ n. read n (whole role at f))) before after
  closed_noted (Ok n) f before after over e = e ∙ whole_noted role at f before over
  closed_noted (Err p) f before after over e = tt

  module _ (end inside : ℕ) (tag : start_at s at ≡ Ok (Open end inside)) where
    group_open : (r : Parsed) → content_at depth s role inside ≡ r → group_at (element_at depth s) role s at (start_at s at) ≡ on_read r (λ e f. on_reached (end_at s at e) (λ n. read n (whole role at f)))
    group_open r e = rw (tag, e)

    pub group_closed : (e : ℕ) (f : Forest) → content_at depth s role inside ≡ read e f → closed_by (end_at s at e) ≡ step_of (group_at (element_at depth s) role s at (start_at s at))
    group_closed e f c = closed_step (end_at s at e) f ∙ sym (rw (group_open (read e f) c))

    pub group_closed_noted : (e : ℕ) (f : Forest) (before after : List ℕ) → content_at depth s role inside ≡ read e f → NotedIn role at (content_at depth s role inside) before after
        → Noted (group_at (element_at depth s) role s at (start_at s at)) before after
    group_closed_noted e f before after c n =
        rw (group_open (read e f) c) (closed_noted (end_at s at e) f before after (content_over s depth role inside e f c) (rw c at n))

    pub group_stopped : (e : Stop) → content_at depth s role inside ≡ stopped e → group_at (element_at depth s) role s at (start_at s at) ≡ stopped e
    group_stopped (Form p) c = group_open (broken p) c
    group_stopped (Deep p) c = group_open (deep p) c

  pub group_empty : (end next : ℕ) → start_at s at ≡ Ok (Empty end next) → group_at (element_at depth s) role s at (start_at s at) ≡ read next (whole role at none)
  group_empty end next tag = rw tag

  pub group_faulty : (p : ℕ) → start_at s at ≡ Err p → group_at (element_at depth s) role s at (start_at s at) ≡ broken p
  group_faulty p tag = rw tag

pub bare_noted : (role at : ℕ) (notes : List ℕ) → noting role at (lacks role (count_of none)) notes ≡ noted (whole role at none) notes
unfolding noted
bare_noted role at notes = whole_noted role at none notes (λ e. refl)
