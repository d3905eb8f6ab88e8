-- Elements that are written are read, each in its role. Assumes nothing.
use mathlib.Core.Path.{◌≡◌, refl, ap, ◌∙◌}
use mathlib.Core.Bool.{Bool, true, false, cond, false≢true}
use mathlib.Core.List.{List, [], ◌∷◌, ◌++◌}
use Prim.Native.Nat.{ℕ, zero, suc, ◌+◌, ◌<◌}
use native.Mathlib.Omega.{arith}
use lib.Dec.{eqb}
use lib.ListN.{length, drop, get_or}
use Rattle.wire.specs.Field.{text}
use Rattle.letters.specs.Places.{byte_at}
use Rattle.std.specs.Prelude.{Ok}
use Rattle.tags.specs.Names.{name_start, name_byte, name_end, name_at}
use Rattle.tags.specs.Tags.{start_at}
use Rattle.tags.specs.declared.Tag.TheVariants.{Open}
use Rattle.prose.specs.Prose.{text_at, said_at}
use Rattle.paths.specs.Roles as roles
use Rattle.paths.specs.Table.{child_role}
use Rattle.fields.specs.Fields.{fits}
use Rattle.elements.specs.Forest.{Forest, none, tree, beside}
use Rattle.elements.specs.Grammar.{Parsed, read, in_euros, filled_field, field_at, content_by, element_at}
use Rattle.elements.proofs.Forward.{content_ends, content_child, element_onward}
use Rattle.documents.specs.Spelling.{Spelling, spelled}
use Rattle.documents.specs.Markup.{Markup, nothing, field, group, attributes_of, open_to, close_to, written_to}
use Rattle.documents.specs.Carried.{characters}
use Rattle.documents.proofs.Here.{byte_here, byte_further, next_here, skip_here}
use Rattle.documents.proofs.Texts.{text_reads, text_over}
use Rattle.documents.proofs.Tags.{is_name, name_ends, name_here, starts_here, plain_start, euro_start, says_euros, end_here, end_past}

-- ---- markup that fits: in an element of a role, with so many levels left

pub record FieldFits (parent role : ℕ) (name said : List ℕ) : Type 0 where
  pub named : is_name name ≡ true
  pub plays : child_role parent name ≡ role
  pub kind : roles.is_field role ≡ true
  pub carried : characters said ≡ true
  pub form : fits role said ≡ true

pub record GroupFits (parent role : ℕ) (name : List ℕ) : Type 0 where
  pub named : is_name name ≡ true
  pub plays : child_role parent name ≡ role
  pub kind : roles.is_field role ≡ false
  pub known : eqb role roles.other ≡ false

unfoldable pub Fitting : ℕ → ℕ → Markup → Type 0
Fitting levels parent nothing = Unit {0}
Fitting zero parent (field role name said rest) = ⊥
Fitting (suc levels) parent (field role name said rest) = FieldFits parent role name said × Fitting (suc levels) parent rest
Fitting zero parent (group role name inner rest) = ⊥
Fitting (suc levels) parent (group role name inner rest) = GroupFits parent role name × Fitting levels role inner × Fitting (suc levels) parent rest

-- ---- a forest that means it, in a text

pub record FieldMeans (s : List ℕ) (role : ℕ) (said : List ℕ) (played place : ℕ) (inner : Forest) : Type 0 where
  pub role_is : played ≡ role
  pub kind : roles.is_field role ≡ true
  pub there : 0 < place
  pub says : said_at s place ≡ said
  pub bare : inner ≡ none

pub record GroupMeans (role played place : ℕ) : Type 0 where
  pub role_is : played ≡ role
  pub kind : roles.is_field role ≡ false
  pub there : 0 < place

unfoldable pub Means : List ℕ → Markup → Forest → Type 0
Means s nothing none = Unit {0}
Means s nothing (tree played place inner others) = ⊥
Means s (field role name said rest) none = ⊥
Means s (field role name said rest) (tree played place inner others) = FieldMeans s role said played place inner × Means s rest others
Means s (group role name within rest) none = ⊥
Means s (group role name within rest) (tree played place inner others) = GroupMeans role played place × Means s within inner × Means s rest others

pub record ContentRead (p : Parsed) (s : List ℕ) (w : Markup) (behind : List ℕ) : Type 0 where
  pub end : ℕ
  pub forest : Forest
  pub was : p ≡ read end forest
  pub left : drop end s ≡ behind
  pub means : Means s w forest

-- ---- a field

pub record FieldRead (p : Parsed) (s : List ℕ) (role at : ℕ) (name said behind : List ℕ) : Type 0 where
  pub name_is : name_at s (at + 1) ≡ name
  pub place : ℕ
  pub end : ℕ
  pub was : p ≡ read end (tree role place none none)
  pub left : drop end s ≡ behind
  pub there : 0 < place
  pub says : said_at s place ≡ said

module _ (how : Spelling) (d : ℕ) (s : List ℕ) (parent role at : ℕ) (name said behind : List ℕ) (f : FieldFits parent role name said) where
  started : (end inside : ℕ) → start_at s at ≡ Ok (Open end inside) → in_euros role s (name_end s (at + 1)) end ≡ true → 0 < inside → name_at s (at + 1) ≡ name
      → drop inside s ≡ spelled how said ++ close_to name behind → FieldRead (element_at (suc d) s role at) s role at name said behind
  unfolding element_at field_at filled_field
  started end inside start currency some named e =
      let t = text_reads how s (name ++ (62 ∷ behind)) said inside f.carried e in
      let over = skip_here s inside (spelled how said) (close_to name behind) e in
      let stop = inside + length (spelled how said) in
      record {
        name_is = named;
        place = inside;
        end = stop + 2 + length name + 1;
        was = rw (f.kind, start, currency, t.ends, t.says, f.form, end_here s name at stop behind named over);
        left = end_past s name at stop behind named over;
        there = some;
        says = t.says;
      }

  pub field_reads : drop at s ≡ open_to name (attributes_of role) (spelled how said ++ close_to name behind) → FieldRead (element_at (suc d) s role at) s role at name said behind
  unfolding name_byte name_start
  field_reads e = by_kind (roles.is_amount role) refl e
    where
      by_kind : (t : Bool) → roles.is_amount role ≡ t → drop at s ≡ open_to name (cond t (text " Ccy=\"EUR\"") []) (spelled how said ++ close_to name behind)
          → FieldRead (element_at (suc d) s role at) s role at name said behind
      by_kind true is e =
          let inner = spelled how said ++ close_to name behind in
          let rest = text "Ccy=\"EUR\"" ++ (62 ∷ inner) in
          let from = at + 1 + length name in
          let on = next_here s at 60 (name ++ (32 ∷ rest)) e in
          let past = skip_here s (at + 1) name (32 ∷ rest) on in
          let ends = name_ends s name (at + 1) 32 rest f.named refl on in
          started (from + 10) (from + 10 + 1) (euro_start s name at inner f.named e) (rw (is, ends) (says_euros s from inner past)) (omega arith)
          (name_here s name (at + 1) 32 rest f.named refl on)
          (next_here s (from + 10) 62 inner (skip_here s from (text " Ccy=\"EUR\"") (62 ∷ inner) past))
      by_kind false is e =
          let inner = spelled how said ++ close_to name behind in
          let from = at + 1 + length name in
          let on = next_here s at 60 (name ++ (62 ∷ inner)) e in
          started from (from + 1) (plain_start s name at inner f.named e) (rw is) (omega arith)
          (name_here s name (at + 1) 62 inner f.named refl on)
          (next_here s from 62 inner (skip_here s (at + 1) name (62 ∷ inner) on))

-- ---- a group, once its content is read

module _ (d : ℕ) (s : List ℕ) (role at : ℕ) (name inside behind : List ℕ) (named : is_name name ≡ true) (kind : roles.is_field role ≡ false) (known : eqb role roles.other ≡ false)
    (e : drop at s ≡ open_to name [] inside) where
  pub group_inside : drop (at + 1 + length name + 1) s ≡ inside
  group_inside = next_here s (at + 1 + length name) 62 inside (skip_here s (at + 1) name (62 ∷ inside) (next_here s at 60 (name ++ (62 ∷ inside)) e))

  pub group_name : name_at s (at + 1) ≡ name
  unfolding name_byte name_start
  group_name = name_here s name (at + 1) 62 inside named refl (next_here s at 60 (name ++ (62 ∷ inside)) e)

  pub group_reads : (stop : ℕ) (f : Forest) → content_by (element_at d s) role s (at + 1 + length name + 1) ≡ read stop f → drop stop s ≡ close_to name behind
      → element_at (suc d) s role at ≡ read (stop + 2 + length name + 1) (tree role at f none)
  unfolding element_at
  group_reads stop f was left =
      rw (kind, plain_start s name at inside named e, was, end_here s name at stop behind group_name left, known)

-- ---- content

before_name : (s name : List ℕ) (at : ℕ) (ys : List ℕ) → is_name name ≡ true → drop at s ≡ 60 ∷ (name ++ ys) → (text_at s at ≡ Ok at) × (byte_at s (at + 1) ≡ 47 → ⊥)
unfolding name_start
before_name s name at ys named e =
    let on = next_here s at 60 (name ++ ys) e in
    let starts = starts_here s name (at + 1) ys named on in
    let one : at + 1 ≡ at + 1 + 0 = omega arith in
    let first : byte_at s (at + 1) ≡ get_or (name ++ ys) 0 0 = ap (byte_at s) one ∙ byte_further s (at + 1) 0 (name ++ ys) on in (
      (text_over s at (name ++ ys) (λ z. false≢true (rw (first ∙ z) at starts)) e).0,
      λ z. false≢true (rw z at starts),
    )

-- a child, and the content behind it
module _ (d : ℕ) (s : List ℕ) (parent at next role place : ℕ) (inner : Forest) (rest : Markup) (behind : List ℕ) where
  child_then : (more : ContentRead (content_by (element_at d s) parent s next) s rest behind) → text_at s at ≡ Ok at → (byte_at s (at + 1) ≡ 47 → ⊥)
      → element_at d s (child_role parent (name_at s (at + 1))) at ≡ read next (tree role place inner none)
      → content_by (element_at d s) parent s at ≡ read more.end (tree role place inner more.forest)
  unfolding beside
  child_then more ends opens was =
      content_child (element_at d s) parent s (element_onward d s) at at (read next (tree role place inner none)) ends opens was ∙ (rw more.was)

pub content_reads : (how : Spelling) (s : List ℕ) (w : Markup) (d parent at : ℕ) (behind : List ℕ) → Fitting d parent w → 0 < at
    → drop at s ≡ written_to how w (60 ∷ 47 ∷ behind) → ContentRead (content_by (element_at d s) parent s at) s w (60 ∷ 47 ∷ behind)
unfolding written_to Fitting Means
content_reads how s nothing d parent at behind f some e =
    record {
      end = at;
      forest = none;
      was = content_ends (element_at d s) parent s (element_onward d s) at at (text_over s at (47 ∷ behind) (λ z. omega arith) e).0 (byte_here s (at + 1) 47 behind (next_here s at 60 (47 ∷ behind) e));
      left = e;
      means = tt;
    }
content_reads how s (field role name said rest) zero parent at behind f some e = absurd f
content_reads how s (field role name said rest) (suc d) parent at behind f some e =
    let left = written_to how rest (60 ∷ 47 ∷ behind) in
    let one = field_reads how d s parent role at name said left f.0 e in
    let on = element_onward (suc d) s role at one.end (tree role one.place none none) one.was in
    let more = content_reads how s rest (suc d) parent one.end behind f.1 (omega (arith, on)) one.left in
    let here = before_name s name at (attributes_of role ++ (62 ∷ (spelled how said ++ close_to name left))) f.0.named e in
    record {
      end = more.end;
      forest = tree role one.place none more.forest;
      was = child_then (suc d) s parent at one.end role one.place none rest (60 ∷ 47 ∷ behind) more here.0 here.1 (rw (one.name_is, f.0.plays) one.was);
      left = more.left;
      means = (record { role_is = refl; kind = f.0.kind; there = one.there; says = one.says; bare = refl }, more.means);
    }
content_reads how s (group role name inner rest) zero parent at behind f some e = absurd f
content_reads how s (group role name inner rest) (suc d) parent at behind f some e =
    let left = written_to how rest (60 ∷ 47 ∷ behind) in
    let inside = written_to how inner (close_to name left) in
    let held = content_reads how s inner d role (at + 1 + length name + 1) (name ++ (62 ∷ left)) f.1 (omega arith) (group_inside d s role at name inside left f.0.named f.0.kind f.0.known e) in
    let was = group_reads d s role at name inside left f.0.named f.0.kind f.0.known e held.end held.forest held.was held.left in
    let named = group_name d s role at name inside left f.0.named f.0.kind f.0.known e in
    let next = held.end + 2 + length name + 1 in
    let past = end_past s name at held.end left named held.left in
    let more = content_reads how s rest (suc d) parent next behind f.2 (omega arith) past in
    let here = before_name s name at (62 ∷ inside) f.0.named e in
    record {
      end = more.end;
      forest = tree role at held.forest more.forest;
      was = child_then (suc d) s parent at next role at held.forest rest (60 ∷ 47 ∷ behind) more here.0 here.1 (rw (named, f.0.plays) was);
      left = more.left;
      means = (record { role_is = refl; kind = f.0.kind; there = some }, held.means, more.means);
    }
