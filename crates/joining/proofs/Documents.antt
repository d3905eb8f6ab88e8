-- The documents of a text, one after the other from a place to another: they can be divided after any of them, and in a part of the
-- text they are read as in the whole. Assumes nothing.
use mathlib.Core.Path.{◌≡◌, refl, sym, ap, ap₂, subst, ◌∙◌}
use mathlib.Core.Bool.{Bool, true, false, cond, false≢true}
use mathlib.Core.List.{List}
use Prim.Native.Nat.{ℕ, zero, suc, ◌+◌, ◌-◌, ◌≤◌, ◌<◌}
use native.Mathlib.Omega.{arith}
use lib.Dec.{eqb, ltb}
use lib.ListN.{length, drop, length-drop}
use borrow.Author.Tests.{eqb-true, eqb-false, ltb-true, ltb-false, lt-leb, ne_eqb}
use Rattle.wire.specs.Field.{text, same}
use Rattle.letters.specs.Places.{byte_at}
use Rattle.letters.proofs.Scans.{run_within}
use Rattle.tags.specs.Names.{is_space, name_start, space_end, name_at}
use Rattle.tags.specs.Tags.{start_at, end_at}
use Rattle.std.specs.Prelude.{Result, Ok, Err}
use Rattle.tags.specs.declared.Tag.{Tag}
use Rattle.tags.specs.declared.Tag.TheVariants.{Open, Empty}
use Rattle.paths.specs.Roles as roles
use Rattle.paths.specs.Table.{root_role}
use Rattle.elements.specs.Forest.{Forest, none, tree, beside}
use Rattle.elements.specs.Grammar.{Parsed, read, on_read, on_reached, whole, content_by, group_at, element_at}
use Rattle.elements.proofs.Forward.{went, reached}
use Rattle.reading.specs.Text.{levels, document_at, roots_at}
use Rattle.reading.proofs.Roots.{document_onward, roots_end, roots_odd, roots_document}
use Rattle.joining.specs.Lowered.{firsts, others, count, begins, lowered}
use Rattle.joining.proofs.Parts.{Part, byte_in, run_in}
use Rattle.joining.proofs.Values.{name_in}
use Rattle.joining.proofs.Sound.{element_sound, named}
use Rattle.joining.proofs.Forests.{Every, Under}
use Rattle.joining.proofs.Fields.{Kept, kept_later}
use Rattle.joining.proofs.Elements.{element_in}
use Rattle.joining.proofs.Meanings.{Roots}

-- ---- a document is one tree, and begins where that does

pub record Root (at : ℕ) (g : Forest) : Type 0 where
  pub role : ℕ
  pub inner : Forest
  pub low : role ≤ roles.document
  pub some : 0 < role
  pub is : g ≡ tree role at inner none

module _ (s : List ℕ) (at n : ℕ) (g : Forest) where
  whole_root : (role : ℕ) (inner : Forest) → role ≤ roles.document → 0 < role → whole role at inner ≡ g → Root at g
  whole_root role inner low some e =
      record { role = role; inner = inner; low = low; some = some; is = by_test (eqb role roles.other) (ne_eqb role roles.other (λ z. omega arith)) e }
    where
      by_test : (t : Bool) → t ≡ false → cond t none (tree role at inner none) ≡ g → g ≡ tree role at inner none
      by_test true f e = absurd (false≢true (sym f))
      by_test false f e = sym e

  group_root : (element : ℕ → ℕ → Parsed) (role : ℕ) → role ≤ roles.document → 0 < role → (tag : Result Tag ℕ) → group_at element role s at tag ≡ read n g → Root at g
  group_root element role low some (Ok (Open end inside)) told =
      let a = went (content_by element role s inside) (λ e f. on_reached (end_at s at e) (λ n. read n (whole role at f))) n g told in
      let d = reached (end_at s at a.mid) (λ n. read n (whole role at a.part)) n g a.then in
      whole_root role a.part low some (let then = d.then in cc)
  group_root element role low some (Ok (Empty end next)) told = whole_root role none low some cc
  group_root element role low some (Err p) told = absurd (let z : ◌≡◌ {A = ℕ} 0 1 = cc in omega arith)

  root_low : (name : List ℕ) → (root_role name ≤ roles.document) × (0 < root_role name)
  unfolding root_role
  root_low name = by_test (same name (text "Document"))
    where
      by_test : (t : Bool) → (cond t roles.document roles.stranger ≤ roles.document) × (0 < cond t roles.document roles.stranger)
      by_test true = (omega arith, omega arith)
      by_test false = (omega arith, omega arith)

  pub document_root : document_at s at ≡ read n g → Root at g
  unfolding element_at
  document_root told =
      let low = root_low (name_at s (at + 1)) in
      group_root (element_at 31 s) (root_role (name_at s (at + 1))) low.0 low.1 (start_at s at)
      (rw (lt-leb roles.bulk_identifier (root_role (name_at s (at + 1))) (omega arith)) at told)

-- ---- one after the other

-- from a place up to an end: there are no more, or one and, behind its spaces, the others
pub data Documents (s : List ℕ) (end : ℕ) : ℕ → Forest → Type 0 where
  done : {at : ℕ} {f : Forest} → at ≡ end → f ≡ none → Documents s end at f
  more : {at : ℕ} {f : Forest} → (n role : ℕ) (inner rest : Forest) → role ≤ roles.document → byte_at s at ≡ 60
      → document_at s at ≡ read n (tree role at inner none) → f ≡ tree role at inner rest → Documents s end (space_end s n) rest → Documents s end at f

beside_root : (role at : ℕ) (inner g rest : Forest) → g ≡ tree role at inner none → beside g rest ≡ tree role at inner rest
unfolding beside
beside_root role at inner g rest e = rw e

space_inside : (s : List ℕ) (n : ℕ) → n ≤ length s → space_end s n ≤ length s
space_inside s n h = omega (arith, run_within is_space (drop n s), length-drop n s)

module _ (s : List ℕ) where
  pub documents_forward : (end at : ℕ) (f : Forest) → Documents s end at f → at ≤ end
  documents_forward end at f (done e is) = omega arith
  documents_forward end at f (more n role inner rest low sign told is later) =
      omega (arith, document_onward s at n (tree role at inner none) told, documents_forward end (space_end s n) rest later)

  one_more_lem : (at end : ℕ) (f : Forest) → byte_at s at ≡ 60 → (n : ℕ) (g : Forest) → document_at s at ≡ read n g → (rest : Forest) → beside g rest ≡ f
      → Documents s end (space_end s n) rest → Documents s end at f
  one_more_lem at end f sign n g told rest is later =
      let root = document_root s at n g told in
      more n root.role root.inner rest root.low sign (told ∙ ap (read n) root.is) (sym is ∙ beside_root root.role at root.inner g rest root.is) later

  abbrev Read : ℕ → ℕ → Forest → Type 0
  Read at n f = (at ≤ length s → n ≡ length s) × Documents s n at f

  -- what was read
  roots_last : (at n : ℕ) (f : Forest) → length s ≤ at → roots_at s at ≡ read n f → Read at n f
  roots_last at n f past told =
      let is : read at none ≡ read n f = sym (roots_end s at past) ∙ told in
      let ends : at ≡ n = cc in
      let nothing : none ≡ f = cc in
      (λ h. omega arith, done ends (sym nothing))

  roots_by_lem : (fuel at n : ℕ) (f : Forest) → length s < at + fuel → roots_at s at ≡ read n f → Read at n f
  roots_by_lem zero at n f bound told = roots_last at n f (omega arith) told
  roots_by_lem (suc fuel) at n f bound told = by_end (roots_by_lem fuel) (ltb at (length s)) refl
    where
      by_read : ((at n : ℕ) (f : Forest) → length s < at + fuel → roots_at s at ≡ read n f → Read at n f) → at < length s → byte_at s at ≡ 60 → Read at n f
      by_read rest inside sign =
          let is = sym (roots_document s at (document_at s at) inside sign refl) ∙ told in
          let w = went (document_at s at) (λ next f. on_read (roots_at s (space_end s next)) (λ e g. read e (beside f g))) n f is in
          let v = went (roots_at s (space_end s w.mid)) (λ e g. read e (beside w.part g)) n f w.then in
          let ends : v.mid ≡ n = (let then = v.then in cc) in
          let forest : beside w.part v.part ≡ f = (let then = v.then in cc) in
          let on = document_onward s at w.mid w.part w.first in
          let others = rest (space_end s w.mid) v.mid v.part (omega arith) v.first in (
            λ h. sym ends ∙ others.0 (space_inside s w.mid on.1),
            one_more_lem at n f sign w.mid w.part w.first v.part forest (rw ends at others.1),
          )

      by_sign : ((at n : ℕ) (f : Forest) → length s < at + fuel → roots_at s at ≡ read n f → Read at n f) → at < length s → (b : Bool) → eqb (byte_at s at) 60 ≡ b → Read at n f
      by_sign rest inside true b = by_read rest inside (eqb-true (byte_at s at) 60 b)
      by_sign rest inside false b =
          let is = roots_odd s at inside (eqb-false (byte_at s at) 60 b) in
          absurd (let z : ◌≡◌ {A = ℕ} 0 1 = cc in omega arith)

      by_end : ((at n : ℕ) (f : Forest) → length s < at + fuel → roots_at s at ≡ read n f → Read at n f) → (b : Bool) → ltb at (length s) ≡ b → Read at n f
      by_end rest true b = by_sign rest (ltb-true at (length s) b) (eqb (byte_at s at) 60) refl
      by_end rest false b = roots_last at n f (ltb-false at (length s) b) told

  pub roots_documents : (at n : ℕ) (f : Forest) → roots_at s at ≡ read n f → Read at n f
  roots_documents at n f told = roots_by_lem (suc (length s)) at n f (omega arith) told

  -- and the way back
  pub documents_roots : (at : ℕ) (f : Forest) → Documents s (length s) at f → roots_at s at ≡ read (length s) f
  unfolding beside
  documents_roots at f (done e is) = roots_end s at (omega arith) ∙ ap₂ read e (sym is)
  documents_roots at f (more n role inner rest low sign told is later) =
      let on = document_onward s at n (tree role at inner none) told in
      roots_document s at (read n (tree role at inner none)) (omega arith) sign told
      ∙ ap (λ (r : Parsed). on_read r (λ e g. read e (beside (tree role at inner none) g))) (documents_roots (space_end s n) rest later)
      ∙ ap (read (length s)) (sym is)

  -- ---- divided

  pub record Divided (end at : ℕ) (f : Forest) (k : ℕ) : Type 0 where
    pub first : Documents s (begins (others k f) end) at (firsts k f)
    pub later : Documents s end (begins (others k f) end) (others k f)

  pub divided : (end at : ℕ) (f : Forest) (k : ℕ) → Documents s end at f → Divided end at f k
  unfolding firsts others begins
  divided end at f zero documents = record { first = subst (λ (e : ℕ). Documents s e at none) (starts documents) (done refl refl); later = subst (λ (e : ℕ). Documents s end e f) (starts documents) documents }
    where
      starts : Documents s end at f → at ≡ begins f end
      starts (done e is) = rw is e
      starts (more n role inner rest low sign told is later) = rw is
  divided end at f (suc k) (done e is) = subst (λ (g : Forest). Divided end at g (suc k)) (sym is) (record { first = done e refl; later = done refl refl })
  divided end at f (suc k) (more n role inner rest low sign told is later) =
      let parts = divided end (space_end s n) rest k later in
      subst (λ (g : Forest). Divided end at g (suc k)) (sym is)
      (record { first = more n role inner (firsts k rest) low sign told refl parts.first; later = parts.later })

-- ---- in a part

module _ {s t : List ℕ} {d : ℕ} (p : Part s t d) where
  pub record There (i : ℕ) (f : Forest) : Type 0 where
    pub documents : Documents s (length s) i (lowered d f)
    pub roots : Roots f
    pub kept : Every (Kept p d) f
    pub under : Under (Kept p (suc d)) f

  pub documents_in : (q i : ℕ) (f : Forest) → q ≡ d + i → Documents t (d + length s) q f → There i f
  unfolding lowered Roots Every Under
  documents_in q i f e (done ends is) = subst (λ (g : Forest). There i g) (sym is) (record { documents = done (omega arith) refl; roots = tt; kept = tt; under = tt })
  documents_in q i f e (more n role inner rest low sign told is later) =
      let on = document_onward t q n (tree role q inner none) told in
      let ahead = documents_forward t (d + length s) (space_end t n) rest later in
      let alike = element_in p levels (root_role (name_at t (q + 1))) q i n (tree role q inner none) e sign (omega arith) told in
      let name_ends = (named t q n (element_sound levels t (root_role (name_at t (q + 1))) q n (tree role q inner none) told)).ends in
      let name = name_in p (q + 1) (i + 1) (omega arith) (omega arith) (omega arith) in
      let spaces = run_in p is_space n (n - d) (omega arith) (omega arith) (omega arith) in
      let behind = documents_in (space_end t n) (space_end s (n - d)) rest spaces later in
      let place : q - d ≡ i = omega arith in
      let read_there : document_at s i ≡ read (n - d) (tree role i (lowered d inner) none) =
      ap (λ (l : List ℕ). element_at levels s (root_role l) i) (sym name) ∙ alike.reads ∙ ap (λ (k : ℕ). read (n - d) (tree role k (lowered d inner) none)) place in
      subst (λ (g : Forest). There i g) (sym is)
      (record {
        documents =
            more (n - d) role (lowered d inner) (lowered d rest) low (sym (byte_in p q i e (omega arith)) ∙ sign) read_there
            (ap (λ (k : ℕ). tree role k (lowered d inner) (lowered d rest)) place) behind.documents;
        roots = (low, behind.roots);
        kept = ((omega arith, alike.kept.0.1, alike.kept.0.2), kept_later p d q (omega arith) inner alike.kept.1, behind.kept);
        under = (kept_later p (suc d) (suc q) (omega arith) inner alike.under.0, behind.under);
      })

-- ---- where there is one

module _ (s : List ℕ) where
  pub some_before : (end at : ℕ) (f : Forest) → Documents s end at f → 0 < count f → at < end
  unfolding count
  some_before end at f (done e is) some = let nothing : count f ≡ 0 = ap count is in absurd (omega arith)
  some_before end at f (more n role inner rest low sign told is later) some =
      omega (arith, document_onward s at n (tree role at inner none) told, documents_forward s end (space_end s n) rest later)

  pub some_begins : (end at : ℕ) (f : Forest) → Documents s end at f → 0 < count f → (byte_at s at ≡ 60) × (name_start (byte_at s (at + 1)) ≡ true)
  unfolding count
  some_begins end at f (done e is) some = let nothing : count f ≡ 0 = ap count is in absurd (omega arith)
  some_begins end at f (more n role inner rest low sign told is later) some =
      (sign, (named s at n (element_sound levels s (root_role (name_at s (at + 1))) at n (tree role at inner none) told)).begins)
