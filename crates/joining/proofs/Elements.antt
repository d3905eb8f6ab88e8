-- An element in a part of a text is read as it is in the whole, where it ends inside the part. Assumes nothing.
use mathlib.Core.Path.{◌≡◌, refl, sym, ap, ap₂, ◌∙◌}
use mathlib.Core.Bool.{Bool, true, false, cond}
use mathlib.Core.List.{List}
use Prim.Native.Nat.{ℕ, zero, suc, ◌+◌, ◌-◌, ◌≤◌, ◌<◌}
use native.Mathlib.Omega.{arith}
use lib.Dec.{eqb, ltb}
use lib.ListN.{length}
use borrow.Author.Tests.{eqb-true, eqb-false}
use Rattle.letters.specs.Places.{byte_at, Reach}
use Rattle.std.specs.Prelude.{Ok, Err, Result}
use Rattle.tags.specs.Names.{name_start, name_at}
use Rattle.tags.specs.Tags.{start_at, end_at}
use Rattle.tags.specs.declared.Tag.{Tag}
use Rattle.tags.specs.declared.Tag.TheVariants.{Open, Empty}
use Rattle.tags.proofs.Tags.{open_forward, end_forward}
use Rattle.prose.specs.Prose.{text_at}
use Rattle.prose.proofs.Turns.{text_forward}
use Rattle.paths.specs.Roles as roles
use Rattle.paths.specs.Table.{child_role}
use Rattle.elements.specs.Forest.{Forest, none, beside}
use Rattle.elements.specs.Grammar.{Parsed, read, broken, deep, on_read, on_reached, field_at, whole, content_by, group_at, element_at}
use Rattle.elements.proofs.Forward.{Onward, went, reached, content_broken, content_ends, content_child, content_forward, element_onward}
use Rattle.joining.specs.Lowered.{lowered}
use Rattle.joining.proofs.Parts.{Part, byte_in}
use Rattle.joining.proofs.Values.{name_in}
use Rattle.joining.proofs.Tags.{Sound, lower_tag, end_in_lem}
use Rattle.joining.proofs.Prose.{text_in_lem}
use Rattle.joining.proofs.Forests.{Every, every_none, every_beside, whole_every, whole_under, lowered_none, lowered_beside, lowered_whole}
use Rattle.joining.proofs.Sound.{element_sound, named}
use Rattle.joining.proofs.Fields.{Kept, Same, kept_later, tag_named, tag_in, own_kept, field_in}

module _ {s t : List ℕ} {d : ℕ} (p : Part s t d) where
  -- two ways to read elements, in the part and in the whole
  pub record Readers (part whole : ℕ → ℕ → Parsed) : Type 0 where
    pub onward : Onward whole (length t)
    pub part_onward : Onward part (length s)
    pub sound : (role q n : ℕ) (f : Forest) → whole role q ≡ read n f → Sound n (start_at t q)
    pub same : (role q i n : ℕ) (f : Forest) → q ≡ d + i → byte_at t q ≡ 60 → n ≤ d + length s → whole role q ≡ read n f → Same p (part role i) q n f

  module _ (part whole' : ℕ → ℕ → Parsed) (readers : Readers part whole') (role : ℕ) where
    abbrev Content : ℕ → ℕ → ℕ → Forest → Type 0
    Content q i n f = (content_by part role s i ≡ read (n - d) (lowered d f)) × Every (Kept p q) f

    -- ---- a content

    module _ (q i : ℕ) (e : q ≡ d + i) (n : ℕ) (f : Forest) (room : n + 1 < d + length s) (told : content_by whole' role t q ≡ read n f) where
      content_last : (j : ℕ) → text_at t q ≡ Ok j → byte_at t (j + 1) ≡ 47 → Content q i n f
      content_last j text slash =
          let is : read j none ≡ read n f = sym (content_ends whole' role t readers.onward q j text slash) ∙ told in
          let ends : j ≡ n = cc in
          let nothing : none ≡ f = cc in
          let on = text_forward t q j text in
          let next = byte_in p (j + 1) (j - d + 1) (omega arith) (omega arith) in (
            content_ends part role s readers.part_onward i (j - d) (text_in_lem p q i j e text (omega arith)) (sym next ∙ slash)
                ∙ ap₂ read (ap (λ (k : ℕ). k - d) ends) (sym (lowered_none d) ∙ ap (lowered d) nothing),
            rw nothing at (every_none (Kept p q)),
          )

      abbrev Later : Type 0
      Later = (q' i' : ℕ) → q < q' → q' ≡ d + i' → (f' : Forest) → content_by whole' role t q' ≡ read n f' → Content q' i' n f'

      -- a child up to a place, and the content behind it
      child_in : Later → (j mid m : ℕ) (g h : Forest) → text_at t q ≡ Ok j → (byte_at t (j + 1) ≡ 47 → ⊥)
          → whole' (child_role role (name_at t (j + 1))) j ≡ read mid g → content_by whole' role t mid ≡ read m h → m ≡ n → beside g h ≡ f → Content q i n f
      child_in rest j mid m g h text other one then ends forests =
          let behind : content_by whole' role t mid ≡ read n h = then ∙ ap (λ (k : ℕ). read k h) ends in
          let on = text_forward t q j text in
          let ahead = readers.onward (child_role role (name_at t (j + 1))) j mid g one in
          let later = content_forward whole' role t readers.onward mid n h behind in
          let inside = (named t j mid (readers.sound (child_role role (name_at t (j + 1))) j mid g one)).ends in
          let name = name_in p (j + 1) (j - d + 1) (omega arith) (omega arith) (omega arith) in
          let child = readers.same (child_role role (name_at t (j + 1))) j (j - d) mid g (omega arith) on.2 (omega arith) one in
          let others = rest mid (mid - d) (omega arith) (omega arith) h behind in
          let next = byte_in p (j + 1) (j - d + 1) (omega arith) (omega arith) in (
            content_child part role s readers.part_onward i (j - d) (read (mid - d) (lowered d g)) (text_in_lem p q i j e text (omega arith)) (λ z. other (next ∙ z))
                (ap (λ (l : List ℕ). part (child_role role l) (j - d)) (sym name) ∙ child.reads)
                ∙ ap (λ (r : Parsed). on_read r (λ e g'. read e (beside (lowered d g) g'))) others.0
                ∙ ap (read (n - d)) (sym (lowered_beside d g h) ∙ ap (lowered d) forests),
            rw forests at (every_beside (Kept p q) g h (kept_later p q j on.0 g child.kept) (kept_later p q mid (omega arith) h others.1)),
          )

      content_more : Later → (j : ℕ) → text_at t q ≡ Ok j → (byte_at t (j + 1) ≡ 47 → ⊥) → Content q i n f
      content_more rest j text other =
          let child_role_lem = child_role role (name_at t (j + 1)) in
          let is = sym (content_child whole' role t readers.onward q j (whole' child_role_lem j) text other refl) ∙ told in
          let w = went (whole' child_role_lem j) (λ next f. on_read (content_by whole' role t next) (λ e g. read e (beside f g))) n f is in
          let v = went (content_by whole' role t w.mid) (λ e g. read e (beside w.part g)) n f w.then in
          let ends : v.mid ≡ n = (let then = v.then in cc) in
          let forests : beside w.part v.part ≡ f = (let then = v.then in cc) in
          child_in rest j w.mid v.mid w.part v.part text other w.first v.first ends forests

    content_by_lem : (fuel q i : ℕ) → q ≡ d + i → (n : ℕ) (f : Forest) → n + 1 < d + length s → content_by whole' role t q ≡ read n f → n < q + fuel → Content q i n f
    content_by_lem zero q i e n f room told bound = absurd (omega (arith, content_forward whole' role t readers.onward q n f told))
    content_by_lem (suc fuel) q i e n f room told bound = by_text (content_by_lem fuel) (text_at t q) refl
      where
        by_test : ((q i : ℕ) → q ≡ d + i → (n : ℕ) (f : Forest) → n + 1 < d + length s → content_by whole' role t q ≡ read n f → n < q + fuel → Content q i n f)
            → (j : ℕ) → text_at t q ≡ Ok j → (b : Bool) → eqb (byte_at t (j + 1)) 47 ≡ b → Content q i n f
        by_test rest j text true b = content_last q i e n f room told j text (eqb-true _ 47 b)
        by_test rest j text false b =
            content_more q i e n f room told (λ q' i' on e' f' told'. rest q' i' e' n f' room told' (omega arith)) j text (eqb-false _ 47 b)

        by_text : ((q i : ℕ) → q ≡ d + i → (n : ℕ) (f : Forest) → n + 1 < d + length s → content_by whole' role t q ≡ read n f → n < q + fuel → Content q i n f)
            → (r : Reach) → text_at t q ≡ r → Content q i n f
        by_text rest (Ok j) text = by_test rest j text (eqb (byte_at t (j + 1)) 47) refl
        by_text rest (Err k) text =
            let is = content_broken whole' role t readers.onward q k text in
            absurd (let z : ◌≡◌ {A = ℕ} 0 1 = cc in omega arith)

    content_in : (q i : ℕ) → q ≡ d + i → (n : ℕ) (f : Forest) → n + 1 < d + length s → content_by whole' role t q ≡ read n f → Content q i n f
    content_in q i e n f room told = content_by_lem (suc n) q i e n f room told (omega arith)

    -- ---- a group

    module _ (q i n : ℕ) (f : Forest) (e : q ≡ d + i) (sign : byte_at t q ≡ 60) (room : n ≤ d + length s) (sound : Sound n (start_at t q)) where
      whole_same : (result : Parsed) (m : ℕ) (g : Forest) → Every (Kept p (suc q)) g → result ≡ read (m - d) (whole role i (lowered d g)) → read m (whole role q g) ≡ read n f → Same p result q n f
      whole_same result m g inner is told =
          let ends : m ≡ n = cc in
          let forest : whole role q g ≡ f = cc in
          record {
            reads = is ∙ ap₂ read (ap (λ (k : ℕ). k - d) ends) (sym (lowered_whole d role q i g e) ∙ ap (lowered d) forest);
            kept = rw forest at (whole_every (Kept p q) role q g (own_kept p role q i n f e sign room sound) (kept_later p q (suc q) (omega arith) g inner));
            under = rw forest at (whole_under (Kept p (suc q)) role q g inner);
          }

      group_in : (tag : Result Tag ℕ) → start_at t q ≡ tag → group_at whole' role t q tag ≡ read n f → Same p (group_at part role s i (start_at s i)) q n f
      group_in (Ok (Open end inside)) is told =
          let first = open_forward t q end inside is in
          let start : start_at s i ≡ Ok (Open (end - d) (inside - d)) = tag_in p role q i n f e sign room sound ∙ ap (lower_tag d) is in
          let a = went (content_by whole' role t inside) (λ e f. on_reached (end_at t q e) (λ n. read n (whole role q f))) n f told in
          let x = reached (end_at t q a.mid) (λ n. read n (whole role q a.part)) n f a.then in
          let same : x.mid ≡ n = (let then = x.then in cc) in
          let on = content_forward whole' role t readers.onward inside a.mid a.part a.first in
          let behind = end_forward t q a.mid x.mid x.first in
          let named_inside = (tag_named p role q i n f e sign room sound).ends in
          let content = content_in inside (inside - d) (omega arith) a.mid a.part (omega arith) a.first in
          let end_tag = end_in_lem p q i a.mid (a.mid - d) x.mid e (omega arith) (omega arith) x.first (omega arith) in
          whole_same (group_at part role s i (start_at s i)) x.mid a.part (kept_later p (suc q) inside (omega arith) a.part content.1)
          (ap (group_at part role s i) start
          ∙ ap (λ (r : Parsed). on_read r (λ e f. on_reached (end_at s i e) (λ n. read n (whole role i f)))) content.0
          ∙ ap (λ (r : Reach). on_reached r (λ n. read n (whole role i (lowered d a.part)))) end_tag)
          x.then
      group_in (Ok (Empty end next)) is told =
          let start : start_at s i ≡ Ok (Empty (end - d) (next - d)) = tag_in p role q i n f e sign room sound ∙ ap (lower_tag d) is in
          whole_same (group_at part role s i (start_at s i)) next none (every_none (Kept p (suc q)))
          (ap (group_at part role s i) start ∙ ap (λ (g : Forest). read (next - d) (whole role i g)) (sym (lowered_none d))) told
      group_in (Err k) is told = absurd (let z : ◌≡◌ {A = ℕ} 0 1 = cc in omega arith)

  -- ---- an element

  pub element_in : (depth role q i n : ℕ) (f : Forest) → q ≡ d + i → byte_at t q ≡ 60 → n ≤ d + length s → element_at depth t role q ≡ read n f → Same p (element_at depth s role i) q n f
  unfolding element_at
  element_in zero role q i n f e sign room told = by_test (ltb q (length t)) (name_start (byte_at t (q + 1))) told
    where
      by_test : (b c : Bool) → cond b (cond c (deep q) (broken (q + 1))) (broken q) ≡ read n f → Same p (element_at zero s role i) q n f
      by_test true true told = absurd (let z : ◌≡◌ {A = ℕ} 0 1 = cc in omega arith)
      by_test true false told = absurd (let z : ◌≡◌ {A = ℕ} 0 1 = cc in omega arith)
      by_test false c told = absurd (let z : ◌≡◌ {A = ℕ} 0 1 = cc in omega arith)
  element_in (suc depth) role q i n f e sign room told =
      by_test
      (record { onward = element_onward depth t; part_onward = element_onward depth s; sound = element_sound depth t; same = element_in depth })
      (element_sound (suc depth) t role q n f told) (roles.is_field role) told
    where
      by_test : Readers (element_at depth s) (element_at depth t) → Sound n (start_at t q) → (b : Bool)
          → cond b (field_at role t q (start_at t q)) (group_at (element_at depth t) role t q (start_at t q)) ≡ read n f
          → Same p (cond b (field_at role s i (start_at s i)) (group_at (element_at depth s) role s i (start_at s i))) q n f
      by_test readers sound true told = field_in p role q i n f e sign room sound (start_at t q) refl told
      by_test readers sound false told = group_in (element_at depth s) (element_at depth t) readers role q i n f e sign room sound (start_at t q) refl told
