-- The loop over a content: what was read so far, with what is still to be read, comes to the whole. Assumes nothing.
use mathlib.Core.Path.{◌≡◌, refl, sym, ap, ◌∙◌}
use mathlib.Core.Bool.{Bool, true, false, cond}
use mathlib.Core.List.{List}
use Prim.Native.Nat.{ℕ, zero, suc, ◌+◌, ◌<◌, min}
use native.Mathlib.Omega.{arith}
use lib.Dec.{eqb}
use lib.ListN.{length, get_or, set, replicate, length-set}
use lib.Seq.{get_or-set_same, get_or-set_other}
use borrow.Author.Tests.{eq-eqb, ne_eqb, eqb-true, eqb-false}
use Rattle.letters.specs.Places.{byte_at}
use Rattle.std.specs.Prelude.{Ok, Err}
use Rattle.tags.specs.Names.{name_at}
use Rattle.prose.specs.Prose.{text_at}
use Rattle.paths.specs.Roles as roles
use Rattle.paths.specs.Table.{child_role, lacks}
use Rattle.paths.proofs.Rows.{lacks_alike}
use Rattle.elements.specs.declared.Stop.{Stop}
use Rattle.elements.specs.declared.Stop.TheVariants.{Form, Deep}
use Rattle.elements.specs.Forest.{Forest, none, tree, beside, count_of}
use Rattle.elements.specs.Grammar.{Parsed, read, broken, deep, on_read, content_by}
use Rattle.elements.specs.Notes.{noted, bumped}
use Rattle.elements.proofs.Forests.{zeros, nothing_yet, further, beside_none, count_beside, noted_beside}
use Rattle.elements.proofs.Steps.{stopped}
use Rattle.elements.proofs.Forward.{Onward, Shape, stepped, one, content_broken, content_ends, content_child}

-- ---- counts

-- a role is counted up to two
abbrev pub Counted : List ℕ → Forest → Type 0
Counted counts f = (k : ℕ) → k < roles.roles → get_or counts k 0 ≡ min (count_of f k) 2

once_alike : (n : ℕ) → eqb (min n 2) 1 ≡ eqb n 1
once_alike zero = refl
once_alike (suc zero) = refl
once_alike (suc (suc n)) = rw (ne_eqb (min (suc (suc n)) 2) 1 (λ (z : min (suc (suc n)) 2 ≡ 1). absurd (omega arith)), ne_eqb (suc (suc n)) 1 (λ (z : suc (suc n) ≡ 1). absurd (omega arith)))

pub counted_lacks : (role : ℕ) (counts : List ℕ) (f : Forest) → Counted counts f → lacks role (λ k. get_or counts k 0) ≡ lacks role (count_of f)
counted_lacks role counts f h = lacks_alike (λ k. get_or counts k 0) (count_of f) role (λ k low. ap (λ (n : ℕ). eqb n 1) (h k low) ∙ once_alike (count_of f k))

-- nothing was counted
pub zeros_counted : Counted (replicate roles.roles 0) none
unfolding count_of
zeros_counted k low = zeros roles.roles k ∙ (omega arith)

count_one : (role place : ℕ) (inner : Forest) (k : ℕ) → count_of (tree role place inner none) k ≡ cond (eqb (roles.counts_as role) k) 1 0
unfolding count_of
count_one role place inner k = refl

-- with one element more
pub counted_more : (role : ℕ) (counts : List ℕ) (f g : Forest) → length counts ≡ roles.roles → Counted counts f → Shape role g → Counted (bumped role counts) (beside f g)
counted_more role counts f g size h (stepped e n) k low = rw (n, beside_none f, eq-eqb role roles.other e) (h k low)
counted_more role counts f g size h (one e place inner t) k low = rw (t, ne_eqb role roles.other e, count_beside f (tree role place inner none) k) (by_test (eqb (roles.counts_as role) k) refl)
  where
    by_test : (b : Bool) → eqb (roles.counts_as role) k ≡ b
        → get_or (set counts (roles.counts_as role) (min (suc (get_or counts (roles.counts_as role) 0)) 2)) k 0 ≡ min (count_of f k + count_of (tree role place inner none) k) 2
    by_test true q =
        let same = eqb-true (roles.counts_as role) k q in
        rw (count_one role place inner k, q, same, get_or-set_same counts k (min (suc (get_or counts k 0)) 2) 0 (omega arith)) (omega (arith, h k low))
    by_test false q =
        let apart = eqb-false (roles.counts_as role) k q in
        rw (get_or-set_other counts (roles.counts_as role) k (min (suc (get_or counts (roles.counts_as role) 0)) 2) 0 (λ z. apart (sym z)), count_one role place inner k, q) (omega (arith, h k low))

pub bumped_size : (role : ℕ) (counts : List ℕ) → length (bumped role counts) ≡ length counts
bumped_size role counts = by_test (eqb role roles.other)
  where
    by_test : (b : Bool) → length (cond b counts (set counts (roles.counts_as role) (min (suc (get_or counts (roles.counts_as role) 0)) 2))) ≡ length counts
    by_test true = refl
    by_test false = length-set counts (roles.counts_as role) _

-- ---- the loop

pub record Reading (element : ℕ → ℕ → Parsed) (s : List ℕ) (role at i : ℕ) (first notes counts : List ℕ) : Type 0 where
  pub sofar : Forest
  pub comes : content_by element role s at ≡ on_read (content_by element role s i) (λ e g. read e (beside sofar g))
  pub notes_are : notes ≡ noted sofar first
  pub size : length counts ≡ roles.roles
  pub counted : Counted counts sofar

module _ (element : ℕ → ℕ → Parsed) (s : List ℕ) (role at : ℕ) (first : List ℕ) where
  pub reading_starts : Reading element s role at at first first (replicate roles.roles 0)
  unfolding noted
  reading_starts = record { sofar = none; comes = nothing_yet (content_by element role s at); notes_are = refl; size = refl; counted = zeros_counted }

  module _ (onward : Onward element (length s)) (i : ℕ) (notes counts : List ℕ) (reading : Reading element s role at i first notes counts) where
    pub reading_broken : (p : ℕ) → text_at s i ≡ Err p → content_by element role s at ≡ broken p
    reading_broken p e = reading.comes ∙ (rw (content_broken element role s onward i p e))

    pub reading_ends : (j : ℕ) → text_at s i ≡ Ok j → byte_at s (j + 1) ≡ 47 → content_by element role s at ≡ read j reading.sofar
    reading_ends j e h = reading.comes ∙ (rw (content_ends element role s onward i j e h, beside_none reading.sofar))

    pub reading_stops : (j : ℕ) (r : Parsed) → text_at s i ≡ Ok j → (byte_at s (j + 1) ≡ 47 → ⊥) → element (child_role role (name_at s (j + 1))) j ≡ r
        → content_by element role s at ≡ on_read (on_read r (λ next f. on_read (content_by element role s next) (λ e g. read e (beside f g)))) (λ e g. read e (beside reading.sofar g))
    reading_stops j r e h k = reading.comes ∙ (rw (content_child element role s onward i j r e h k))

    pub reading_on : (j next : ℕ) (f : Forest) (after : List ℕ) → text_at s i ≡ Ok j → (byte_at s (j + 1) ≡ 47 → ⊥)
        → element (child_role role (name_at s (j + 1))) j ≡ read next f → Shape (child_role role (name_at s (j + 1))) f → after ≡ noted f notes
        → Reading element s role at next first after (bumped (child_role role (name_at s (j + 1))) counts)
    reading_on j next f after e h k shape n =
        record {
          sofar = beside reading.sofar f;
          comes = reading_stops j (read next f) e h k ∙ further reading.sofar f (content_by element role s next);
          notes_are = n ∙ (rw reading.notes_are) ∙ sym (noted_beside reading.sofar f first);
          size = bumped_size (child_role role (name_at s (j + 1))) counts ∙ reading.size;
          counted = counted_more (child_role role (name_at s (j + 1))) counts reading.sofar f reading.size reading.counted shape;
        }

    -- by the role that was found for the child
    module _ (j child : ℕ) (text : text_at s i ≡ Ok j) (more : byte_at s (j + 1) ≡ 47 → ⊥) (is : child ≡ child_role role (name_at s (j + 1))) where
      pub child_stopped : (e : Stop) → element child j ≡ stopped e → content_by element role s at ≡ stopped e
      child_stopped (Form p) e = reading_stops j (broken p) text more (rw (← is) e)
      child_stopped (Deep p) e = reading_stops j (deep p) text more (rw (← is) e)

      pub child_read : (next : ℕ) (f : Forest) (after : List ℕ) → element child j ≡ read next f → Shape child f → after ≡ noted f notes
          → Reading element s role at next first after (bumped child counts)
      child_read next f after e shape n = rw is (reading_on j next f after text more (rw (← is) e) (rw (← is) shape) n)
