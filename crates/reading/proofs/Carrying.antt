-- The notes that the second reading hands along: what they tell of the header, and of each message by itself. Assumes nothing.
use mathlib.Core.Path.{◌≡◌, refl, sym, ap, ◌∙◌}
use mathlib.Core.Bool.{Bool, true, false, cond}
use mathlib.Core.List.{List, [], ◌∷◌}
use Prim.Native.Nat.{ℕ, zero, suc, ◌+◌, ◌≤◌, ◌<◌}
use native.Mathlib.Omega.{arith}
use lib.Dec.{eqb}
use lib.ListN.{length, get_or, set, replicate, length-set}
use lib.Seq.{sets, length-sets, get_or-set_same, get_or-set_other}
use borrow.Author.Tests.{eqb-true, eqb-false}
use Rattle.paths.specs.Roles as roles
use Rattle.records.specs.Records.{message_of}
use Rattle.records.proofs.Laws.{message_alike}
use Rattle.elements.specs.Forest.{Forest, none, tree, beside}
use Rattle.elements.specs.Notes.{noted}
use Rattle.elements.specs.Questions.{place_in}
use Rattle.elements.proofs.Noting.{noted_place}
use Rattle.reading.specs.Meaning.{places_in}
use Rattle.reading.specs.Filling.{note_count, forgotten, Carried}

-- ---- notes of what is read one after the other

places_beside : (k : ℕ) (f g : Forest) (p : ℕ) → place_in k (beside f g) p ≡ place_in k g (place_in k f p)
unfolding place_in beside
places_beside k none g p = refl
places_beside k (tree role place inner rest) g p = places_beside k rest g (cond (eqb role k) place (place_in k inner p))

pub carried_none : (notes : List ℕ) → Carried none notes notes
unfolding place_in
carried_none notes k some low = refl

pub carried_on : (f g : Forest) (a b c : List ℕ) → Carried f a b → Carried g b c → Carried (beside f g) a c
carried_on f g a b c one two k some low = two k some low ∙ ap (place_in k g) (one k some low) ∙ sym (places_beside k f g (get_or a k 0))

-- a group is noted after what it holds
pub carried_group : (role j : ℕ) (f : Forest) (a b : List ℕ) → role < length b → Carried f a b → Carried (tree role j f none) a (set b role j)
unfolding place_in
carried_group role j f a b inside one k some low = by_test (eqb role k) refl
  where
    by_test : (t : Bool) → eqb role k ≡ t → get_or (set b role j) k 0 ≡ cond t j (place_in k f (get_or a k 0))
    by_test true e = let is = eqb-true role k e in rw (← is) (get_or-set_same b role j 0 inside)
    by_test false e = let other = eqb-false role k e in get_or-set_other b role k j 0 (λ z. other (sym z)) ∙ one k some low

pub carried_noted : (f : Forest) (notes : List ℕ) → length notes ≡ note_count → Carried f notes (noted f notes)
carried_noted f notes size k some low = noted_place k some (omega arith) f notes size

-- ---- a message by itself

before_run : (notes : List ℕ) (at k : ℕ) (xs : List ℕ) → k < at → get_or (sets notes at xs) k 0 ≡ get_or notes k 0
before_run notes at k [] low = refl
before_run notes at k (x ∷ xs) low = before_run (set notes at x) (suc at) k xs (omega arith) ∙ get_or-set_other notes at k x 0 (λ (z : k ≡ at). absurd (omega arith))

within_run : (n : ℕ) (notes : List ℕ) (at k : ℕ) → at + n ≤ length notes → at ≤ k → k < at + n → get_or (sets notes at (replicate n 0)) k 0 ≡ 0
within_run zero notes at k room low high = absurd (omega arith)
within_run (suc n) notes at k room low high = by_test (within_run n (set notes at 0) (suc at) k) (eqb at k) refl
  where
    by_test : (suc at + n ≤ length (set notes at 0) → suc at ≤ k → k < suc at + n → get_or (sets (set notes at 0) (suc at) (replicate n 0)) k 0 ≡ 0)
        → (t : Bool) → eqb at k ≡ t → get_or (sets (set notes at 0) (suc at) (replicate n 0)) k 0 ≡ 0
    by_test rest true e = let is = eqb-true at k e in before_run (set notes at 0) (suc at) k (replicate n 0) (omega arith) ∙ (rw (← is) (get_or-set_same notes at 0 0 (omega arith)))
    by_test rest false e = let other = eqb-false at k e in let long = length-set notes at 0 in rest (omega arith) (omega arith) (omega arith)

module _ (f : Forest) (before notes : List ℕ) (size : length before ≡ note_count) (read_so : notes ≡ noted f (forgotten before)) where
  forgotten_size : length (forgotten before) ≡ note_count
  forgotten_size = length-sets before roles.identifier (replicate 6 0) ∙ size

  noted_so : (k : ℕ) → 0 < k → k < roles.roles → get_or notes k 0 ≡ place_in k f (get_or (forgotten before) k 0)
  noted_so k some low = ap (λ (ns : List ℕ). get_or ns k 0) read_so ∙ noted_place k some low f (forgotten before) forgotten_size

  -- its fields are its own, and all other notes go on
  pub message_own : (s : List ℕ) → message_of s (λ k. get_or notes k 0) ≡ message_of s (places_in f)
  message_own s =
      message_alike s (λ k. get_or notes k 0) (places_in f) (λ k high low. noted_so k (omega arith) low ∙ ap (place_in k f) (within_run 6 before roles.identifier k (omega arith) (omega arith) (omega arith)))

  pub message_carried : Carried f before notes
  message_carried k some low = noted_so k some (omega arith) ∙ ap (place_in k f) (before_run before roles.identifier k (replicate 6 0) low)
