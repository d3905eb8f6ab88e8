-- The laws of a block of attributes: its marks, each way through a turn that holds a name against it, how it fills, and what it comes to
-- when it is full. Assumes nothing.
use mathlib.Core.Path.{◌≡◌, refl, sym, ap, ◌∙◌}
use mathlib.Core.Bool.{Bool, true, false, ◌||◌, or-false, or-true, false≢true}
use mathlib.Core.List.{List}
use Prim.Native.Nat.{ℕ, zero, suc, ◌+◌, ◌*◌, ◌%◌, ◌≤◌, ◌<◌}
use native.Mathlib.Omega.{arith}
use native.Mathlib.Numerals.{add-one}
use lib.Dec.{eqb}
use lib.ListN.{length, get_or, drop, set, length-set}
use lib.Seq.{drop-cons, get_or-set_same, get_or-set_other}
use borrow.Author.Tests.{eqb-true, eqb-false}
use Rattle.wire.specs.Field.{same}
use Rattle.wire.proofs.Texts.{same_equal}
use Rattle.letters.specs.Places.{byte_at, going, walk, Reach}
use Rattle.letters.proofs.Scans.{byte_there}
use Rattle.std.specs.Prelude.{Ok, Err}
use Rattle.letters.specs.declared.Turn.{Turn}
use Rattle.letters.specs.declared.Turn.TheVariants.{On, Ends, Breaks}
use Rattle.tags.specs.Names.{is_space, name_start, space_end, name_at}
use Rattle.tags.specs.Attributes.{attribute_at, some_attribute, named, attribute_turn, attributes_at}
use Rattle.tags.specs.Twice.{block, slots, mark_from, mark_at, some_of, among, turn_by, sooner, Marked, Held, Filled, keeping}
use Rattle.tags.specs.declared.twice.Kept.{Kept}
use Rattle.tags.proofs.AttributeWalk.{attribute_forward, turn_forward, attributes_turn}
use Rattle.tags.proofs.Searches.{some_past, some_on}
use Rattle.tags.proofs.Late.{turn_over}
use Rattle.tags.proofs.Split.{sooner_joined, walk_same, walk_split}

-- ---- marks

pub mark_more : (v : ℕ) (s : List ℕ) (i : ℕ) → i < length s → mark_from (v % 72057594037927936 * 251 + get_or s i 0) (drop (i + 1) s) ≡ mark_from v (drop i s)
unfolding mark_from
mark_more v s i h = rw (add-one i, drop-cons s i 0 h)

-- names of which the marks differ do
pub unmarked : (s : List ℕ) (k : ℕ) (name : List ℕ) → (mark_at s k ≡ mark_from 0 name → ⊥) → same (name_at s k) name ≡ false
unmarked s k name other = by_test (same (name_at s k) name) refl
  where
    by_test : (t : Bool) → same (name_at s k) name ≡ t → t ≡ false
    by_test false e = refl
    by_test true e = absurd (other (ap (mark_from 0) (same_equal (name_at s k) name e)))

taken_inside : (seen : List ℕ) (k : ℕ) → get_or seen k 0 ≡ 1 → k < length seen
taken_inside seen k was = byte_there seen k (omega (arith, was))

-- ---- some of the places

module _ (test : ℕ → Bool) (places : List ℕ) where
  pub of_none : some_of test places 0 ≡ false
  unfolding some_of
  of_none = refl

  pub of_more : (n : ℕ) → some_of test places n ≡ false → test (get_or places n 0) ≡ false → some_of test places (n + 1) ≡ false
  unfolding some_of
  of_more n none other = rw (add-one n, none, other)

  pub of_others : (n : ℕ) → ((j : ℕ) → j < n → test (get_or places j 0) ≡ false) → some_of test places n ≡ false
  unfolding some_of
  of_others zero others = refl
  of_others (suc n) others = rw (of_others n (λ j h. others j (omega arith)), others n (omega arith))

  pub of_holds : (n j : ℕ) → j < n → test (get_or places j 0) ≡ true → true ≡ some_of test places n
  unfolding some_of
  of_holds zero j h e = absurd (omega arith)
  of_holds (suc n) j h e = by_test (of_holds n j) (test (get_or places n 0)) refl
    where
      by_test : (j < n → test (get_or places j 0) ≡ true → true ≡ some_of test places n) → (t : Bool) → test (get_or places n 0) ≡ t → true ≡ (some_of test places n || t)
      by_test rest true q = sym (or-true (some_of test places n))
      by_test rest false q =
          let other : j ≡ n → ⊥ = λ z. false≢true (sym q ∙ (rw z at e)) in
          let before : j < n = omega (arith, other) in
          rest before e ∙ sym (or-false (some_of test places n))

  -- a place that is set behind them shows in none
  of_set : (n k i : ℕ) → n ≤ i → some_of test (set places i k) n ≡ some_of test places n
  unfolding some_of
  of_set zero k i h = refl
  of_set (suc n) k i h = rw (of_set n k i (omega arith), get_or-set_other places i n k 0 (λ (z : n ≡ i). absurd (omega arith)))

  of_next : (n k : ℕ) → n < length places → some_of test (set places n k) (n + 1) ≡ (some_of test places n || test k)
  unfolding some_of
  of_next n k h = rw (add-one n, of_set n k n (omega arith), get_or-set_same places n k 0 h)

-- a name of which the slot is free stands at none of them
pub unseen : (s : List ℕ) (kept : Kept) (n at : ℕ) → Marked s kept n → get_or kept.seen (mark_at s at % slots) 0 ≡ 0 → false ≡ among s kept.places n at
unseen s kept n at marked free = sym (of_others (λ k. same (name_at s k) (name_at s at)) kept.places n other)
  where
    other : (j : ℕ) → j < n → same (name_at s (get_or kept.places j 0)) (name_at s at) ≡ false
    other j h = unmarked s (get_or kept.places j 0) (name_at s at) (λ e. (let was : get_or kept.seen (mark_at s at % slots) 0 ≡ 1 = rw e at (marked.taken j h) in let z : ◌≡◌ {A = ℕ} 0 1 = sym free ∙ was in absurd (omega arith)))

-- ---- each way through a turn

module _ (twice : ℕ → Bool) (s : List ℕ) (at : ℕ) where
  pub by_plain : is_space (byte_at s at) ≡ false → Ends at ≡ turn_by twice s at
  unfolding turn_by
  by_plain e = rw e

  module _ (spaced : is_space (byte_at s at) ≡ true) (k : ℕ) (after : k ≡ space_end s at) where
    pub by_ends : name_start (byte_at s k) ≡ false → Ends k ≡ turn_by twice s at
    unfolding turn_by
    by_ends e = rw (spaced, ← after, e)

    module _ (begins : name_start (byte_at s k) ≡ true) where
      pub by_twice : twice k ≡ true → Breaks k ≡ turn_by twice s at
      unfolding turn_by
      by_twice e = rw (spaced, ← after, begins, e)

      pub by_on : twice k ≡ false → (r : Reach) → attribute_at s k ≡ r → going r ≡ turn_by twice s at
      unfolding turn_by
      by_on e r told = rw (spaced, ← after, begins, e, told)

pub turn_alike : (s : List ℕ) (from at : ℕ) → attribute_turn s from at ≡ turn_by (named s from) s at
unfolding turn_by attribute_turn
turn_alike s from at = refl

-- ---- a block fills

-- a slot that is taken stays so
still_taken : (seen : List ℕ) (i k : ℕ) → get_or seen k 0 ≡ 1 → get_or (set seen i 1) k 0 ≡ 1
still_taken seen i k was = by_test (eqb k i) refl
  where
    by_test : (t : Bool) → eqb k i ≡ t → get_or (set seen i 1) k 0 ≡ 1
    by_test true e =
        let inside : k < length seen = taken_inside seen k was in
        let same : k ≡ i = eqb-true k i e in
        rw (← same) (get_or-set_same seen k 1 0 inside)
    by_test false e = get_or-set_other seen i k 1 0 (eqb-false k i e) ∙ was

or_joined : (a b c : Bool) → (a || (b || c)) ≡ ((a || b) || c)
or_joined true b c = refl
or_joined false b c = refl

module _ (s : List ℕ) (from : ℕ) where
  pub held_starts : (kept : Kept) → length kept.seen ≡ slots → Held s from from kept 0
  unfolding attributes_at some_of
  held_starts kept sized =
      record {
        marks_held = record { room = omega arith; beside = omega arith; marked = λ j h. absurd (omega arith); sized = sized; taken = λ j h. absurd (omega arith) };
        onward = omega arith;
        inside = λ h. absurd (omega arith);
        left = refl;
        covered = λ test end h. refl;
      }

  module _ (at : ℕ) (kept : Kept) (n : ℕ) (held : Held s from at kept n) where
    -- whoever stood before stands in the block
    pub held_turn : turn_by (among s kept.places n) s at ≡ attribute_turn s from at
    unfolding turn_by attribute_turn
    held_turn = rw (here)
      where
        here : among s kept.places n (space_end s at) ≡ named s from (space_end s at)
        here =
            sym (held.covered (λ k. same (name_at s k) (name_at s (space_end s at))) (space_end s at) (omega arith)
            ∙ ap (λ (t : Bool). among s kept.places n (space_end s at) || t) (sym (some_past (λ k. same (name_at s k) (name_at s (space_end s at))) s (space_end s at) at (space_end s at) refl (omega arith)))
            ∙ or-false (among s kept.places n (space_end s at)))

    pub held_more : (next : ℕ) → n < length kept.places → n < length kept.marks → turn_by (among s kept.places n) s at ≡ On next
        → Held s from next (keeping s n at kept) (n + 1)
    held_more next room beside on =
        record {
          marks_held = record { room = omega (arith, length-set kept.places n (space_end s at)); beside = omega (arith, length-set kept.marks n (mark_at s (space_end s at))); marked = marked; sized = length-set kept.seen (mark_at s (space_end s at) % slots) 1 ∙ held.marks_held.sized; taken = taken };
          onward = omega (arith, held.onward, forward);
          inside = λ h. omega (arith, held.onward, forward);
          left = sym (attributes_turn s from at (On next) turned) ∙ held.left;
          covered = covered;
        }
      where
        turned : attribute_turn s from at ≡ On next
        turned = sym held_turn ∙ on

        over : attribute_at s (space_end s at) ≡ Ok next
        over = turn_over (among s kept.places n) s at next on

        forward : (at < length s) × (at < next)
        forward = turn_forward s from at next turned

        marked : (j : ℕ) → j < n + 1 → get_or (set kept.marks n (mark_at s (space_end s at))) j 0 ≡ mark_at s (get_or (set kept.places n (space_end s at)) j 0)
        marked j h = by_test (eqb j n) refl
          where
            by_test : (t : Bool) → eqb j n ≡ t → get_or (set kept.marks n (mark_at s (space_end s at))) j 0 ≡ mark_at s (get_or (set kept.places n (space_end s at)) j 0)
            by_test true e =
                rw (eqb-true j n e, get_or-set_same kept.marks n (mark_at s (space_end s at)) 0 beside, get_or-set_same kept.places n (space_end s at) 0 room)
            by_test false e =
                let before : j < n = omega (arith, eqb-false j n e) in
                rw (get_or-set_other kept.marks n j (mark_at s (space_end s at)) 0 (eqb-false j n e), get_or-set_other kept.places n j (space_end s at) 0 (eqb-false j n e)) (held.marks_held.marked j before)

        taken : (j : ℕ) → j < n + 1 → get_or (set kept.seen (mark_at s (space_end s at) % slots) 1) (mark_at s (get_or (set kept.places n (space_end s at)) j 0) % slots) 0 ≡ 1
        taken j h = by_test (eqb j n) refl
          where
            by_test : (t : Bool) → eqb j n ≡ t → get_or (set kept.seen (mark_at s (space_end s at) % slots) 1) (mark_at s (get_or (set kept.places n (space_end s at)) j 0) % slots) 0 ≡ 1
            by_test true e =
                rw (eqb-true j n e, get_or-set_same kept.places n (space_end s at) 0 room)
                (get_or-set_same kept.seen (mark_at s (space_end s at) % slots) 1 0 (omega (arith, held.marks_held.sized)))
            by_test false e =
                let before : j < n = omega (arith, eqb-false j n e) in
                rw (get_or-set_other kept.places n j (space_end s at) 0 (eqb-false j n e))
                (still_taken kept.seen (mark_at s (space_end s at) % slots) (mark_at s (get_or kept.places j 0) % slots) (held.marks_held.taken j before))

        covered : (test : ℕ → Bool) (end : ℕ) → next ≤ end
            → some_attribute test s from end ≡ (some_of test (set kept.places n (space_end s at)) (n + 1) || some_attribute test s next end)
        covered test end h =
            let ahead = attribute_forward s (space_end s at) next over in
            held.covered test end (omega arith)
            ∙ ap (λ (t : Bool). some_of test kept.places n || t) (some_on test s end at (space_end s at) refl (omega arith) next over)
            ∙ or_joined (some_of test kept.places n) (test (space_end s at)) (some_attribute test s next end)
            ∙ ap (λ (t : Bool). t || some_attribute test s next end) (sym (of_next test kept.places n (space_end s at) room))

    pub held_ends : (e : ℕ) → turn_by (among s kept.places n) s at ≡ Ends e → attributes_at s from ≡ Ok e
    held_ends e ends = sym held.left ∙ attributes_turn s from at (Ends e) (sym held_turn ∙ ends)

    pub held_breaks : (p : ℕ) → turn_by (among s kept.places n) s at ≡ Breaks p → attributes_at s from ≡ Err p
    held_breaks p breaks = sym held.left ∙ attributes_turn s from at (Breaks p) (sym held_turn ∙ breaks)

    -- whatever stands twice from the block on stands in the block, or behind it
    pub held_split : attributes_at s from ≡ sooner (walk (turn_by (among s kept.places n) s) s at) (attributes_at s at)
    unfolding attributes_at
    held_split =
        sym held.left
        ∙ walk_same (attribute_turn s from) (turn_by (named s from) s) (turn_alike s from) s at
        ∙ walk_split (named s from) (among s kept.places n) (named s at) s at (λ k h. held.covered (λ j. same (name_at s j) (name_at s k)) k h) at (omega arith)
        ∙ ap (sooner (walk (turn_by (among s kept.places n) s) s at)) (sym (walk_same (attribute_turn s at) (turn_by (named s at) s) (turn_alike s at) s at))

-- ---- block by block

module _ (s : List ℕ) (from : ℕ) (kept : Kept) (r : Turn) (filled : Filled s from kept r) where
  pub filled_full : (n : ℕ) → r ≡ On n → Held s from n kept block
  filled_full n told = rw told at filled

  pub filled_ends : (e : ℕ) → r ≡ Ends e → attributes_at s from ≡ Ok e
  filled_ends e told = rw told at filled

  pub filled_breaks : (p : ℕ) → r ≡ Breaks p → attributes_at s from ≡ Err p
  filled_breaks p told = rw told at filled

-- where what was walked breaks first, with what follows the next block, is where it does with what follows the one before
pub blocks_on : (s : List ℕ) (at n : ℕ) (kept : Kept) → Held s at n kept block
    → (first followed next all : Reach) → followed ≡ walk (turn_by (among s kept.places block) s) s n → next ≡ sooner first followed
    → sooner first (attributes_at s at) ≡ all → sooner next (attributes_at s n) ≡ all
blocks_on s at n kept held first followed next all walked joined whole =
    (rw (joined, walked))
    ∙ sym (sooner_joined first (walk (turn_by (among s kept.places block) s) s n) (attributes_at s n))
    ∙ ap (sooner first) (sym (held_split s at n kept block held))
    ∙ whole
