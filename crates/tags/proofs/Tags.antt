-- The laws of start tags and end tags: what each way of reading comes to, and what an answer tells of its places. Assumes nothing.
use mathlib.Core.Path.{◌≡◌, refl, ◌∙◌}
use mathlib.Core.Bool.{Bool, true, false, cond, false≢true}
use mathlib.Core.List.{List, [], ◌∷◌}
use Prim.Native.Nat.{ℕ, zero, suc, ◌+◌, ◌-◌, ◌≤◌, ◌<◌, min}
use native.Mathlib.Omega.{arith}
use lib.Dec.{eqb, ltb}
use lib.ListN.{length, drop, length-drop}
use borrow.Author.Tests.{eq-eqb, eqb-true, lt-ltb, ltb-true, ltb-false}
use Rattle.wire.specs.Field.{text}
use Rattle.letters.specs.Places.{byte_at, between, matches, expected, on_reach, Reach}
use Rattle.std.specs.Prelude.{Ok, Err, Result}
use Rattle.letters.proofs.Scans.{byte_there, run_stops, run_ends, word_other, word_first}
use Rattle.letters.proofs.Walks.{went, match_forward}
use Rattle.tags.specs.Names.{is_space, name_start, name_byte, name_end, space_end, name_at}
use Rattle.tags.specs.Attributes.{attributes_at}
use Rattle.tags.specs.Tags.{closed_at, closing, start_at, end_at}
use Rattle.tags.specs.declared.Tag.{Tag}
use Rattle.tags.specs.declared.Tag.TheVariants.{Open, Empty}
use Rattle.tags.proofs.AttributeWalk.{attributes_forward, attributes_none}

-- ---- what ends a start tag

module _ (s : List ℕ) (at : ℕ) where
  pub closed_open : byte_at s at ≡ 62 → Ok (Open at (at + 1)) ≡ closed_at s at
  closed_open e = rw (eq-eqb (byte_at s at) 62 e)

-- ---- each way through a start tag

start_some : (b : ℕ) → name_start b ≡ true → 0 < b
unfolding name_start
start_some zero e = absurd (false≢true e)
start_some (suc b) e = omega arith

none_plain : (b : ℕ) → b ≡ 62 → is_space b ≡ false
unfolding is_space
none_plain b e = rw e

module _ (s : List ℕ) (at : ℕ) where
  -- where its name ends at place to
  module _ (begins : name_start (byte_at s (at + 1)) ≡ true) (to : ℕ) (ends : to ≡ name_end s (at + 1)) where
    pub start_named : (r : Reach) → attributes_at s to ≡ r → closing s r ≡ start_at s at
    unfolding start_at
    start_named r e =
        let there = byte_there s (at + 1) (start_some (byte_at s (at + 1)) begins) in
        rw (lt-ltb at (length s) (omega arith), begins, ← ends, e)

    pub start_plain : byte_at s to ≡ 62 → Ok (Open to (to + 1)) ≡ start_at s at
    start_plain e = closed_open s to e ∙ start_named (Ok to) (attributes_none s to (none_plain _ e))

-- ---- what a start tag tells

abbrev Told : List ℕ → ℕ → Result Tag ℕ → Type 0
Told s at (Ok (Open e n)) = (at < e) × (n ≡ e + 1) × (n ≤ length s)
Told s at (Ok (Empty e n)) = (at < e) × (n ≡ e + 2) × (n ≤ length s)
Told s at (Err p) = Unit {0}

closed_told : (s : List ℕ) (at e : ℕ) → at < e → Told s at (closed_at s e)
closed_told s at e h = by_test (eqb (byte_at s e) 62) refl (eqb (byte_at s e) 47) (eqb (byte_at s (e + 1)) 62) refl
  where
    by_test : (a : Bool) → eqb (byte_at s e) 62 ≡ a → (b c : Bool) → eqb (byte_at s (e + 1)) 62 ≡ c
        → Told s at (cond a (Ok (Open e (e + 1))) (cond b (cond c (Ok (Empty e (e + 2))) (Err (e + 1))) (Err e)))
    by_test true p b c q =
        let there = byte_there s e (let is = eqb-true (byte_at s e) 62 p in omega arith) in
        (h, refl, omega arith)
    by_test false p true true q =
        let there = byte_there s (e + 1) (let is = eqb-true (byte_at s (e + 1)) 62 q in omega arith) in
        (h, refl, omega arith)
    by_test false p true false q = tt
    by_test false p false c q = tt

closing_told : (s : List ℕ) (at from : ℕ) → at < from → (r : Reach) → attributes_at s from ≡ r → Told s at (closing s r)
closing_told s at from h (Ok e) told = closed_told s at e (omega (arith, attributes_forward s from e told))
closing_told s at from h (Err p) told = tt

start_told : (s : List ℕ) (at : ℕ) → Told s at (start_at s at)
unfolding start_at
start_told s at = by_test (ltb at (length s)) (name_start (byte_at s (at + 1)))
  where
    by_test : (a b : Bool) → Told s at (cond a (cond b (closing s (attributes_at s (name_end s (at + 1)))) (Err (at + 1))) (Err at))
    by_test false b = tt
    by_test true false = tt
    by_test true true = closing_told s at (name_end s (at + 1)) (omega arith) (attributes_at s (name_end s (at + 1))) refl

module _ (s : List ℕ) (at e n : ℕ) where
  pub open_forward : start_at s at ≡ Ok (Open e n) → (at < e) × (n ≡ e + 1) × (n ≤ length s)
  open_forward told = rw told at (start_told s at)

  pub empty_forward : start_at s at ≡ Ok (Empty e n) → (at < e) × (n ≡ e + 2) × (n ≤ length s)
  empty_forward told = rw told at (start_told s at)

-- ---- an end tag

-- a word that stands is no longer than what is left
match_fits : (word t : List ℕ) (at n : ℕ) → matches word t at ≡ Ok n → length word ≤ length t
unfolding matches
match_fits [] t at n e = omega arith
match_fits (b ∷ bs) [] at n e = absurd (let z : ◌≡◌ {A = ℕ} 0 1 = cc in omega arith)
match_fits (b ∷ bs) (c ∷ cs) at n e = by_test (match_fits bs cs (at + 1) n) (eqb c b) e
  where
    by_test : (matches bs cs (at + 1) ≡ Ok n → length bs ≤ length cs) → (t : Bool) → cond t (matches bs cs (at + 1)) (Err at) ≡ Ok n
        → suc (length bs) ≤ suc (length cs)
    by_test rest true told = omega (arith, rest told)
    by_test rest false told = absurd (let z : ◌≡◌ {A = ℕ} 0 1 = cc in omega arith)

pub expected_inside : (s : List ℕ) (b : ℕ) (bs : List ℕ) (at n : ℕ) → expected s (b ∷ bs) at ≡ Ok n → n ≤ length s
expected_inside s b bs at n e =
    omega (arith, match_forward (b ∷ bs) (drop at s) at n e, match_fits (b ∷ bs) (drop at s) at n e, length-drop at s)

pub ended_here : (s : List ℕ) (at : ℕ) → byte_at s at ≡ 62 → Ok (at + 1) ≡ expected s (text ">") (space_end s at)
unfolding matches
ended_here s at e =
    rw (← run_stops is_space s at (byte_there s at (omega arith)) (none_plain _ e), word_first s 62 [] at (omega arith) e)

module _ (s : List ℕ) (start at : ℕ) where
  abbrev ended : ℕ → Reach
  ended m = expected s (text ">") (space_end s m)

  abbrev again : ℕ → Reach
  again n = on_reach (expected s (name_at s (start + 1)) n) ended

  pub end_unopened : (byte_at s at ≡ 60 → ⊥) → Err at ≡ end_at s start at
  unfolding end_at
  end_unopened other = rw (word_other s 60 (text "/") at other)

  module _ (opens : byte_at s at ≡ 60) where
    pub end_unslashed : (byte_at s (at + 1) ≡ 47 → ⊥) → Err (at + 1) ≡ end_at s start at
    unfolding end_at
    end_unslashed other = rw (word_first s 60 (text "/") at (omega arith) opens, word_other s 47 [] (at + 1) other)

    -- where the name ends at place to
    pub end_named : byte_at s (at + 1) ≡ 47 → (to : ℕ) → to ≡ name_end s (start + 1)
        → (r : Reach) → expected s (between s (start + 1) to) (at + 2) ≡ r → on_reach r ended ≡ end_at s start at
    unfolding end_at matches
    end_named slash to ends r e =
        let two : at + 1 + 1 ≡ at + 2 = omega arith in
        rw (word_first s 60 (text "/") at (omega arith) opens, word_first s 47 [] (at + 1) (omega arith) slash, two, ← ends, e)

  pub end_forward : (n : ℕ) → end_at s start at ≡ Ok n → (at + 2 ≤ n) × (n ≤ length s)
  unfolding end_at
  end_forward n e =
      let a = went (expected s (text "</") at) again n e in
      let b = went (expected s (name_at s (start + 1)) a.mid) ended n a.then in
      let opened = match_forward (text "</") (drop at s) at a.mid a.first in
      let named = match_forward (name_at s (start + 1)) (drop a.mid s) a.mid b.mid b.first in
      let closed = match_forward (text ">") (drop (space_end s b.mid) s) (space_end s b.mid) n b.then in
      (omega arith, expected_inside s 62 [] (space_end s b.mid) n b.then)

-- past the end of the text no name stands, from whichever place on
name_past : (s : List ℕ) (at : ℕ) → length s ≤ at → name_at s at ≡ []
name_past s at h =
    let none : name_end s at - at ≡ 0 = omega (arith, run_ends name_byte s at h) in
    rw none

pub end_least : (s : List ℕ) (start at : ℕ) → end_at s (min start (length s)) at ≡ end_at s start at
unfolding end_at
end_least s start at = by_test (ltb start (length s)) refl
  where
    by_test : (t : Bool) → ltb start (length s) ≡ t → end_at s (min start (length s)) at ≡ end_at s start at
    by_test true e = let same : min start (length s) ≡ start = omega (arith, ltb-true) in rw same
    by_test false e =
        let past : length s ≤ start = omega (arith, ltb-false) in
        rw (name_past s (min start (length s) + 1) (omega arith), name_past s (start + 1) (omega arith))
