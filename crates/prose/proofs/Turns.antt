-- The laws of turns: where no section starts, what a plain byte does, where a turn leads on to, and where a text and a section end. Assumes nothing.
use mathlib.Core.Path.{◌≡◌, refl, sym, ap, ◌∙◌}
use mathlib.Core.Bool.{Bool, true, false, cond, not, ◌||◌}
use mathlib.Core.List.{List, ◌∷◌}
use Prim.Native.Nat.{ℕ, suc, ◌+◌, ◌≤◌, ◌<◌}
use native.Mathlib.Omega.{arith}
use lib.Dec.{eqb}
use lib.ListN.{length, drop, get_or}
use lib.Seq.{get_or-take, get_or-drop}
use borrow.Author.Tests.{not-true, eqb-true, eqb-false}
use Rattle.wire.specs.Field.{text, part}
use Rattle.wire.proofs.Sides.{both_false}
use Rattle.wire.proofs.Texts.{same_equal}
use Rattle.letters.specs.Places.{byte_at, going, Reach}
use Rattle.letters.specs.Characters.{single, width_at}
use Rattle.letters.specs.References.{stands, reference_at}
use Rattle.std.specs.Prelude.{Ok, Err, Option, Some, None}
use Rattle.letters.specs.declared.Turn.{Turn}
use Rattle.letters.specs.declared.Turn.TheVariants.{On, Ends, Breaks}
use Rattle.letters.specs.declared.Reference.{Reference}
use Rattle.letters.proofs.Scans.{byte_there}
use Rattle.letters.proofs.Walks.{Onward, walk_forward, walk_shows}
use Rattle.letters.proofs.Characters.{front_true, back_true, width_first, width_there}
use Rattle.letters.proofs.References.{stands_there, stands_differs, reference_forward}
use Rattle.tags.specs.Attributes.{after_reference, after_character}
use Rattle.prose.specs.Plain.{plain}
use Rattle.prose.specs.Prose.{section_start, section_end, section_turn, section_at, text_turn, text_at}

-- ---- a section that does not start

module _ (s : List ℕ) (at : ℕ) where
  stands_second : (b c : ℕ) (word : List ℕ) → stands s at (b ∷ c ∷ word) ≡ true → byte_at s (at + 1) ≡ c
  stands_second b c word e =
      sym (get_or-take (suc (suc (length word))) (drop at s) 1 0 (omega arith) ∙ get_or-drop at s 1 0)
      ∙ ap (λ (l : List ℕ). get_or l 1 0) (same_equal (part s at (suc (suc (length word)))) (b ∷ c ∷ word) e)

  -- its second byte is '!'
  pub no_start : (byte_at s (at + 1) ≡ 33 → ⊥) → stands s at section_start ≡ false
  no_start h = by_test (stands s at section_start) refl
    where
      by_test : (t : Bool) → stands s at section_start ≡ t → t ≡ false
      by_test true e = absurd (h (stands_second 60 33 (text "[CDATA[") e))
      by_test false e = refl

  -- so a '<' with another byte behind it ends a text
  pub text_sign : byte_at s at ≡ 60 → (byte_at s (at + 1) ≡ 33 → ⊥) → text_turn s at ≡ Ends at
  unfolding text_turn
  text_sign sign h = rw (no_start h, sign)

-- ---- a plain byte

module _ (s : List ℕ) (i : ℕ) (e : plain (byte_at s i) ≡ true) where
  pub alone : single (byte_at s i) ≡ true
  alone = front_true (single (byte_at s i)) (not (eqb (byte_at s i) 60 || eqb (byte_at s i) 38 || eqb (byte_at s i) 93)) e

  others : ((eqb (byte_at s i) 60 || eqb (byte_at s i) 38) || eqb (byte_at s i) 93) ≡ false
  others = not-true _ (back_true (single (byte_at s i)) (not (eqb (byte_at s i) 60 || eqb (byte_at s i) 38 || eqb (byte_at s i) 93)) e)

  pub unsigned : (eqb (byte_at s i) 60 ≡ false) × (eqb (byte_at s i) 38 ≡ false)
  unsigned =
      both_false (eqb (byte_at s i) 60) (eqb (byte_at s i) 38) (both_false (eqb (byte_at s i) 60 || eqb (byte_at s i) 38) (eqb (byte_at s i) 93) others).0

  no_end : stands s i section_end ≡ false
  no_end = stands_differs s i 93 (text "]>") (eqb-false (byte_at s i) 93 (both_false (eqb (byte_at s i) 60 || eqb (byte_at s i) 38) (eqb (byte_at s i) 93) others).1)

  pub section_plain : section_turn s i ≡ On (i + 1)
  unfolding section_turn
  section_plain = rw (no_end, ← (width_first s i alone))

  pub text_plain : text_turn s i ≡ On (i + 1)
  unfolding text_turn
  text_plain = rw (unsigned.0, unsigned.1, no_end, ← (width_first s i alone))

-- ---- where a turn leads on to

either : (P : Type 0) (r : Turn) (t : Bool) (x y : Turn) → (t ≡ true → x ≡ r → P) → (t ≡ false → y ≡ r → P) → cond t x y ≡ r → P
either P r true x y f g e = f refl e
either P r false x y f g e = g refl e

module _ (s : List ℕ) (i n : ℕ) where
  abbrev Further : Type 0
  Further = (i < length s) × (i < n)

  after_character_lem : (w : ℕ) → width_at s i ≡ w → after_character w i ≡ On n → Further
  after_character_lem w size = either Further (On n) (eqb w 0) (Breaks i) (On (i + w))
      (λ t told. absurd (let z : ◌≡◌ {A = ℕ} 0 1 = cc in omega arith))
      (λ t told.
      let over : i + w ≤ length s = width_there s i w size (omega (arith, eqb-false w 0 t)) in
      let same : i + w ≡ n = cc in
      (omega (arith, eqb-false w 0 t), omega (arith, eqb-false w 0 t)))

  character_ends : (w : ℕ) → after_character w i ≡ Ends n → ⊥
  character_ends w = either ⊥ (Ends n) (eqb w 0) (Breaks i) (On (i + w))
      (λ t told. let z : ◌≡◌ {A = ℕ} 0 1 = cc in omega arith)
      (λ t told. let z : ◌≡◌ {A = ℕ} 0 1 = cc in omega arith)

  after_section : (r : Reach) → section_at s (i + 9) ≡ r → eqb (byte_at s i) 60 ≡ true → going r ≡ On n → section_at s (i + 9) ≡ Ok n
  after_section (Ok m) e t told = let same : m ≡ n = cc in rw same at e
  after_section (Err p) e t told = absurd (let z : ◌≡◌ {A = ℕ} 0 1 = cc in omega arith)

  after_reference_lem : (r : Option Reference) → reference_at s i ≡ r → after_reference r i ≡ On n → Further
  after_reference_lem (Some r) e told =
      let on = reference_forward s i r.character r.next e in
      let same : r.next ≡ n = cc in
      (omega arith, omega arith)
  after_reference_lem None e told = absurd (let z : ◌≡◌ {A = ℕ} 0 1 = cc in omega arith)

  reference_ends : (r : Option Reference) → after_reference r i ≡ Ends n → ⊥
  reference_ends (Some r) told = let z : ◌≡◌ {A = ℕ} 0 1 = cc in omega arith
  reference_ends None told = let z : ◌≡◌ {A = ℕ} 0 1 = cc in omega arith

  going_ends : (r : Reach) → going r ≡ Ends n → ⊥
  going_ends (Ok m) told = let z : ◌≡◌ {A = ℕ} 0 1 = cc in omega arith
  going_ends (Err p) told = let z : ◌≡◌ {A = ℕ} 0 1 = cc in omega arith

  section_on : section_turn s i ≡ On n → Further
  unfolding section_turn
  section_on = either Further (On n) (stands s i section_end) (Ends (i + 3)) (after_character (width_at s i) i)
      (λ t told. absurd (let z : ◌≡◌ {A = ℕ} 0 1 = cc in omega arith))
      (λ t told. after_character_lem (width_at s i) refl told)

  section_ends : section_turn s i ≡ Ends n → (n ≡ i + 3) × (n ≤ length s)
  unfolding section_turn
  section_ends = either ((n ≡ i + 3) × (n ≤ length s)) (Ends n) (stands s i section_end) (Ends (i + 3)) (after_character (width_at s i) i)
      (λ t told.
      let there = stands_there s i section_end t (omega arith) in
      let same : i + 3 ≡ n = cc in
      (omega arith, omega arith))
      (λ t told. absurd (character_ends (width_at s i) told))

pub section_onward : (s : List ℕ) → Onward (section_turn s) (length s)
section_onward s = record {
  inside = λ i n e. (section_on s i n e).0;
  forward = λ i n e. (section_on s i n e).1;
  ending = λ i n e. omega (arith, section_ends s i n e);
}

-- the place after a section
pub section_forward : (s : List ℕ) (at e : ℕ) → section_at s at ≡ Ok e → (at ≤ e) × (e ≤ length s)
unfolding section_at
section_forward s at e told = (
  walk_forward (section_turn s) s (section_onward s) at e told,
  walk_shows (section_turn s) (λ n. n ≤ length s) (λ i n ends. (section_ends s i n ends).1) s at e told,
)

module _ (s : List ℕ) (i n : ℕ) where
  over_sign : (r : Reach) → section_at s (i + 9) ≡ r → eqb (byte_at s i) 60 ≡ true → going r ≡ On n → (i < length s) × (i < n)
  over_sign r e t told =
      let on = section_forward s (i + 9) n (after_section s i n r e t told) in
      (byte_there s i (omega (arith, eqb-true (byte_at s i) 60 t)), omega arith)

  text_on : text_turn s i ≡ On n → (i < length s) × (i < n)
  unfolding text_turn
  text_on =
      either ((i < length s) × (i < n)) (On n) (eqb (byte_at s i) 60) _ _
      (λ sign. either ((i < length s) × (i < n)) (On n) (stands s i section_start) _ _
      (λ t told. over_sign (section_at s (i + 9)) refl sign told)
      (λ t told. absurd (let z : ◌≡◌ {A = ℕ} 0 1 = cc in omega arith)))
      (λ other. either ((i < length s) × (i < n)) (On n) (eqb (byte_at s i) 38) _ _
      (λ t told. after_reference_lem s i n (reference_at s i) refl told)
      (λ t. either ((i < length s) × (i < n)) (On n) (stands s i section_end) _ _
      (λ u told. absurd (let z : ◌≡◌ {A = ℕ} 0 1 = cc in omega arith))
      (λ u told. after_character_lem s i n (width_at s i) refl told)))

  text_ends : text_turn s i ≡ Ends n → (n ≡ i) × (byte_at s n ≡ 60)
  unfolding text_turn
  text_ends =
      either ((n ≡ i) × (byte_at s n ≡ 60)) (Ends n) (eqb (byte_at s i) 60) _ _
      (λ sign. either ((n ≡ i) × (byte_at s n ≡ 60)) (Ends n) (stands s i section_start) _ _
      (λ t told. absurd (going_ends s i n (section_at s (i + 9)) told))
      (λ t told. let same : i ≡ n = cc in (sym same, rw same at (eqb-true (byte_at s i) 60 sign))))
      (λ other. either ((n ≡ i) × (byte_at s n ≡ 60)) (Ends n) (eqb (byte_at s i) 38) _ _
      (λ t told. absurd (reference_ends s i n (reference_at s i) told))
      (λ t. either ((n ≡ i) × (byte_at s n ≡ 60)) (Ends n) (stands s i section_end) _ _
      (λ u told. absurd (let z : ◌≡◌ {A = ℕ} 0 1 = cc in omega arith))
      (λ u told. absurd (character_ends s i n (width_at s i) told))))

pub text_onward : (s : List ℕ) → Onward (text_turn s) (length s)
text_onward s = record {
  inside = λ i n e. (text_on s i n e).0;
  forward = λ i n e. (text_on s i n e).1;
  ending = λ i n e. omega (arith, (text_ends s i n e).0);
}

-- the '<' that ends a text
pub text_forward : (s : List ℕ) (at e : ℕ) → text_at s at ≡ Ok e → (at ≤ e) × (e < length s) × (byte_at s e ≡ 60)
unfolding text_at
text_forward s at e told =
    let sign : byte_at s e ≡ 60 = walk_shows (text_turn s) (λ n. byte_at s n ≡ 60) (λ i n ends. (text_ends s i n ends).1) s at e told in
    (walk_forward (text_turn s) s (text_onward s) at e told, byte_there s e (omega arith), sign)
