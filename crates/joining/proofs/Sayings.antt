-- What the text of an element says in a part of a text is what it says in the whole, where it ends inside the part. Assumes nothing.
use mathlib.Core.Path.{◌≡◌, refl, sym, ap, ap₂, ◌∙◌}
use mathlib.Core.Bool.{Bool, true, false, cond, not}
use mathlib.Core.List.{List, ◌++◌}
use Prim.Native.Nat.{ℕ, zero, suc, ◌+◌, ◌-◌, ◌≤◌, ◌<◌}
use native.Mathlib.Omega.{arith}
use lib.Dec.{eqb}
use lib.ListN.{length}
use borrow.Author.Tests.{eqb-true, eqb-false}
use Rattle.letters.specs.Places.{byte_at, on_turn, Reach}
use Rattle.letters.specs.Characters.{width_at, encoded}
use Rattle.letters.specs.References.{stands, reference_at}
use Rattle.std.specs.Prelude.{Ok, Err, Option, Some, None}
use Rattle.letters.specs.declared.Turn.{Turn}
use Rattle.letters.specs.declared.Turn.TheVariants.{On, Ends, Breaks}
use Rattle.letters.specs.declared.Reference.{Reference}
use Rattle.letters.proofs.Walks.{walk_turn}
use Rattle.letters.proofs.References.{reference_forward}
use Rattle.tags.specs.Attributes.{after_character}
use Rattle.prose.specs.Plain.{plain}
use Rattle.prose.specs.Prose.{section_start, section_end, section_turn, section_at, text_turn, text_at, plain_piece, piece_at, saying, said_by, said_at}
use Rattle.prose.specs.declared.Piece.TheVariants.{Itself, Other, Turns, Silent}
use Rattle.prose.proofs.Turns.{section_onward, section_forward, section_plain, text_onward, text_forward, text_plain}
use Rattle.joining.proofs.Parts.{Part, byte_in, part_in_lem, stands_in, stands_not}
use Rattle.joining.proofs.Letters.{width_in, reference_in}

-- ---- what is left of a text that ends at a place

abbrev turn_of : Bool → List ℕ → ℕ → Turn
turn_of true s at = section_turn s at
turn_of false s at = text_turn s at

-- in a section, its rest and the text behind it
record Sectioned (s : List ℕ) (end at : ℕ) : Type 0 where
  pub mid : ℕ
  pub section : section_at s at ≡ Ok mid
  pub behind : text_at s mid ≡ Ok end

abbrev Left : Bool → List ℕ → ℕ → ℕ → Type 0
Left true s end at = Sectioned s end at
Left false s end at = text_at s at ≡ Ok end

module _ (s : List ℕ) (end : ℕ) where
  pub text_turn_lem : (at : ℕ) (r : Turn) → text_turn s at ≡ r → text_at s at ≡ on_turn r (λ next. text_at s next)
  unfolding text_at
  text_turn_lem at r e = walk_turn (text_turn s) s (text_onward s) at r e

  section_turn_lem : (at : ℕ) (r : Turn) → section_turn s at ≡ r → section_at s at ≡ on_turn r (λ next. section_at s next)
  unfolding section_at
  section_turn_lem at r e = walk_turn (section_turn s) s (section_onward s) at r e

  left_before : (inside : Bool) (at : ℕ) → Left inside s end at → (at ≤ end) × (end < length s)
  left_before true at left =
      let one = section_forward s at left.mid left.section in
      let two = text_forward s left.mid end left.behind in
      (omega arith, two.1)
  left_before false at left = let two = text_forward s at end left in (two.0, two.1)

  -- a turn that goes on
  left_on : (inside : Bool) (at n : ℕ) → Left inside s end at → turn_of inside s at ≡ On n → Left inside s end n
  left_on true at n left e = record { mid = left.mid; section = sym (section_turn_lem at (On n) e) ∙ left.section; behind = left.behind }
  left_on false at n left e = sym (text_turn_lem at (On n) e) ∙ left

  -- none that breaks
  left_whole : (inside : Bool) (at k : ℕ) → Left inside s end at → turn_of inside s at ≡ Breaks k → ⊥
  left_whole true at k left e = let was = section_turn_lem at (Breaks k) e in let one = left.section in let z : ◌≡◌ {A = ℕ} 0 1 = cc in omega arith
  left_whole false at k left e = let was = text_turn_lem at (Breaks k) e in let z : ◌≡◌ {A = ℕ} 0 1 = cc in omega arith

  left_plain : (inside : Bool) (at : ℕ) → Left inside s end at → plain (byte_at s at) ≡ true → Left inside s end (at + 1)
  left_plain true at left e = left_on true at (at + 1) left (section_plain s at e)
  left_plain false at left e = left_on false at (at + 1) left (text_plain s at e)

-- ---- a piece in the part and in the whole

module _ {s t : List ℕ} {d : ℕ} (p : Part s t d) (end : ℕ) (room : end < d + length s) where
  data Step (inside : Bool) (q i : ℕ) : Type 0 where
    silent : piece_at inside t q ≡ Silent → piece_at inside s i ≡ Silent → Step inside q i
    itself : (w : ℕ) → piece_at inside t q ≡ Itself w → piece_at inside s i ≡ Itself w → 0 < w → Left inside t end (q + w) → Step inside q i
    other : (c n : ℕ) → piece_at inside t q ≡ Other c n → piece_at inside s i ≡ Other c (n - d) → q < n → Left inside t end n → Step inside q i
    turns : (n : ℕ) → piece_at inside t q ≡ Turns n → piece_at inside s i ≡ Turns (n - d) → q < n → Left (not inside) t end n → Step inside q i

  module _ (inside : Bool) (q i : ℕ) (e : q ≡ d + i) (left : Left inside t end q) where
    before : i < length s
    before = omega (arith, left_before t end inside q left)

    -- a character, or the end of a line
    plain_step : piece_at inside t q ≡ plain_piece t q → piece_at inside s i ≡ plain_piece s i → turn_of inside t q ≡ after_character (width_at t q) q → Step inside q i
    plain_step one two turn = by_return (eqb (byte_at t q) 13) refl
      where
        byte : byte_at t q ≡ byte_at s i
        byte = byte_in p q i e before

        by_width : (w : ℕ) → width_at t q ≡ w → eqb (byte_at t q) 13 ≡ false → (b : Bool) → eqb w 0 ≡ b → turn_of inside t q ≡ cond b (Breaks q) (On (q + w)) → Step inside q i
        by_width w is odd true b turn = absurd (left_whole t end inside q q left turn)
        by_width w is odd false b turn =
            let some : 0 < w = omega (arith, eqb-false w 0 b) in
            let next = left_on t end inside q (q + w) left turn in
            let small = left_before t end inside (q + w) next in
            let alike = width_in p q i w e is some (omega arith) in
            itself w (one ∙ (rw (odd, is, b))) (two ∙ (rw (← byte, odd, alike, b))) some next

        by_feed : byte_at t q ≡ 13 → Left inside t end (q + 1) → (b : Bool) → eqb (byte_at t (q + 1)) 10 ≡ b → Step inside q i
        by_feed is next true b =
            let small = left_before t end inside (q + 1) next in
            let second = byte_in p (q + 1) (i + 1) (omega arith) (omega arith) in
            let feed : byte_at t (q + 1) ≡ 10 = eqb-true _ 10 b in
            let line = left_plain t end inside (q + 1) next (ap plain feed) in
            let place : q + 1 + 1 ≡ q + 2 = omega arith in
            let low : i + 2 ≡ q + 2 - d = omega arith in
            other 10 (q + 2) (one ∙ (rw (is, b))) (two ∙ (rw (← byte, is, ← second, b, low))) (omega arith) (rw place at line)
        by_feed is next false b =
            let small = left_before t end inside (q + 1) next in
            let second = byte_in p (q + 1) (i + 1) (omega arith) (omega arith) in
            let low : i + 1 ≡ q + 1 - d = omega arith in
            other 10 (q + 1) (one ∙ (rw (is, b))) (two ∙ (rw (← byte, is, ← second, b, low))) (omega arith) next

        by_return : (b : Bool) → eqb (byte_at t q) 13 ≡ b → Step inside q i
        by_return true b =
            let is = eqb-true (byte_at t q) 13 b in
            by_feed is (left_plain t end inside q left (ap plain is)) (eqb (byte_at t (q + 1)) 10) refl
        by_return false b = by_width (width_at t q) refl b (eqb (width_at t q) 0) refl turn

  module _ (q i : ℕ) (e : q ≡ d + i) where
    section_step : Left true t end q → Step true q i
    unfolding piece_at section_turn
    section_step left = by_test (stands t q section_end) refl
      where
        by_test : (b : Bool) → stands t q section_end ≡ b → Step true q i
        by_test true b =
            let was = section_turn_lem t end q (Ends (q + 3)) (rw b) in
            let mid : left.mid ≡ q + 3 = (let one = left.section in cc) in
            let behind : text_at t (q + 3) ≡ Ok end = rw mid at left.behind in
            let small = left_before t end false (q + 3) behind in
            let low : i + 3 ≡ q + 3 - d = omega arith in
            turns (q + 3) (rw b) (rw (← (stands_in p section_end q i e (omega arith)), b, low)) (omega arith) behind
        by_test false b = plain_step true q i e left (rw b) (rw (stands_not p section_end q i e (omega arith) b)) (rw b)

    text_step : Left false t end q → Step false q i
    unfolding piece_at text_turn
    text_step left = by_test (eqb (byte_at t q) 60) refl (eqb (byte_at t q) 38) refl
      where
        byte : byte_at t q ≡ byte_at s i
        byte = byte_in p q i e (before false q i e left)

        by_section : eqb (byte_at t q) 60 ≡ true → stands t q section_start ≡ true → (r : Reach) → section_at t (q + 9) ≡ r → Step false q i
        by_section a b (Ok m) told =
            let behind : text_at t m ≡ Ok end = sym (text_turn_lem t end q (On m) (rw (a, b, told))) ∙ left in
            let next : Left true t end (q + 9) = record { mid = m; section = told; behind = behind } in
            let small = left_before t end true (q + 9) next in
            let low : i + 9 ≡ q + 9 - d = omega arith in
            turns (q + 9) (rw (a, b)) (rw (← byte, a, ← (stands_in p section_start q i e (omega arith)), b, low)) (omega arith) next
        by_section a b (Err k) told = absurd (left_whole t end false q k left (rw (a, b, told)))

        by_start : eqb (byte_at t q) 60 ≡ true → (b : Bool) → stands t q section_start ≡ b → Step false q i
        by_start a true b = by_section a b (section_at t (q + 9)) refl
        by_start a false b = silent (rw (a, b)) (rw (← byte, a, stands_not p section_start q i e (omega arith) b))

        by_reference : eqb (byte_at t q) 60 ≡ false → eqb (byte_at t q) 38 ≡ true → (r : Option Reference) → reference_at t q ≡ r → Step false q i
        by_reference a b (Some r) told =
            let ahead = reference_forward t q r.character r.next told in
            let next = left_on t end false q r.next left (rw (a, b, told)) in
            let small = left_before t end false r.next next in
            other r.character r.next (rw (a, b, told)) (rw (← byte, a, b, reference_in p q i r.character r.next e (omega arith) (omega arith) told)) (omega arith) next
        by_reference a b None told = absurd (left_whole t end false q q left (rw (a, b, told)))

        by_end : eqb (byte_at t q) 60 ≡ false → eqb (byte_at t q) 38 ≡ false → (x : Bool) → stands t q section_end ≡ x → Step false q i
        by_end a b true x = absurd (left_whole t end false q q left (rw (a, b, x)))
        by_end a b false x = plain_step false q i e left (rw (a, b)) (rw (← byte, a, b)) (rw (a, b, x))

        by_test : (a : Bool) → eqb (byte_at t q) 60 ≡ a → (b : Bool) → eqb (byte_at t q) 38 ≡ b → Step false q i
        by_test true a b x = by_start a (stands t q section_start) refl
        by_test false a true b = by_reference a b (reference_at t q) refl
        by_test false a false b = by_end a b (stands t q section_end) refl

  step : (inside : Bool) (q i : ℕ) → q ≡ d + i → Left inside t end q → Step inside q i
  step true q i e left = section_step q i e left
  step false q i e left = text_step q i e left

  -- ---- the whole of it

  said_by_lem : (f g : ℕ) (inside : Bool) (q i : ℕ) → q ≡ d + i → Left inside t end q → end < q + f → end < d + i + g → said_by t f inside q ≡ said_by s g inside i
  unfolding said_by
  said_by_lem zero g inside q i e left h k = absurd (omega (arith, left_before t end inside q left))
  said_by_lem (suc f) zero inside q i e left h k = absurd (omega (arith, left_before t end inside q left))
  said_by_lem (suc f) (suc g) inside q i e left h k = by_step (said_by_lem f g) (step inside q i e left)
    where
      by_step : ((inside : Bool) (q i : ℕ) → q ≡ d + i → Left inside t end q → end < q + f → end < d + i + g → said_by t f inside q ≡ said_by s g inside i)
          → Step inside q i
          → saying (piece_at inside t q) inside t q (λ inside next. said_by t f inside next) ≡ saying (piece_at inside s i) inside s i (λ inside next. said_by s g inside next)
      by_step rest (silent one two) = rw (one, two)
      by_step rest (itself w one two some next) =
          let small = left_before t end inside (q + w) next in
          rw (one, two) (ap₂ (λ (a b : List ℕ). a ++ b) (part_in_lem p q i w e (omega arith)) (rest inside (q + w) (i + w) (omega arith) next (omega arith) (omega arith)))
      by_step rest (other c n one two ahead next) =
          rw (one, two) (ap (λ (l : List ℕ). encoded c ++ l) (rest inside n (n - d) (omega arith) next (omega arith) (omega arith)))
      by_step rest (turns n one two ahead next) = rw (one, two) (rest (not inside) n (n - d) (omega arith) next (omega arith) (omega arith))

-- a text says what it says
pub said_in : {s t : List ℕ} {d : ℕ} → Part s t d → (q i n : ℕ) → q ≡ d + i → text_at t q ≡ Ok n → n < d + length s → said_at t q ≡ said_at s i
unfolding said_at
said_in {s} {t} {d} p q i n e told room =
    let on = text_forward t q n told in
    said_by_lem p n room (suc (length t)) (suc (length s)) false q i e told (omega arith) (omega arith)
