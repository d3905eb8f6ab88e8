-- The laws of pieces: each takes a byte or more, so that the bound on their count never shows. Assumes nothing.
use mathlib.Core.Path.{◌≡◌, refl, ap, ◌∙◌}
use mathlib.Core.Bool.{Bool, true, false, cond, not}
use mathlib.Core.List.{List, ◌++◌}
use Prim.Native.Nat.{ℕ, zero, suc, ◌+◌, ◌≤◌, ◌<◌}
use native.Mathlib.Omega.{arith}
use lib.Dec.{eqb}
use lib.ListN.{length}
use borrow.Author.Tests.{eqb-true, eqb-false}
use Rattle.wire.specs.Field.{part}
use Rattle.letters.specs.Places.{byte_at}
use Rattle.letters.specs.Characters.{width_at, encoded}
use Rattle.letters.specs.References.{stands, reference_at}
use Rattle.std.specs.Prelude.{Option, Some, None}
use Rattle.letters.specs.declared.Reference.{Reference}
use Rattle.letters.proofs.Scans.{byte_there}
use Rattle.letters.proofs.Characters.{width_small, width_there}
use Rattle.letters.proofs.References.{stands_there, reference_forward}
use Rattle.prose.specs.declared.Piece.{Piece}
use Rattle.prose.specs.declared.Piece.TheVariants.{Itself, Other, Turns, Silent}
use Rattle.prose.specs.Prose.{section_start, section_end, itself_of, other_of, line_end, plain_piece, piece_at, saying, said_by}

-- ---- where a piece leads on to

-- it begins in the text and ends after where it began
abbrev pub Goes : List ℕ → ℕ → Piece → Type 0
Goes s at (Itself width) = (0 < width) × (width ≤ 4) × (at + width ≤ length s)
Goes s at (Other c next) = (at < next) × (at < length s)
Goes s at (Turns next) = (at < next) × (at < length s)
Goes s at Silent = 0 ≤ 0

module _ (s : List ℕ) (at : ℕ) where
  either : (t : Bool) (x y : Piece) → (t ≡ true → Goes s at x) → (t ≡ false → Goes s at y) → Goes s at (cond t x y)
  either true x y f g = f refl
  either false x y f g = g refl

  itself_goes : (w : ℕ) → width_at s at ≡ w → Goes s at (itself_of w)
  itself_goes w e = either (eqb w 0) Silent (Itself w)
      (λ t. omega arith)
      (λ t.
      let over : 0 < w = omega (arith, eqb-false w 0 t) in
      (over, width_small s at w e, width_there s at w e over))

  other_goes : (r : Option Reference) → reference_at s at ≡ r → Goes s at (other_of r)
  other_goes (Some r) e = let on = reference_forward s at r.character r.next e in (omega arith, omega arith)
  other_goes None e = omega arith

  line_goes : at < length s → Goes s at (line_end s at)
  line_goes h = either (eqb (byte_at s (at + 1)) 10) (Other 10 (at + 2)) (Other 10 (at + 1)) (λ t. (omega arith, h)) (λ t. (omega arith, h))

  plain_goes : Goes s at (plain_piece s at)
  plain_goes = either (eqb (byte_at s at) 13) (line_end s at) (itself_of (width_at s at))
      (λ t. line_goes (byte_there s at (omega (arith, eqb-true (byte_at s at) 13 t))))
      (λ t. itself_goes (width_at s at) refl)

  piece_goes : (inside : Bool) → Goes s at (piece_at inside s at)
  unfolding piece_at
  piece_goes true = either (stands s at section_end) (Turns (at + 3)) (plain_piece s at)
      (λ t. let there = stands_there s at section_end t (omega arith) in (omega arith, omega arith))
      (λ t. plain_goes)
  piece_goes false =
      either (eqb (byte_at s at) 60) _ _
      (λ t. either (stands s at section_start) (Turns (at + 9)) Silent
      (λ u. let there = stands_there s at section_start u (omega arith) in (omega arith, omega arith))
      (λ u. omega arith))
      (λ t. either (eqb (byte_at s at) 38) _ _ (λ u. other_goes (reference_at s at) refl) (λ u. plain_goes))

  pub piece_told : (inside : Bool) (r : Piece) → piece_at inside s at ≡ r → Goes s at r
  piece_told inside r e = rw e at (piece_goes inside)

-- ---- what is said from a place on

abbrev pub said_from : List ℕ → Bool → ℕ → List ℕ
said_from s inside at = said_by s (suc (length s)) inside at

module _ (s : List ℕ) where
  -- any bound does that passes what is left
  said_any : (f g : ℕ) (inside : Bool) (at : ℕ) → length s < at + f → length s < at + g → 0 < f → 0 < g → said_by s f inside at ≡ said_by s g inside at
  unfolding said_by
  said_any zero g inside at h k p q = absurd (omega arith)
  said_any (suc f) zero inside at h k p q = absurd (omega arith)
  said_any (suc f) (suc g) inside at h k p q = by_piece (said_any f g) (piece_at inside s at) (piece_goes s at inside)
    where
      by_piece : ((inside : Bool) (at : ℕ) → length s < at + f → length s < at + g → 0 < f → 0 < g → said_by s f inside at ≡ said_by s g inside at)
          → (r : Piece) → Goes s at r → saying r inside s at (λ inside next. said_by s f inside next) ≡ saying r inside s at (λ inside next. said_by s g inside next)
      by_piece rest (Itself width) on =
          ap (λ (l : List ℕ). part s at width ++ l) (rest inside (at + width) (omega arith) (omega arith) (omega arith) (omega arith))
      by_piece rest (Other c next) on = ap (λ (l : List ℕ). encoded c ++ l) (rest inside next (omega arith) (omega arith) (omega arith) (omega arith))
      by_piece rest (Turns next) on = rest (not inside) next (omega arith) (omega arith) (omega arith) (omega arith)
      by_piece rest Silent on = refl

  pub said_piece : (inside : Bool) (at : ℕ) (r : Piece) → piece_at inside s at ≡ r → said_from s inside at ≡ saying r inside s at (λ inside next. said_from s inside next)
  unfolding said_by
  said_piece inside at r e = (rw e) ∙ by_piece r (piece_told s at inside r e)
    where
      by_piece : (r : Piece) → Goes s at r → saying r inside s at (λ inside next. said_by s (length s) inside next) ≡ saying r inside s at (λ inside next. said_from s inside next)
      by_piece (Itself width) on =
          ap (λ (l : List ℕ). part s at width ++ l) (said_any (length s) (suc (length s)) inside (at + width) (omega arith) (omega arith) (omega arith) (omega arith))
      by_piece (Other c next) on =
          ap (λ (l : List ℕ). encoded c ++ l) (said_any (length s) (suc (length s)) inside next (omega arith) (omega arith) (omega arith) (omega arith))
      by_piece (Turns next) on = said_any (length s) (suc (length s)) (not inside) next (omega arith) (omega arith) (omega arith) (omega arith)
      by_piece Silent on = refl
