-- The text of a missing field may be read at the end, where nothing is said. Assumes nothing.
use mathlib.Core.Path.{◌≡◌, refl}
use mathlib.Core.Bool.{false}
use mathlib.Core.List.{List, []}
use Prim.Native.Nat.{ℕ}
use native.Mathlib.Omega.{arith}
use lib.ListN.{length}
use Rattle.prose.specs.Prose.{piece_at, said_at, said_by}
use Rattle.prose.specs.declared.Piece.{Piece}
use Rattle.prose.specs.declared.Piece.TheVariants.{Itself, Other, Turns, Silent}
use Rattle.prose.proofs.Pieces.{Goes, piece_told}

-- a piece that goes on begins in the text
silent : (s : List ℕ) (p : Piece) → Goes s (length s) p → p ≡ Silent
silent s (Itself width) h = absurd (omega arith)
silent s (Other c next) h = absurd (omega arith)
silent s (Turns next) h = absurd (omega arith)
silent s Silent h = refl

pub said_past : (s : List ℕ) → said_at s (length s) ≡ []
unfolding said_at said_by
said_past s = rw (silent s (piece_at false s (length s)) (piece_told s (length s) false _ refl))
