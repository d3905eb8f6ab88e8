-- The text of an element: characters, references and CDATA sections; where it ends, and what it says. Assumes nothing.
use Rattle.std.specs.Prelude.{ℕ, zero, suc, ◌+◌, min, ◌≡◌, Bool, true, false, cond, not, List, [], ◌++◌, length, take, replicate, eqb, Option, Some, None}
use Rattle.wire.specs.Field.{text, part}
use Rattle.letters.specs.Places.{byte_at, run_end, going, walk, Reach}
use Rattle.letters.specs.Characters.{width_at, encoded}
use Rattle.letters.specs.References.{stands, reference_at}
use Rattle.letters.specs.declared.Turn.{Turn}
use Rattle.letters.specs.declared.Turn.TheVariants.{On, Ends, Breaks}
use Rattle.letters.specs.declared.Reference.{Reference}
use Rattle.prose.specs.declared.Piece.{Piece}
use Rattle.prose.specs.declared.Piece.TheVariants.{Itself, Other, Turns, Silent}
use Rattle.prose.specs.Plain.{plain}
use Rattle.tags.specs.Attributes.{after_reference, after_character}

abbrev pub section_start : List ℕ
section_start = text "<![CDATA["

abbrev pub section_end : List ℕ
section_end = text "]]>"

-- ---- where a text ends

-- a turn that goes on goes over the plain bytes after it too
abbrev pub past_plain : List ℕ → Turn → Turn
past_plain s (On next) = On (run_end plain s next)
past_plain s (Ends e) = Ends e
past_plain s (Breaks p) = Breaks p

-- in a section: its end, or a character more
unfoldable pub section_turn : List ℕ → ℕ → Turn
section_turn s at = cond (stands s at section_end) (Ends (at + 3)) (after_character (width_at s at) at)

-- what follows the start of a section, with its end
unfoldable pub section_at : List ℕ → ℕ → Reach
section_at s at = walk (section_turn s) s at

-- at '<' a section or the end of the text; at '&' a reference; a section's end may not stand here; else a character
unfoldable pub text_turn : List ℕ → ℕ → Turn
text_turn s at =
    cond (eqb (byte_at s at) 60) (cond (stands s at section_start) (going (section_at s (at + 9))) (Ends at))
    (cond (eqb (byte_at s at) 38) (after_reference (reference_at s at) at)
    (cond (stands s at section_end) (Breaks at)
    (after_character (width_at s at) at)))

-- the '<' that ends the text which begins here, or where its form is broken
unfoldable pub text_at : List ℕ → ℕ → Reach
text_at s at = walk (text_turn s) s at

-- ---- what a text says

-- a Piece of it: so many bytes that stand for themselves, or one character that is written otherwise; the start or the end of a section,
-- which say nothing; or none

abbrev pub itself_of : ℕ → Piece
itself_of width = cond (eqb width 0) Silent (Itself width)

abbrev pub other_of : Option Reference → Piece
other_of (Some r) = Other r.character r.next
other_of None = Silent

-- a carriage return, with the line feed after it if there is one, says a line feed
abbrev pub line_end : List ℕ → ℕ → Piece
line_end s at = cond (eqb (byte_at s (at + 1)) 10) (Other 10 (at + 2)) (Other 10 (at + 1))

abbrev pub plain_piece : List ℕ → ℕ → Piece
plain_piece s at = cond (eqb (byte_at s at) 13) (line_end s at) (itself_of (width_at s at))

-- in a section, and outside one
unfoldable pub piece_at : Bool → List ℕ → ℕ → Piece
piece_at true s at = cond (stands s at section_end) (Turns (at + 3)) (plain_piece s at)
piece_at false s at =
    cond (eqb (byte_at s at) 60) (cond (stands s at section_start) (Turns (at + 9)) Silent)
    (cond (eqb (byte_at s at) 38) (other_of (reference_at s at))
    (plain_piece s at))

-- what it says, and then what the rest does
abbrev pub saying : Piece → Bool → List ℕ → ℕ → (Bool → ℕ → List ℕ) → List ℕ
saying (Itself width) inside s at rest = part s at width ++ rest inside (at + width)
saying (Other c next) inside s at rest = encoded c ++ rest inside next
saying (Turns next) inside s at rest = rest (not inside) next
saying Silent inside s at rest = []

-- at most n pieces
unfoldable pub said_by : List ℕ → ℕ → Bool → ℕ → List ℕ
said_by s zero inside at = []
said_by s (suc n) inside at = saying (piece_at inside s at) inside s at (λ inside next. said_by s n inside next)

-- each takes a byte or more
unfoldable pub said_at : List ℕ → ℕ → List ℕ
said_at s at = said_by s (suc (length s)) false at

-- ---- what is kept of it

-- as many bytes as the widest field of the sheet has
abbrev pub most_kept : ℕ
most_kept = 35

-- what a text says, filled up with spaces or cut to what is kept; and how long it is, where it is not longer than that
pub record Kept (t kept : List ℕ) (long : ℕ) : Type 0 where
  pub bytes : kept ≡ take most_kept (t ++ replicate most_kept 32)
  pub size : long ≡ min (length t) (suc most_kept)
