-- The text as a whole: documents one after the other. Assumes nothing.
use Rattle.std.specs.Prelude.{ℕ, zero, suc, ◌+◌, cond, List, length, ltb, eqb}
use Rattle.letters.specs.Places.{byte_at}
use Rattle.tags.specs.Names.{space_end, name_at}
use Rattle.prolog.specs.Prolog.{prolog}
use Rattle.paths.specs.Table.{root_role}
use Rattle.elements.specs.Forest.{none, beside}
use Rattle.elements.specs.Grammar.{Parsed, read, broken, on_read, on_reached, element_at}

-- how many levels of elements there may be
abbrev pub levels : ℕ
levels = 32

-- ---- the documents

-- one document
abbrev pub document_at : List ℕ → ℕ → Parsed
document_at s at = element_at levels s (root_role (name_at s (at + 1))) at

-- at most n of them, with spaces behind each
unfoldable pub roots_by : List ℕ → ℕ → ℕ → Parsed
roots_by s zero at = broken at
roots_by s (suc n) at =
    cond (ltb at (length s))
    (cond (eqb (byte_at s at) 60)
    (on_read (document_at s at) (λ next f.
    on_read (roots_by s n (space_end s next)) (λ e g.
    read e (beside f g))))
    (broken at))
    (read at none)

-- each takes a byte or more
unfoldable pub roots_at : List ℕ → ℕ → Parsed
roots_at s at = roots_by s (suc (length s)) at

-- one document or more, from a place on
abbrev pub some_roots : List ℕ → ℕ → Parsed
some_roots s at = cond (ltb at (length s)) (roots_at s at) (broken at)

unfoldable pub parsed : List ℕ → Parsed
parsed s = on_reached (prolog s) (λ at. some_roots s at)
