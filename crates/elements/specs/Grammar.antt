-- The grammar of elements: what stands at a place and plays a role, within so many others. Assumes nothing.
--   element := start tag, content, end tag | empty tag
--   content := text (element text)*
use Rattle.std.specs.Prelude.{ℕ, zero, suc, ◌+◌, Bool, true, false, cond, not, ◌||◌, List, [], length, eqb, ltb, Ok, Err, Result}
use Rattle.letters.specs.Places.{byte_at, Reach}
use Rattle.tags.specs.Names.{name_start, name_end, name_at}
use Rattle.tags.specs.Attributes.{euros}
use Rattle.tags.specs.Tags.{start_at, end_at}
use Rattle.tags.specs.declared.Tag.{Tag}
use Rattle.tags.specs.declared.Tag.TheVariants.{Open, Empty}
use Rattle.prose.specs.Prose.{text_at, said_at}
use Rattle.paths.specs.Roles as roles
use Rattle.paths.specs.Table.{child_role}
use Rattle.fields.specs.Fields.{fits}
use Rattle.elements.specs.Forest.{Forest, none, tree, beside}

-- read up to a place, with the needed elements in it; not of the form, or too deep, at a place
pub data Parsed : Type 0 where
  read : ℕ → Forest → Parsed
  broken : ℕ → Parsed
  deep : ℕ → Parsed

abbrev pub on_read : Parsed → (ℕ → Forest → Parsed) → Parsed
on_read (read n f) k = k n f
on_read (broken p) k = broken p
on_read (deep p) k = deep p

abbrev pub on_reached : Reach → (ℕ → Parsed) → Parsed
on_reached (Ok n) k = k n
on_reached (Err p) k = broken p

-- go on where the test holds; else it is broken at the place
abbrev pub provided : Bool → ℕ → (Unit {0} → Parsed) → Parsed
provided true p k = k tt
provided false p k = broken p

-- ---- fields

-- an amount's tag, whose attributes stand between two places, says euros
abbrev pub in_euros : ℕ → List ℕ → ℕ → ℕ → Bool
in_euros role s from end = not (roles.is_amount role) || euros s from end

-- a field's text and end tag
unfoldable pub filled_field : ℕ → List ℕ → ℕ → ℕ → Parsed
filled_field role s at inside =
    on_reached (text_at s inside) (λ e.
    provided (fits role (said_at s inside)) e (λ u.
    on_reached (end_at s at e) (λ n.
    read n (tree role inside none none))))

-- a field's element that begins at a place, after its start tag
unfoldable pub field_at : ℕ → List ℕ → ℕ → Result Tag ℕ → Parsed
field_at role s at (Ok (Open end inside)) = provided (in_euros role s (name_end s (at + 1)) end) end (λ u. filled_field role s at inside)
field_at role s at (Ok (Empty end next)) =
    provided (in_euros role s (name_end s (at + 1)) end) end (λ u.
    provided (fits role []) end (λ u.
    read next (tree role at none none)))
field_at role s at (Err p) = broken p

-- ---- groups

-- a group is noted, and what is stepped over is not
abbrev pub whole : ℕ → ℕ → Forest → Forest
whole role at f = cond (eqb role roles.other) none (tree role at f none)

-- with any way to read an element of a role at a place: at most n times text and an element, then text
unfoldable pub items_by : (ℕ → ℕ → Parsed) → ℕ → List ℕ → ℕ → ℕ → Parsed
items_by element role s zero at = broken at
items_by element role s (suc n) at =
    on_reached (text_at s at) (λ i.
    cond (eqb (byte_at s (i + 1)) 47) (read i none)
    (on_read (element (child_role role (name_at s (i + 1))) i) (λ next f.
    on_read (items_by element role s n next) (λ e g.
    read e (beside f g)))))

-- each element takes a byte or more, so that there are no more of them than bytes
unfoldable pub content_by : (ℕ → ℕ → Parsed) → ℕ → List ℕ → ℕ → Parsed
content_by element role s at = items_by element role s (suc (length s)) at

-- a group's element that begins at a place, after its start tag
abbrev pub group_at : (ℕ → ℕ → Parsed) → ℕ → List ℕ → ℕ → Result Tag ℕ → Parsed
group_at element role s at (Ok (Open end inside)) =
    on_read (content_by element role s inside) (λ e f.
    on_reached (end_at s at e) (λ n.
    read n (whole role at f)))
group_at element role s at (Ok (Empty end next)) = read next (whole role at none)
group_at element role s at (Err p) = broken p

-- ---- elements

-- an element that plays a role, with so many levels left for it and what it holds
unfoldable pub element_at : ℕ → List ℕ → ℕ → ℕ → Parsed
element_at zero s role at = cond (ltb at (length s)) (cond (name_start (byte_at s (at + 1))) (deep at) (broken (at + 1))) (broken at)
element_at (suc depth) s role at =
    cond (roles.is_field role) (field_at role s at (start_at s at))
    (group_at (element_at depth s) role s at (start_at s at))

abbrev pub content_at : ℕ → List ℕ → ℕ → ℕ → Parsed
content_at depth s role at = content_by (element_at depth s) role s at
