-- `elements::element` and `elements::content`, which call each other, end: an element with d levels left calls a content with d - 1, and a
-- content with d an element with d: twice the levels, and one more for a content, falls with each call.
-- The loop of a content: what was read, with what is left from place i on, comes to the whole (`Reading`). Assumes nothing.
use Rattle.std.proofs.Common.{◌≡◌, ◌+◌, ◌-◌, ◌*◌, length}
use Rattle.elements.specs.Grammar.{element_at}
use Rattle.elements.proofs.Contents.{Reading}
use Rattle.elements.proofs.+content_element.Given as goal

abbrev pub decreases-element : goal.decreases-element
decreases-element l = 2 * l.depth

abbrev pub decreases-content : goal.decreases-content
decreases-content l = 2 * l.depth + 1

abbrev pub invariant-content-loop-j : goal.invariant-content-loop-j
invariant-content-loop-j l =
    (length l.notes ≡ length l.initial.notes) × Reading (element_at l.depth l.s) l.s l.role l.at l.i l.initial.notes l.notes l.counts

abbrev pub decreases-content-loop-j : goal.decreases-content-loop-j
decreases-content-loop-j l = length l.s - l.i
