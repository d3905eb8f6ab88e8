-- `reading::filling::put_child` and `reading::filling::gather`, which call each other, end: the measure falls as it does for an element and
-- its content. The loop: the messages so far, with those of what is left from place i on, are those of the whole. Assumes nothing.
use Rattle.std.proofs.Common.{◌≡◌, ◌+◌, ◌-◌, ◌*◌, length}
use Rattle.elements.specs.Grammar.{element_at}
use Rattle.reading.proofs.Gathers.{Gathering}
use Rattle.reading.proofs.filling.+gather_put_child.Given as goal

abbrev pub decreases-gather : goal.decreases-gather
decreases-gather l = 2 * l.depth + 1

abbrev pub decreases-put_child : goal.decreases-put_child
decreases-put_child l = 2 * l.depth

abbrev pub invariant-gather-loop-p : goal.invariant-gather-loop-p
invariant-gather-loop-p l =
    (length l.d ≡ length l.initial.d) × (length l.notes ≡ length l.initial.notes) × Gathering (element_at l.depth l.s) l.s l.role l.inside l.at l.i l.m l.initial.d l.d l.initial.notes l.notes

abbrev pub decreases-gather-loop-p : goal.decreases-gather-loop-p
decreases-gather-loop-p l = length l.s - l.i
