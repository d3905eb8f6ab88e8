-- The laws of places in a report that may end early. Assumes nothing.
use mathlib.Core.Path.{◌≡◌, sym, ◌∙◌}
use mathlib.Core.Logic.{⊎_elim}
use mathlib.Core.List.{List}
use Prim.Native.Nat.{ℕ, ◌+◌, ◌*◌, ◌≤◌, ◌<◌, min}
use native.Mathlib.Omega.{arith}
use lib.ListN.{length, drop, drop_of_length-le}
use lib.Seq.{drop-drop}
use Rattle.wire.specs.Field.{number_at}
use Rattle.wire.proofs.Sides.{le_or_lt}
use Rattle.report.specs.Line.{count_width, message_line_width}
use Rattle.sections.specs.Layout.{later_sections}

drop_clipped : (s : List ℕ) (at : ℕ) → drop (min at (length s)) s ≡ drop at s
drop_clipped s at = ⊎_elim
    (λ (h : at ≤ length s). let same : min at (length s) ≡ at = omega arith in rw same)
    (λ (h : length s < at).
    let end : min at (length s) ≡ length s = omega arith in
    let past : length s ≤ at = omega arith in
    rw end (drop_of_length-le s {i = length s} (omega arith) ∙ sym (drop_of_length-le s past)))
    (le_or_lt at (length s))

-- the place after a section, no further than the end
pub section_after : (report : List ℕ) (place n next : ℕ) → n ≡ number_at report place count_width
    → next ≡ min (place + (count_width + message_line_width * n)) (length report) → drop next report ≡ later_sections (drop place report)
section_after report place n next is e =
    rw (e, is)
    (drop_clipped report (place + (count_width + message_line_width * number_at report place count_width))
    ∙ sym (drop-drop (count_width + message_line_width * number_at report place count_width) place report))
