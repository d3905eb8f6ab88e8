-- `sections::layout::next_section` meets its contract. Assumes nothing.
use mathlib.Core.Path.{ap, ◌∙◌}
use Prim.Native.Nat.{ℕ, ◌+◌, min}
use lib.ListN.{length}
use Rattle.sections.proofs.Places.{section_after}
use Rattle.sections.proofs.layout.next_section.Goals as goal

pub returns : goal.returns
returns c =
    let a = c.args in
    section_after a.report.now a.place c.u32_at-count.result c.place_after.result c.u32_at-count.ensures
    (c.place_after.ensures ∙ ap (λ (n : ℕ). min (a.place + n) (length a.report.now)) c.section_width.ensures)
