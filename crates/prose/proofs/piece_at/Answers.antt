-- `prose::piece_at` meets its contract: each piece is that of the way that led to it. Assumes nothing.
use mathlib.Core.Path.{sym, ◌∙◌}
use native.Mathlib.Omega.{arith}
use borrow.Author.Tests.{eq-eqb, ne_eqb}
use Rattle.letters.proofs.References.{stands_there}
use Rattle.prose.specs.Prose.{section_start, section_end, piece_at}
use Rattle.prose.proofs.piece_at.Goals as goal

pub overflow_add-result : goal.overflow_add-result
overflow_add-result c =
    let args = c.args in
    omega (arith, stands_there args.s.now args.at section_end (sym c.ends_section.ensures ∙ c.if-ends_section.true) (omega arith))

pub returns-then-ends_section : goal.returns-then-ends_section
unfolding piece_at
returns-then-ends_section c = rw (c.if-inside.true, sym c.ends_section.ensures ∙ c.if-ends_section.true)

pub returns-then-inside : goal.returns-then-inside
unfolding piece_at
returns-then-inside c = rw (c.if-inside.true, sym c.ends_section.ensures ∙ c.if-ends_section.false) c.plain_piece.ensures

pub overflow_add-result-then-starts_section : goal.overflow_add-result-then-starts_section
overflow_add-result-then-starts_section c =
    let args = c.args in
    omega (arith, stands_there args.s.now args.at section_start (sym c.starts_section.ensures ∙ c.if-starts_section.true) (omega arith))

pub returns-then-starts_section : goal.returns-then-starts_section
unfolding piece_at
returns-then-starts_section c =
    let byte = c.byte_at-b in
    rw (c.if-inside.false, ← byte.ensures, eq-eqb byte.result 60 c.if-b-eq60.true, sym c.starts_section.ensures ∙ c.if-starts_section.true)

pub returns-then-b-eq60 : goal.returns-then-b-eq60
unfolding piece_at
returns-then-b-eq60 c =
    let byte = c.byte_at-b in
    rw (c.if-inside.false, ← byte.ensures, eq-eqb byte.result 60 c.if-b-eq60.true, sym c.starts_section.ensures ∙ c.if-starts_section.false)

pub returns-then-b-eq38 : goal.returns-then-b-eq38
unfolding piece_at
returns-then-b-eq38 c =
    let byte = c.byte_at-b in
    rw (c.if-inside.false, ← byte.ensures, ne_eqb byte.result 60 c.if-b-eq60.false, eq-eqb byte.result 38 c.if-b-eq38.true, ← c.reference_at.ensures) c.other_of.ensures

pub returns : goal.returns
unfolding piece_at
returns c =
    let byte = c.byte_at-b in
    rw (c.if-inside.false, ne_eqb _ 60 (λ h. c.if-b-eq60.false (byte.ensures ∙ h)), ne_eqb _ 38 (λ h. c.if-b-eq38.false (byte.ensures ∙ h))) c.plain_piece-2.ensures
