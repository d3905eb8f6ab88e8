-- `prose::text_turn` meets its contract: each turn is that of the way that led to it. Assumes nothing.
use mathlib.Core.Path.{sym, ◌∙◌}
use native.Mathlib.Omega.{arith}
use borrow.Author.Tests.{eq-eqb, ne_eqb}
use Rattle.letters.proofs.References.{stands_there}
use Rattle.prose.specs.Prose.{section_start, text_turn}
use Rattle.prose.proofs.text_turn.Goals as goal

pub returns-then-not-starts_section : goal.returns-then-not-starts_section
unfolding text_turn
returns-then-not-starts_section c =
    let byte = c.byte_at-b in
    rw (← byte.ensures, eq-eqb byte.result 60 c.if-b-eq60.true, sym c.starts_section.ensures ∙ c.if-not-starts_section.true)

pub overflow_add-at : goal.overflow_add-at
overflow_add-at c =
    let args = c.args in
    omega (arith, stands_there args.s.now args.at section_start (sym c.starts_section.ensures ∙ c.if-not-starts_section.false) (omega arith))

pub returns-in-Ok : goal.returns-in-Ok
unfolding text_turn
returns-in-Ok c =
    let byte = c.byte_at-b in
    let starts = sym c.starts_section.ensures ∙ c.if-not-starts_section.false in
    rw (← byte.ensures, eq-eqb byte.result 60 c.if-b-eq60.true, starts, ← c.section_end.ensures, c.in-Ok.is)

pub returns-in-Err : goal.returns-in-Err
unfolding text_turn
returns-in-Err c =
    let byte = c.byte_at-b in
    let starts = sym c.starts_section.ensures ∙ c.if-not-starts_section.false in
    rw (← byte.ensures, eq-eqb byte.result 60 c.if-b-eq60.true, starts, ← c.section_end.ensures, c.in-Err.is)

pub returns-then-b-eq38 : goal.returns-then-b-eq38
unfolding text_turn
returns-then-b-eq38 c =
    let byte = c.byte_at-b in
    rw (← byte.ensures, ne_eqb byte.result 60 c.if-b-eq60.false, eq-eqb byte.result 38 c.if-b-eq38.true) c.after_reference.ensures

pub returns-then-ends_section : goal.returns-then-ends_section
unfolding text_turn
returns-then-ends_section c =
    let byte = c.byte_at-b in
    rw (← byte.ensures, ne_eqb byte.result 60 c.if-b-eq60.false, ne_eqb byte.result 38 c.if-b-eq38.false, sym c.ends_section.ensures ∙ c.if-ends_section.true)

pub returns : goal.returns
unfolding text_turn
returns c =
    let byte = c.byte_at-b in
    rw (← byte.ensures, ne_eqb byte.result 60 c.if-b-eq60.false, ne_eqb byte.result 38 c.if-b-eq38.false, sym c.ends_section.ensures ∙ c.if-ends_section.false) c.after_character.ensures
