-- `prose::section_turn` meets its contract: the end of the section, or a character more. Assumes nothing.
use mathlib.Core.Path.{sym, ◌∙◌}
use native.Mathlib.Omega.{arith}
use Rattle.prose.specs.Prose.{section_end, section_turn}
use Rattle.letters.proofs.References.{stands_there}
use Rattle.prose.proofs.section_turn.Goals as goal

pub overflow_add-result : goal.overflow_add-result
overflow_add-result c =
    let args = c.args in
    omega (arith, stands_there args.s.now args.at section_end (sym c.ends_section.ensures ∙ c.if-ends_section.true) (omega arith))

pub returns-then-ends_section : goal.returns-then-ends_section
unfolding section_turn
returns-then-ends_section c = rw (sym c.ends_section.ensures ∙ c.if-ends_section.true)

pub returns : goal.returns
unfolding section_turn
returns c = rw (sym c.ends_section.ensures ∙ c.if-ends_section.false) c.after_character.ensures
