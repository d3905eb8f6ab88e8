-- `prose::ends_section` meets its contract: a word that stands begins with its first byte. Assumes nothing.
use mathlib.Core.Path.{sym, ◌∙◌}
use Rattle.wire.specs.Field.{text}
use Rattle.letters.proofs.References.{stands_differs}
use Rattle.prose.proofs.ends_section.Goals as goal

pub returns-then-byte_at-ne93 : goal.returns-then-byte_at-ne93
returns-then-byte_at-ne93 c =
    let args = c.args in
    sym (stands_differs args.s.now args.at 93 (text "]>") (λ e. c.if-byte_at-ne93.true (c.byte_at.ensures ∙ e)))
