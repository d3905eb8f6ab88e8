-- `prose::starts_section` meets its contract: a word that stands begins with its first two bytes. Assumes nothing.
use mathlib.Core.Path.{◌≡◌, sym, ◌∙◌}
use native.Mathlib.Omega.{arith}
use Rattle.wire.specs.Field.{text}
use Rattle.letters.specs.Places.{byte_at}
use Rattle.letters.proofs.Scans.{byte_there}
use Rattle.letters.proofs.References.{stands_differs}
use Rattle.prose.proofs.Turns.{no_start}
use Rattle.prose.proofs.starts_section.Goals as goal

pub returns-then-byte_at-ne60 : goal.returns-then-byte_at-ne60
returns-then-byte_at-ne60 c =
    let args = c.args in
    sym (stands_differs args.s.now args.at 60 (text "![CDATA[") (λ e. c.if-byte_at-ne60.true (c.byte_at.ensures ∙ e)))

pub overflow_add-at : goal.overflow_add-at
overflow_add-at c =
    let args = c.args in
    let sign : byte_at args.s.now args.at ≡ 60 = sym c.byte_at.ensures ∙ c.if-byte_at-ne60.false in
    omega (arith, byte_there args.s.now args.at (omega arith))

pub returns-then-byte_at-ne33 : goal.returns-then-byte_at-ne33
returns-then-byte_at-ne33 c =
    let args = c.args in
    sym (no_start args.s.now args.at (λ e. c.if-byte_at-ne33.true (c.byte_at-2.ensures ∙ e)))
