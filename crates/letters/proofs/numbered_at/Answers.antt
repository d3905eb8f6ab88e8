-- `letters::numbered_at` meets its contract: each answer is that of the way that led to it. Assumes nothing.
use mathlib.Core.Path.{◌≡◌, sym, ◌∙◌}
use native.Mathlib.Omega.{arith}
use Rattle.letters.specs.Places.{byte_at}
use Rattle.letters.proofs.Scans.{byte_there}
use Rattle.letters.proofs.References.{numbered_empty, numbered_open, numbered_other, numbered_stands}
use Rattle.letters.proofs.numbered_at.Goals as goal

pub returns-then-to-from : goal.returns-then-to-from
returns-then-to-from c = numbered_empty c.args.base _ _ _ c.run_end-to.ensures c.if-to-from.true

pub returns-then-byte_at-ne59 : goal.returns-then-byte_at-ne59
returns-then-byte_at-ne59 c = numbered_open c.args.base _ _ _ c.run_end-to.ensures c.if-to-from.false (λ h. c.if-byte_at-ne59.true (c.byte_at.ensures ∙ h))

pub overflow_add-to : goal.overflow_add-to
overflow_add-to c =
    let here : byte_at c.args.s.now c.run_end-to.result ≡ 59 = sym c.byte_at.ensures ∙ c.if-byte_at-ne59.false in
    omega (arith, byte_there c.args.s.now c.run_end-to.result (omega arith))

pub returns-then-is_character : goal.returns-then-is_character
returns-then-is_character c = c.refers.ensures ∙ numbered_stands c.args.base _ _ _ c.run_end-to.ensures c.if-to-from.false (sym c.byte_at.ensures ∙ c.if-byte_at-ne59.false) _ (rw c.text_at.ensures at c.numeral-c.ensures) (sym c.is_character.ensures ∙ c.if-is_character.true)

pub returns-else-is_character : goal.returns-else-is_character
returns-else-is_character c = numbered_other c.args.base _ _ _ c.run_end-to.ensures c.if-to-from.false (sym c.byte_at.ensures ∙ c.if-byte_at-ne59.false) _ (rw c.text_at.ensures at c.numeral-c.ensures) (sym c.is_character.ensures ∙ c.if-is_character.false)
