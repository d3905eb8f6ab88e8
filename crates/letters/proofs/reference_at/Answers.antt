-- `letters::reference_at` meets its contract: each answer is that of the way that led to it. Assumes nothing.
use mathlib.Core.Path.{sym, ◌∙◌}
use native.Mathlib.Omega.{arith}
use Rattle.wire.specs.Field.{text}
use Rattle.letters.proofs.References.{stands_there}
use Rattle.letters.proofs.reference_at.Goals as goal

pub overflow_add-at : goal.overflow_add-at
overflow_add-at c = omega (arith, stands_there c.args.s.now c.args.at (text "&lt;") (sym c.stands_at.ensures ∙ c.if-stands_at.true) (omega arith))

pub overflow_add-at-then-stands_at-2 : goal.overflow_add-at-then-stands_at-2
overflow_add-at-then-stands_at-2 c = omega (arith, stands_there c.args.s.now c.args.at (text "&gt;") (sym c.stands_at-2.ensures ∙ c.if-stands_at-2.true) (omega arith))

pub overflow_add-at-then-stands_at-3 : goal.overflow_add-at-then-stands_at-3
overflow_add-at-then-stands_at-3 c = omega (arith, stands_there c.args.s.now c.args.at (text "&amp;") (sym c.stands_at-3.ensures ∙ c.if-stands_at-3.true) (omega arith))

pub overflow_add-at-then-stands_at-4 : goal.overflow_add-at-then-stands_at-4
overflow_add-at-then-stands_at-4 c = omega (arith, stands_there c.args.s.now c.args.at (text "&apos;") (sym c.stands_at-4.ensures ∙ c.if-stands_at-4.true) (omega arith))

pub overflow_add-at-then-stands_at-5 : goal.overflow_add-at-then-stands_at-5
overflow_add-at-then-stands_at-5 c = omega (arith, stands_there c.args.s.now c.args.at (text "&quot;") (sym c.stands_at-5.ensures ∙ c.if-stands_at-5.true) (omega arith))

pub overflow_add-at-then-stands_at-6 : goal.overflow_add-at-then-stands_at-6
overflow_add-at-then-stands_at-6 c = omega (arith, stands_there c.args.s.now c.args.at (text "&#x") (sym c.stands_at-6.ensures ∙ c.if-stands_at-6.true) (omega arith))

pub overflow_add-at-then-stands_at-7 : goal.overflow_add-at-then-stands_at-7
overflow_add-at-then-stands_at-7 c = omega (arith, stands_there c.args.s.now c.args.at (text "&#") (sym c.stands_at-7.ensures ∙ c.if-stands_at-7.true) (omega arith))
