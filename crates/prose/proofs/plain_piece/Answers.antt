-- `prose::plain_piece` meets its contract: each piece is that of the way that led to it. Assumes nothing.
use mathlib.Core.Path.{◌≡◌, sym, ◌∙◌}
use Prim.Native.Nat.{◌+◌}
use native.Mathlib.Omega.{arith}
use borrow.Author.Tests.{eq-eqb, ne_eqb}
use Rattle.letters.specs.Places.{byte_at}
use Rattle.letters.proofs.Scans.{byte_there}
use Rattle.prose.proofs.plain_piece.Goals as goal

pub returns-then-width-eq0 : goal.returns-then-width-eq0
returns-then-width-eq0 c = rw (← c.byte_at.ensures, ne_eqb c.byte_at.result 13 c.if-byte_at-ne13.true, ← c.width_at-width.ensures, eq-eqb c.width_at-width.result 0 c.if-width-eq0.true)

pub returns-then-byte_at-ne13 : goal.returns-then-byte_at-ne13
returns-then-byte_at-ne13 c = rw (← c.byte_at.ensures, ne_eqb c.byte_at.result 13 c.if-byte_at-ne13.true, ← c.width_at-width.ensures, ne_eqb c.width_at-width.result 0 c.if-width-eq0.false)

pub overflow_add-at : goal.overflow_add-at
overflow_add-at c =
    let here : byte_at c.args.s.now c.args.at ≡ 13 = sym c.byte_at.ensures ∙ c.if-byte_at-ne13.false in
    omega (arith, byte_there c.args.s.now c.args.at (omega arith))

pub overflow_add-result : goal.overflow_add-result
overflow_add-result c =
    let next : byte_at c.args.s.now (c.args.at + 1) ≡ 10 = sym c.byte_at-2.ensures ∙ c.if-byte_at-eq10.true in
    omega (arith, byte_there c.args.s.now (c.args.at + 1) (omega arith))

pub overflow_add-result-else-byte_at-eq10 : goal.overflow_add-result-else-byte_at-eq10
overflow_add-result-else-byte_at-eq10 c =
    let here : byte_at c.args.s.now c.args.at ≡ 13 = sym c.byte_at.ensures ∙ c.if-byte_at-ne13.false in
    omega (arith, byte_there c.args.s.now c.args.at (omega arith))

pub returns-then-byte_at-eq10 : goal.returns-then-byte_at-eq10
returns-then-byte_at-eq10 c = rw (← c.byte_at.ensures, eq-eqb c.byte_at.result 13 c.if-byte_at-ne13.false, ← c.byte_at-2.ensures, eq-eqb c.byte_at-2.result 10 c.if-byte_at-eq10.true)

pub returns-else-byte_at-eq10 : goal.returns-else-byte_at-eq10
returns-else-byte_at-eq10 c = rw (← c.byte_at.ensures, eq-eqb c.byte_at.result 13 c.if-byte_at-ne13.false, ← c.byte_at-2.ensures, ne_eqb c.byte_at-2.result 10 c.if-byte_at-eq10.false)
