-- `elements::read_element` meets its contract. Assumes nothing.
use mathlib.Core.Path.{refl, sym, ap, ◌∙◌}
use Prim.Native.Nat.{ℕ}
use Rattle.std.specs.Prelude.{is_err, replicate}
use Rattle.elements.specs.Grammar.{element_at}
use Rattle.elements.proofs.Steps.{err_notes, ok_notes}
use Rattle.elements.proofs.Elements.{element_past}
use Rattle.elements.proofs.read_element.Goals as goal

pub returns-then-s-at : goal.returns-then-s-at
returns-then-s-at c = rw (element_past c.args.depth c.args.s.now c.args.role c.args.at c.if-s-at.true) record { step = refl; notes = c.clear.ensures }

pub returns-then-is_err-clause-notes : goal.returns-then-is_err-clause-notes
returns-then-is_err-clause-notes c =
    let a = c.args in
    let step = rw (c.new.ensures.text_kept, c.new.ensures.at_kept) at c.element-read.ensures.step in
    let fails = ap is_err (sym step) ∙ sym c.is_err.ensures.value ∙ c.if-is_err.true in
    err_notes (element_at a.depth a.s.now a.role a.at) a.notes.now _ fails (c.clear-then-is_err.ensures ∙ ap (λ (n : ℕ). replicate n 0) c.element-read.auto.notes)

pub returns-else-is_err-clause-notes : goal.returns-else-is_err-clause-notes
returns-else-is_err-clause-notes c =
    let a = c.args in
    let step = rw (c.new.ensures.text_kept, c.new.ensures.at_kept) at c.element-read.ensures.step in
    let noted = rw (c.new.ensures.text_kept, c.new.ensures.at_kept) at c.element-read.ensures.notes in
    let reads = ap is_err (sym step) ∙ sym c.is_err.ensures.value ∙ c.if-is_err.false in
    ok_notes (element_at a.depth a.s.now a.role a.at) a.notes.now _ reads noted
