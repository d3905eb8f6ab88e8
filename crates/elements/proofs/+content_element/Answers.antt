-- `elements::element` and `elements::content`, which call each other, meet their contracts. An element with d levels left calls a content
-- with d - 1, and a content with d an element with d: twice the levels, and one more for a content, falls with each call.
-- The loop of a content: what was read, with what is left from place i on, comes to the whole (`Reading`). Assumes nothing.
use mathlib.Core.Path.{refl, sym, ap, ◌∙◌}
use Prim.Native.Nat.{◌-◌}
use native.Mathlib.Omega.{arith}
use lib.ListN.{length}
use borrow.Author.Rules.{rules}
use Rattle.std.proofs.lemmas.Result.{err_from_is_err_and}
use Rattle.std.specs.Prelude.{Ok}
use Rattle.tags.specs.Tags.{start_at}
use Rattle.prose.specs.Prose.{text_at}
use Rattle.prose.proofs.Turns.{text_forward}
use Rattle.elements.specs.Grammar.{element_at, content_at}
use Rattle.elements.proofs.Forests.{noted_length}
use Rattle.elements.proofs.Forward.{element_told, element_onward}
use Rattle.elements.proofs.Steps.{done_read, read_noted, err_stopped, stopped_step, stopped_noted, stopped_noted_in, ok_formed, err_broken}
use Rattle.elements.proofs.Contents.{counted_lacks, reading_starts, reading_broken, reading_ends, child_stopped, child_read}
use Rattle.elements.proofs.Elements.{over_noted, element_flat, element_flat_noted, element_field, element_group, group_closed, group_closed_noted, group_stopped, group_empty, group_faulty, bare_noted}
use Rattle.elements.proofs.+content_element.Goals as goal

pub content-loop-j-init : goal.content-loop-j-init
content-loop-j-init t c = (refl, reading_starts (element_at c.args.depth c.args.s.now) c.args.s.now c.args.role c.args.at c.args.notes.now)

pub content-element-requires : goal.content-element-requires
content-element-requires t c = (omega (arith, c.decreases), tt)

pub element-returns-then-role-eq-OTHER : goal.element-returns-then-role-eq-OTHER
element-returns-then-role-eq-OTHER t c = record { step = c.skip.ensures ∙ (rw c.if-role-eq-OTHER.true); notes = over_noted c.args.depth c.args.begun.now.text.now c.args.role c.args.begun.now.at c.args.notes.now c.if-role-eq-OTHER.true }

pub element-returns-then-depth-eq0 : goal.element-returns-then-depth-eq0
element-returns-then-depth-eq0 t c = record { step = c.too_deep.ensures ∙ element_flat c.args.begun.now.text.now c.args.role c.args.begun.now.at c.args.depth c.if-depth-eq0.true; notes = element_flat_noted c.args.begun.now.text.now c.args.role c.args.begun.now.at c.args.depth _ _ c.if-depth-eq0.true }

pub element-returns-then-role-ge-BULK_IDENTIFIER : goal.element-returns-then-role-ge-BULK_IDENTIFIER
element-returns-then-role-ge-BULK_IDENTIFIER t c = rw (element_field c.args.begun.now.text.now c.args.role c.args.begun.now.at c.args.depth c.if-depth-eq0.false c.if-role-ge-BULK_IDENTIFIER.true) record { step = c.field.ensures.step; notes = c.field.ensures.notes }

pub element-content-requires : goal.element-content-requires
element-content-requires t c = (omega (arith, c.decreases, c.if-depth-eq0.false), tt)

pub element-returns-in_err-tag : goal.element-returns-in_err-tag
element-returns-in_err-tag t c =
    let a = c.args in
    let p = err_from_is_err_and c.from_residual.result c.from_residual.ensures.1 in
    let breaks = err_broken (start_at a.begun.now.text.now a.begun.now.at) c.in_err-tag.field-0.0 (sym c.start.ensures ∙ c.in_err-tag.was) in
    rw (
      p.1,
      p.2,
      breaks.is,
      element_group a.begun.now.text.now a.role a.begun.now.at a.depth c.if-depth-eq0.false c.if-role-ge-BULK_IDENTIFIER.false,
      group_faulty (a.depth - 1) a.begun.now.text.now a.role a.begun.now.at breaks.place breaks.was,
    ) record { step = refl; notes = tt }

pub element-returns-in-Empty : goal.element-returns-in-Empty
element-returns-in-Empty t c =
    let a = c.args in
    let tag = ok_formed (start_at a.begun.now.text.now a.begun.now.at) c.in_ok-tag.tag (sym c.start.ensures ∙ c.in_ok-tag.was) ∙ ap Ok c.in-Empty.is in
    rw (
      element_group a.begun.now.text.now a.role a.begun.now.at a.depth c.if-depth-eq0.false c.if-role-ge-BULK_IDENTIFIER.false,
      group_empty (a.depth - 1) a.begun.now.text.now a.role a.begun.now.at c.in-Empty.field-0 c.in-Empty.next tag,
    ) record { step = refl; notes = c.note_bare.ensures ∙ bare_noted a.role a.begun.now.at a.notes.now }

pub element-returns-in_err-end-in-Open : goal.element-returns-in_err-end-in-Open
element-returns-in_err-end-in-Open t c =
    let a = c.args in
    let p = err_from_is_err_and c.from_residual-in_err-end-in-Open.result c.from_residual-in_err-end-in-Open.ensures.1 in
    let why = c.in_err-end-in-Open.field-0.0 in
    let tag = ok_formed (start_at a.begun.now.text.now a.begun.now.at) c.in_ok-tag.tag (sym c.start.ensures ∙ c.in_ok-tag.was) ∙ ap Ok c.in-Open.is in
    rw (
      p.1,
      p.2,
      element_group a.begun.now.text.now a.role a.begun.now.at a.depth c.if-depth-eq0.false c.if-role-ge-BULK_IDENTIFIER.false,
      group_stopped (a.depth - 1) a.begun.now.text.now a.role a.begun.now.at c.in-Open.field-0 c.in-Open.inside tag why (err_stopped (content_at (a.depth - 1) a.begun.now.text.now a.role c.in-Open.inside) why (sym c.content.ensures.step ∙ c.in_err-end-in-Open.was)),
    ) record { step = stopped_step why; notes = stopped_noted why _ _ }

pub element-returns-in_ok-end-in-Open : goal.element-returns-in_ok-end-in-Open
element-returns-in_ok-end-in-Open t c =
    let a = c.args in
    let tag = ok_formed (start_at a.begun.now.text.now a.begun.now.at) c.in_ok-tag.tag (sym c.start.ensures ∙ c.in_ok-tag.was) ∙ ap Ok c.in-Open.is in
    let end = c.in_ok-end-in-Open.end in
    let done = done_read (content_at (a.depth - 1) a.begun.now.text.now a.role c.in-Open.inside) end (sym c.content.ensures.step ∙ c.in_ok-end-in-Open.was) in
    rw (element_group a.begun.now.text.now a.role a.begun.now.at a.depth c.if-depth-eq0.false c.if-role-ge-BULK_IDENTIFIER.false) record {
      step = c.close.ensures ∙ group_closed (a.depth - 1) a.begun.now.text.now a.role a.begun.now.at c.in-Open.field-0 c.in-Open.inside tag end done.forest done.was;
      notes = group_closed_noted (a.depth - 1) a.begun.now.text.now a.role a.begun.now.at c.in-Open.field-0 c.in-Open.inside tag end done.forest a.notes.now _ done.was c.content.ensures.notes;
    }

pub content-returns-in_err-j : goal.content-returns-in_err-j
content-returns-in_err-j t c =
    let a = c.args in
    let l = c.loop-j in
    let p = err_from_is_err_and c.from_residual.result c.from_residual.ensures.1 in
    let breaks = err_broken (text_at a.s.now l.i) c.in_err-j.field-0.0 (sym c.text_end.ensures ∙ c.in_err-j.was) in
    rw (
      p.1,
      p.2,
      breaks.is,
      reading_broken (element_at a.depth a.s.now) a.s.now a.role a.at a.notes.now (element_onward a.depth a.s.now) l.i l.notes l.counts l.invariant.1 breaks.place breaks.was,
    ) record { step = refl; notes = tt }

pub content-overflow_add-j : goal.content-overflow_add-j
content-overflow_add-j t c =
    let on = text_forward c.args.s.now c.loop-j.i c.in_ok-j.j (ok_formed (text_at c.args.s.now c.loop-j.i) c.in_ok-j.j (sym c.text_end.ensures ∙ c.in_ok-j.was)) in
    search rules

pub content-returns-then-byte_at-eq47 : goal.content-returns-then-byte_at-eq47
content-returns-then-byte_at-eq47 t c =
    let a = c.args in
    let l = c.loop-j in
    let j = c.in_ok-j.j in
    let reading = l.invariant.1 in
    let text = ok_formed (text_at a.s.now l.i) j (sym c.text_end.ensures ∙ c.in_ok-j.was) in
    rw (reading_ends (element_at a.depth a.s.now) a.s.now a.role a.at a.notes.now (element_onward a.depth a.s.now) l.i l.notes l.counts reading j text (sym c.byte_at.ensures ∙ c.if-byte_at-eq47.true)) record {
      step = refl;
      notes = c.note_group.ensures ∙ (rw (counted_lacks a.role l.counts reading.sofar reading.counted, reading.notes_are));
    }

pub content-returns-in_err-i : goal.content-returns-in_err-i
content-returns-in_err-i t c =
    let a = c.args in
    let step = rw (c.new-begun.ensures.text_kept, c.new-begun.ensures.at_kept) at c.element.ensures.step in
    let role = rw (c.new-begun.ensures.text_kept, c.new-begun.ensures.at_kept) at c.role_in-child.ensures in
    let l = c.loop-j in
    let j = c.in_ok-j.j in
    let text = ok_formed (text_at a.s.now l.i) j (sym c.text_end.ensures ∙ c.in_ok-j.was) in
    let p = err_from_is_err_and c.from_residual-in_err-i.result c.from_residual-in_err-i.ensures.1 in
    let why = c.in_err-i.field-0.0 in
    rw (
      p.1,
      p.2,
      child_stopped (element_at a.depth a.s.now) a.s.now a.role a.at a.notes.now (element_onward a.depth a.s.now) l.i l.notes l.counts l.invariant.1 j c.role_in-child.result text (λ h. c.if-byte_at-eq47.false (c.byte_at.ensures ∙ h)) role why (err_stopped (element_at a.depth a.s.now c.role_in-child.result j) why (sym step ∙ c.in_err-i.was)),
    ) record { step = stopped_step why; notes = stopped_noted_in a.role a.place why _ _ }

pub content-loop-j-smaller : goal.content-loop-j-smaller
content-loop-j-smaller t c =
    let a = c.args in
    let step = rw (c.new-begun.ensures.text_kept, c.new-begun.ensures.at_kept) at c.element.ensures.step in
    let j = c.in_ok-j.j in
    let next = c.in_ok-i.i in
    let on = text_forward a.s.now c.loop-j.i j (ok_formed (text_at a.s.now c.loop-j.i) j (sym c.text_end.ensures ∙ c.in_ok-j.was)) in
    let done = done_read (element_at a.depth a.s.now c.role_in-child.result j) next (sym step ∙ c.in_ok-i.was) in
    let more = element_onward a.depth a.s.now c.role_in-child.result j next done.forest done.was in
    omega arith

pub content-loop-j-preserved : goal.content-loop-j-preserved
content-loop-j-preserved t c =
    let a = c.args in
    let step = rw (c.new-begun.ensures.text_kept, c.new-begun.ensures.at_kept) at c.element.ensures.step in
    let noted = rw (c.new-begun.ensures.text_kept, c.new-begun.ensures.at_kept) at c.element.ensures.notes in
    let role = rw (c.new-begun.ensures.text_kept, c.new-begun.ensures.at_kept) at c.role_in-child.ensures in
    let l = c.loop-j in
    let j = c.in_ok-j.j in
    let next = c.in_ok-i.i in
    let child = c.role_in-child.result in
    let text = ok_formed (text_at a.s.now l.i) j (sym c.text_end.ensures ∙ c.in_ok-j.was) in
    let done = done_read (element_at a.depth a.s.now child j) next (sym step ∙ c.in_ok-i.was) in
    let after = read_noted (element_at a.depth a.s.now child j) next done.forest l.notes _ done.was noted in
    let shape = (element_told a.depth a.s.now child j next done.forest done.was).shape in (
      ap length after ∙ noted_length done.forest l.notes ∙ l.invariant.0,
      rw c.count.ensures (child_read (element_at a.depth a.s.now) a.s.now a.role a.at a.notes.now (element_onward a.depth a.s.now) l.i l.notes l.counts l.invariant.1 j child text (λ h. c.if-byte_at-eq47.false (c.byte_at.ensures ∙ h)) role next done.forest _ done.was shape after),
    )

pub content-new-begun-requires : goal.content-new-begun-requires
content-new-begun-requires t c =
    let on = text_forward c.args.s.now c.loop-j.i c.in_ok-j.j (ok_formed (text_at c.args.s.now c.loop-j.i) c.in_ok-j.j (sym c.text_end.ensures ∙ c.in_ok-j.was)) in
    on.1

pub content-role_in-child-requires : goal.content-role_in-child-requires
content-role_in-child-requires t c =
    let on = text_forward c.args.s.now c.loop-j.i c.in_ok-j.j (ok_formed (text_at c.args.s.now c.loop-j.i) c.in_ok-j.j (sym c.text_end.ensures ∙ c.in_ok-j.was)) in
    rw (c.new-begun.ensures.text_kept, c.new-begun.ensures.at_kept) on.1
