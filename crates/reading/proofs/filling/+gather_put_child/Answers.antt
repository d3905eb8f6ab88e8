-- `reading::filling::put_child` and `reading::filling::gather`, which call each other, meet their contracts: the measure falls as it does for an element and
-- its content. The loop: the messages so far, with those of what is left from place i on, are those of the whole. Assumes nothing.
use mathlib.Core.Path.{refl, sym, ap, ◌∙◌}
use Prim.Native.Nat.{◌+◌}
use native.Mathlib.Omega.{arith}
use borrow.Author.Rules.{rules}
use Rattle.std.specs.Prelude.{Ok}
use Rattle.prose.proofs.Turns.{text_forward}
use Rattle.elements.specs.Grammar.{element_at}
use Rattle.elements.proofs.Forward.{element_onward}
use Rattle.reading.proofs.Gathers.{gathering_starts, gathering_broken, gathering_ends, child_ready, gathering_on}
use Rattle.reading.proofs.Children.{levels_left, message_room, message_put, quiet_put, has_note, inside_ready, group_put, bare_put, faulty_put}
use Rattle.reading.proofs.filling.+gather_put_child.Goals as goal

pub gather-loop-p-init : goal.gather-loop-p-init
gather-loop-p-init t c =
    let a = c.args in
    (refl, refl, gathering_starts (element_at a.depth a.s.now) a.s.now a.role a.inside a.at a.d.now a.notes.now)

pub gather-returns-in-Err : goal.gather-returns-in-Err
gather-returns-in-Err t c =
    let a = c.args in
    let l = c.loop-p in
    rw (gathering_broken (element_at a.depth a.s.now) a.s.now a.role a.inside a.at a.d.now a.notes.now (element_onward a.depth a.s.now) l.i l.m l.d l.notes l.invariant.2 c.in-Err.p (sym c.text_end.ensures ∙ c.in-Err.is)) record { written = tt; notes = tt }

pub gather-overflow_add-j : goal.gather-overflow_add-j
gather-overflow_add-j t c = let on = text_forward c.args.s.now c.loop-p.i c.in-Ok.j (sym c.text_end.ensures ∙ c.in-Ok.is) in search rules

pub gather-returns-then-byte_at-eq47 : goal.gather-returns-then-byte_at-eq47
gather-returns-then-byte_at-eq47 t c =
    let a = c.args in
    let l = c.loop-p in
    rw (gathering_ends (element_at a.depth a.s.now) a.s.now a.role a.inside a.at a.d.now a.notes.now (element_onward a.depth a.s.now) l.i l.m l.d l.notes l.invariant.2 c.in-Ok.j (sym c.text_end.ensures ∙ c.in-Ok.is) (sym c.byte_at.ensures ∙ c.if-byte_at-eq47.true)) record { written = (refl, l.invariant.2.place, l.invariant.2.wrote); notes = l.invariant.2.carried }

pub gather-overflow_add-j-in-Ok : goal.gather-overflow_add-j-in-Ok
gather-overflow_add-j-in-Ok t c =
    let on = text_forward c.args.s.now c.loop-p.i c.in-Ok.j (sym c.text_end.ensures ∙ c.in-Ok.is) in
    search rules

pub gather-put_child-put-requires : goal.gather-put_child-put-requires
gather-put_child-put-requires t c =
    let a = c.args in
    let l = c.loop-p in
    (omega (arith, c.decreases), child_ready (element_at a.depth a.s.now) a.s.now a.role a.inside a.at a.d.now a.notes.now (element_onward a.depth a.s.now) l.i l.m l.d l.notes l.invariant.2 c.in-Ok.j c.child_role-child.result (sym c.text_end.ensures ∙ c.in-Ok.is) (λ h. c.if-byte_at-eq47.false (c.byte_at.ensures ∙ h)) (c.child_role-child.ensures ∙ (rw c.name_at.ensures)) c.requires l.invariant.1)

pub gather-loop-p-smaller : goal.gather-loop-p-smaller
gather-loop-p-smaller t c =
    let a = c.args in
    let l = c.loop-p in
    let on = text_forward a.s.now l.i c.in-Ok.j (sym c.text_end.ensures ∙ c.in-Ok.is) in
    let r = child_ready (element_at a.depth a.s.now) a.s.now a.role a.inside a.at a.d.now a.notes.now (element_onward a.depth a.s.now) l.i l.m l.d l.notes l.invariant.2 c.in-Ok.j c.child_role-child.result (sym c.text_end.ensures ∙ c.in-Ok.is) (λ h. c.if-byte_at-eq47.false (c.byte_at.ensures ∙ h)) (c.child_role-child.ensures ∙ (rw c.name_at.ensures)) c.requires l.invariant.1 in
    let put = rw r.was at c.put_child-put.ensures in
    let more = element_onward a.depth a.s.now c.child_role-child.result c.in-Ok.j r.end r.forest r.was in
    omega (arith, put.written.0)

pub gather-loop-p-preserved : goal.gather-loop-p-preserved
gather-loop-p-preserved t c =
    let a = c.args in
    let l = c.loop-p in
    let r = child_ready (element_at a.depth a.s.now) a.s.now a.role a.inside a.at a.d.now a.notes.now (element_onward a.depth a.s.now) l.i l.m l.d l.notes l.invariant.2 c.in-Ok.j c.child_role-child.result (sym c.text_end.ensures ∙ c.in-Ok.is) (λ h. c.if-byte_at-eq47.false (c.byte_at.ensures ∙ h)) (c.child_role-child.ensures ∙ (rw c.name_at.ensures)) c.requires l.invariant.1 in
    let put = rw r.was at c.put_child-put.ensures in
    (c.put_child-put.auto.d ∙ l.invariant.0, c.put_child-put.auto.notes ∙ l.invariant.1, gathering_on (element_at a.depth a.s.now) a.s.now a.role a.inside a.at a.d.now a.notes.now (element_onward a.depth a.s.now) l.i l.m l.d l.notes l.invariant.2 c.in-Ok.j c.child_role-child.result (sym c.text_end.ensures ∙ c.in-Ok.is) (λ h. c.if-byte_at-eq47.false (c.byte_at.ensures ∙ h)) (c.child_role-child.ensures ∙ (rw c.name_at.ensures)) c.put_child-put.result _ _ r.end r.forest r.was put.written put.notes)

pub put_child-put_one-next-requires : goal.put_child-put_one-next-requires
put_child-put_one-next-requires t c = c.requires.sized

pub put_child-overflow_add-result : goal.put_child-overflow_add-result
put_child-overflow_add-result t c =
    let a = c.args in
    let room = message_room a.depth a.s.now a.role a.j a.at a.d.now a.notes.now c.requires (sym c.is_message.ensures ∙ c.if-is_message.true) in
    search rules

pub put_child-returns-then-is_message : goal.put_child-returns-then-is_message
put_child-returns-then-is_message t c =
    let a = c.args in
    let one = c.put_one-next.ensures in
    let put = message_put a.depth a.s.now a.role a.j a.at a.d.now a.notes.now c.requires (sym c.is_message.ensures ∙ c.if-is_message.true) (record { next = c.put_one-next.result; at = a.at + 81 }) _ _ one.next refl one.notes one.written in
    record { written = put.0; notes = put.1 }

pub put_child-returns-then-not-holds : goal.put_child-returns-then-not-holds
put_child-returns-then-not-holds t c =
    let a = c.args in
    let its = c.after.ensures in
    let put = quiet_put a.depth a.s.now a.role a.j a.at a.d.now a.notes.now c.requires (sym c.is_message.ensures ∙ c.if-is_message.false) (sym c.holds.ensures ∙ c.if-not-holds.true) (record { next = c.after.result; at = a.at }) _ its.next refl its.notes in
    record { written = put.0; notes = put.1 }

pub put_child-overflow_sub-depth : goal.put_child-overflow_sub-depth
put_child-overflow_sub-depth t c =
    let a = c.args in
    let left = levels_left a.depth a.s.now a.role a.j a.at a.d.now a.notes.now c.requires in
    omega arith

pub put_child-gather-put-requires : goal.put_child-gather-put-requires
put_child-gather-put-requires t c =
    let a = c.args in
    let left = levels_left a.depth a.s.now a.role a.j a.at a.d.now a.notes.now c.requires in
    (omega (arith, c.decreases), inside_ready a.depth a.s.now a.role a.j a.at a.d.now a.notes.now c.requires (sym c.holds.ensures ∙ c.if-not-holds.false) c.in-Ok-Open.field-0-0 c.in-Ok-Open.inside (sym c.start.ensures ∙ c.in-Ok-Open.is ∙ ap Ok c.in-Ok-Open.field-0-is))

pub put_child-offset_bounds-notes-role : goal.put_child-offset_bounds-notes-role
put_child-offset_bounds-notes-role t c =
    let a = c.args in
    let low = has_note a.depth a.s.now a.role a.j a.at a.d.now a.notes.now c.requires (sym c.holds.ensures ∙ c.if-not-holds.false) a.notes.now refl in
    search rules

pub put_child-bounds-notes-role : goal.put_child-bounds-notes-role
put_child-bounds-notes-role t c =
    let a = c.args in
    has_note a.depth a.s.now a.role a.j a.at a.d.now a.notes.now c.requires (sym c.holds.ensures ∙ c.if-not-holds.false) c.gather-put.new.notes c.gather-put.auto.notes

pub put_child-offset_bounds-notes-role-in-Ok-Empty : goal.put_child-offset_bounds-notes-role-in-Ok-Empty
put_child-offset_bounds-notes-role-in-Ok-Empty t c =
    let a = c.args in
    let low = has_note a.depth a.s.now a.role a.j a.at a.d.now a.notes.now c.requires (sym c.holds.ensures ∙ c.if-not-holds.false) a.notes.now refl in
    search rules

pub put_child-bounds-notes-role-in-Ok-Empty : goal.put_child-bounds-notes-role-in-Ok-Empty
put_child-bounds-notes-role-in-Ok-Empty t c =
    let a = c.args in
    has_note a.depth a.s.now a.role a.j a.at a.d.now a.notes.now c.requires (sym c.holds.ensures ∙ c.if-not-holds.false) a.notes.now refl

pub put_child-returns-in-Ok-Open : goal.put_child-returns-in-Ok-Open
put_child-returns-in-Ok-Open t c =
    let a = c.args in
    let inner = c.gather-put in
    let tag = sym c.start.ensures ∙ c.in-Ok-Open.is ∙ ap Ok c.in-Ok-Open.field-0-is in
    let put = group_put a.depth a.s.now a.role a.j a.at a.d.now a.notes.now c.requires (sym c.holds.ensures ∙ c.if-not-holds.false) c.in-Ok-Open.field-0-0 c.in-Ok-Open.inside tag inner.result (record { next = c.closed.result; at = inner.result.at }) _ _ inner.auto.notes (inner.ensures.written, inner.ensures.notes) c.closed.ensures refl in
    record { written = put.0; notes = put.1 }

pub put_child-returns-in-Ok-Empty : goal.put_child-returns-in-Ok-Empty
put_child-returns-in-Ok-Empty t c =
    let a = c.args in
    let tag = sym c.start.ensures ∙ c.in-Ok-Empty.is ∙ ap Ok c.in-Ok-Empty.field-0-is in
    let put = bare_put a.depth a.s.now a.role a.j a.at a.d.now a.notes.now c.requires (sym c.holds.ensures ∙ c.if-not-holds.false) c.in-Ok-Empty.field-0-0 c.in-Ok-Empty.next tag (record { next = c.in-Ok-Empty.next; at = a.at }) refl refl in
    record { written = put.0; notes = put.1 }

pub put_child-returns-in-Err : goal.put_child-returns-in-Err
put_child-returns-in-Err t c =
    let a = c.args in
    let put = faulty_put a.depth a.s.now a.role a.j a.at a.d.now a.notes.now c.requires (sym c.holds.ensures ∙ c.if-not-holds.false) c.in-Err.p (sym c.start.ensures ∙ c.in-Err.is) (record { next = c.in-Err.p; at = a.at }) in
    record { written = put.0; notes = put.1 }
