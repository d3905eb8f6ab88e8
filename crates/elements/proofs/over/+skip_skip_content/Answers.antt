-- `elements::over::skip` and `elements::over::skip_content`, which call each other, meet their contracts, by the measures of
-- `elements::element` and `elements::content`. The loop of a content: what is left from place i on leads to where the whole leads. Assumes
-- nothing.
use mathlib.Core.Path.{refl, sym, ap, ◌∙◌}
use Prim.Native.Nat.{◌-◌}
use native.Mathlib.Omega.{arith}
use borrow.Author.Rules.{rules}
use Rattle.std.proofs.lemmas.Result.{err_from_is_err_and}
use Rattle.std.specs.Prelude.{Ok}
use Rattle.tags.specs.Tags.{start_at}
use Rattle.prose.specs.Prose.{text_at}
use Rattle.prose.proofs.Turns.{text_forward}
use Rattle.paths.specs.Roles as roles
use Rattle.elements.specs.Grammar.{element_at, content_at}
use Rattle.elements.proofs.Forward.{element_onward}
use Rattle.elements.proofs.Steps.{done_read, err_stopped, stopped_step, ok_formed, err_broken}
use Rattle.elements.proofs.Elements.{element_flat, element_group, group_closed, group_stopped, group_empty, group_faulty}
use Rattle.elements.proofs.Overs.{other_group, over_broken, over_ends, over_read, over_stopped}
use Rattle.elements.proofs.over.+skip_skip_content.Goals as goal

pub skip-returns-then-depth-eq0 : goal.skip-returns-then-depth-eq0
skip-returns-then-depth-eq0 t c = c.too_deep.ensures ∙ element_flat c.args.begun.now.text.now roles.other c.args.begun.now.at c.args.depth c.if-depth-eq0.true

pub skip-skip_content-requires : goal.skip-skip_content-requires
skip-skip_content-requires t c = (omega (arith, c.decreases, c.if-depth-eq0.false), tt)

pub skip-returns-in_err-tag : goal.skip-returns-in_err-tag
skip-returns-in_err-tag t c =
    let a = c.args in
    let p = err_from_is_err_and c.from_residual.result c.from_residual.ensures.1 in
    let breaks = err_broken (start_at a.begun.now.text.now a.begun.now.at) c.in_err-tag.field-0.0 (sym c.start.ensures ∙ c.in_err-tag.was) in
    rw (
      p.1,
      p.2,
      breaks.is,
      element_group a.begun.now.text.now roles.other a.begun.now.at a.depth c.if-depth-eq0.false other_group,
      group_faulty (a.depth - 1) a.begun.now.text.now roles.other a.begun.now.at breaks.place breaks.was,
    ) refl

pub skip-returns-in-Empty : goal.skip-returns-in-Empty
skip-returns-in-Empty t c =
    let a = c.args in
    let tag = ok_formed (start_at a.begun.now.text.now a.begun.now.at) c.in_ok-tag.tag (sym c.start.ensures ∙ c.in_ok-tag.was) ∙ ap Ok c.in-Empty.is in
    rw (
      element_group a.begun.now.text.now roles.other a.begun.now.at a.depth c.if-depth-eq0.false other_group,
      group_empty (a.depth - 1) a.begun.now.text.now roles.other a.begun.now.at c.in-Empty.field-0 c.in-Empty.next tag,
    ) refl

pub skip-returns-in_err-end-in-Open : goal.skip-returns-in_err-end-in-Open
skip-returns-in_err-end-in-Open t c =
    let a = c.args in
    let p = err_from_is_err_and c.from_residual-in_err-end-in-Open.result c.from_residual-in_err-end-in-Open.ensures.1 in
    let why = c.in_err-end-in-Open.field-0.0 in
    let tag = ok_formed (start_at a.begun.now.text.now a.begun.now.at) c.in_ok-tag.tag (sym c.start.ensures ∙ c.in_ok-tag.was) ∙ ap Ok c.in-Open.is in
    rw (
      p.1,
      p.2,
      element_group a.begun.now.text.now roles.other a.begun.now.at a.depth c.if-depth-eq0.false other_group,
      group_stopped (a.depth - 1) a.begun.now.text.now roles.other a.begun.now.at c.in-Open.field-0 c.in-Open.inside tag why (err_stopped (content_at (a.depth - 1) a.begun.now.text.now roles.other c.in-Open.inside) why (sym c.skip_content.ensures ∙ c.in_err-end-in-Open.was)),
    ) (stopped_step why)

pub skip-returns-in_ok-end-in-Open : goal.skip-returns-in_ok-end-in-Open
skip-returns-in_ok-end-in-Open t c =
    let a = c.args in
    let end = c.in_ok-end-in-Open.end in
    let tag = ok_formed (start_at a.begun.now.text.now a.begun.now.at) c.in_ok-tag.tag (sym c.start.ensures ∙ c.in_ok-tag.was) ∙ ap Ok c.in-Open.is in
    let done = done_read (content_at (a.depth - 1) a.begun.now.text.now roles.other c.in-Open.inside) end (sym c.skip_content.ensures ∙ c.in_ok-end-in-Open.was) in
    rw (element_group a.begun.now.text.now roles.other a.begun.now.at a.depth c.if-depth-eq0.false other_group)
    (c.close.ensures ∙ group_closed (a.depth - 1) a.begun.now.text.now roles.other a.begun.now.at c.in-Open.field-0 c.in-Open.inside tag end done.forest done.was)

pub skip_content-loop-j-init : goal.skip_content-loop-j-init
skip_content-loop-j-init t c = refl

pub skip_content-skip-requires : goal.skip_content-skip-requires
skip_content-skip-requires t c = (omega (arith, c.decreases), tt)

pub skip_content-returns-in_err-j : goal.skip_content-returns-in_err-j
skip_content-returns-in_err-j t c =
    let a = c.args in
    let l = c.loop-j in
    let p = err_from_is_err_and c.from_residual.result c.from_residual.ensures.1 in
    let breaks = err_broken (text_at a.s.now l.i) c.in_err-j.field-0.0 (sym c.text_end.ensures ∙ c.in_err-j.was) in
    rw (p.1, p.2, breaks.is) (over_broken (element_at a.depth a.s.now) a.s.now (element_onward a.depth a.s.now) l.i breaks.place breaks.was ∙ l.invariant)

pub skip_content-overflow_add-j : goal.skip_content-overflow_add-j
skip_content-overflow_add-j t c =
    let on = text_forward c.args.s.now c.loop-j.i c.in_ok-j.j (ok_formed (text_at c.args.s.now c.loop-j.i) c.in_ok-j.j (sym c.text_end.ensures ∙ c.in_ok-j.was)) in
    search rules

pub skip_content-returns-then-byte_at-eq47 : goal.skip_content-returns-then-byte_at-eq47
skip_content-returns-then-byte_at-eq47 t c =
    let a = c.args in
    let l = c.loop-j in
    let j = c.in_ok-j.j in
    let text = ok_formed (text_at a.s.now l.i) j (sym c.text_end.ensures ∙ c.in_ok-j.was) in
    over_ends (element_at a.depth a.s.now) a.s.now (element_onward a.depth a.s.now) l.i j text (sym c.byte_at.ensures ∙ c.if-byte_at-eq47.true) ∙ l.invariant

pub skip_content-returns-in_err-i : goal.skip_content-returns-in_err-i
skip_content-returns-in_err-i t c =
    let a = c.args in
    let step = rw (c.new.ensures.text_kept, c.new.ensures.at_kept) at c.skip.ensures in
    let l = c.loop-j in
    let j = c.in_ok-j.j in
    let text = ok_formed (text_at a.s.now l.i) j (sym c.text_end.ensures ∙ c.in_ok-j.was) in
    let p = err_from_is_err_and c.from_residual-in_err-i.result c.from_residual-in_err-i.ensures.1 in
    let why = c.in_err-i.field-0.0 in
    rw (p.1, p.2)
    (over_stopped (element_at a.depth a.s.now) a.s.now (element_onward a.depth a.s.now) l.i j text (λ h. c.if-byte_at-eq47.false (c.byte_at.ensures ∙ h)) why (err_stopped (element_at a.depth a.s.now roles.other j) why (sym step ∙ c.in_err-i.was))
    ∙ l.invariant)

pub skip_content-loop-j-smaller : goal.skip_content-loop-j-smaller
skip_content-loop-j-smaller t c =
    let a = c.args in
    let step = rw (c.new.ensures.text_kept, c.new.ensures.at_kept) at c.skip.ensures in
    let j = c.in_ok-j.j in
    let next = c.in_ok-i.i in
    let on = text_forward a.s.now c.loop-j.i j (ok_formed (text_at a.s.now c.loop-j.i) j (sym c.text_end.ensures ∙ c.in_ok-j.was)) in
    let done = done_read (element_at a.depth a.s.now roles.other j) next (sym step ∙ c.in_ok-i.was) in
    let more = element_onward a.depth a.s.now roles.other j next done.forest done.was in
    omega arith

pub skip_content-loop-j-preserved : goal.skip_content-loop-j-preserved
skip_content-loop-j-preserved t c =
    let a = c.args in
    let step = rw (c.new.ensures.text_kept, c.new.ensures.at_kept) at c.skip.ensures in
    let l = c.loop-j in
    let j = c.in_ok-j.j in
    let next = c.in_ok-i.i in
    let text = ok_formed (text_at a.s.now l.i) j (sym c.text_end.ensures ∙ c.in_ok-j.was) in
    let done = done_read (element_at a.depth a.s.now roles.other j) next (sym step ∙ c.in_ok-i.was) in
    over_read (element_at a.depth a.s.now) a.s.now (element_onward a.depth a.s.now) l.i j text (λ h. c.if-byte_at-eq47.false (c.byte_at.ensures ∙ h)) next done.forest done.was
    ∙ l.invariant

pub skip_content-new-requires : goal.skip_content-new-requires
skip_content-new-requires t c =
    let on = text_forward c.args.s.now c.loop-j.i c.in_ok-j.j (ok_formed (text_at c.args.s.now c.loop-j.i) c.in_ok-j.j (sym c.text_end.ensures ∙ c.in_ok-j.was)) in
    on.1
