-- `reading::filling::second_reading` meets its contract: the bulks so far are written, with those of what is left they are the sheet. Assumes nothing.
use mathlib.Core.Path.{refl, ◌∙◌}
use Prim.Native.Nat.{◌+◌}
use native.Mathlib.Omega.{arith}
use borrow.Author.Rules.{rules}
use Rattle.reading.specs.Text.{roots_at}
use Rattle.reading.proofs.Roots.{document_onward}
use Rattle.reading.proofs.Fillings.{writing_starts, next_document, head_room, document_placed, writing_on, writing_ends, fitting_on, headers_fit}
use Rattle.reading.proofs.filling.second_reading.Goals as goal

pub overflow_mul-m : goal.overflow_mul-m
overflow_mul-m c = let a = c.args in let room = headers_fit a.s.now (roots_at a.s.now a.first) a.bulks a.d.now c.requires in search rules

pub overflow_add-m : goal.overflow_add-m
overflow_add-m c = let a = c.args in let room = headers_fit a.s.now (roots_at a.s.now a.first) a.bulks a.d.now c.requires in search rules

pub loop-i-init : goal.loop-i-init
loop-i-init c = let a = c.args in (refl, writing_starts a.s.now a.first a.bulks c.put_number.new.d)

pub put_document-put-requires : goal.put_document-put-requires
put_document-put-requires c =
    let a = c.args in
    let l = c.loop-i in
    let base = c.put_number in
    let fits = fitting_on a.s.now (roots_at a.s.now a.first) a.bulks a.d.now base.new.d c.requires base.auto.d in
    let low = c.loop-i-test.true in
    document_placed a.s.now a.first a.bulks base.new.d fits l.i l.h l.m l.d l.invariant.1 (next_document a.s.now a.first a.bulks base.new.d fits l.i l.h l.m l.d l.invariant.1 low) low

pub overflow_add-h : goal.overflow_add-h
overflow_add-h c =
    let a = c.args in
    let l = c.loop-i in
    let base = c.put_number in
    let fits = fitting_on a.s.now (roots_at a.s.now a.first) a.bulks a.d.now base.new.d c.requires base.auto.d in
    let room = headers_fit a.s.now (roots_at a.s.now a.first) a.bulks a.d.now c.requires in
    let head = head_room a.s.now a.first a.bulks base.new.d fits l.i l.h l.m l.d l.invariant.1 (next_document a.s.now a.first a.bulks base.new.d fits l.i l.h l.m l.d l.invariant.1 c.loop-i-test.true) in
    let at = l.invariant.1.heads in
    search rules

pub loop-i-smaller : goal.loop-i-smaller
loop-i-smaller c =
    let a = c.args in
    let l = c.loop-i in
    let base = c.put_number in
    let fits = fitting_on a.s.now (roots_at a.s.now a.first) a.bulks a.d.now base.new.d c.requires base.auto.d in
    let next = next_document a.s.now a.first a.bulks base.new.d fits l.i l.h l.m l.d l.invariant.1 c.loop-i-test.true in
    let on = document_onward a.s.now l.i next.end next.forest next.was in
    let put = rw next.was at c.put_document-put.ensures in
    omega (arith, c.space_end-i.ensures, put.0, c.loop-i-test.true)

pub loop-i-preserved : goal.loop-i-preserved
loop-i-preserved c =
    let a = c.args in
    let l = c.loop-i in
    let base = c.put_number in
    let fits = fitting_on a.s.now (roots_at a.s.now a.first) a.bulks a.d.now base.new.d c.requires base.auto.d in
    let next = next_document a.s.now a.first a.bulks base.new.d fits l.i l.h l.m l.d l.invariant.1 c.loop-i-test.true in
    let put = rw next.was at c.put_document-put.ensures in (
      c.put_document-put.auto.d ∙ l.invariant.0,
      rw c.space_end-i.ensures (writing_on a.s.now a.first a.bulks base.new.d fits l.i l.h l.m l.d l.invariant.1 next c.put_document-put.result _ (l.h + 65) c.loop-i-test.true put refl),
    )

pub returns : goal.returns
returns c =
    let a = c.args in
    let l = c.loop-i in
    let base = c.put_number in
    let fits = fitting_on a.s.now (roots_at a.s.now a.first) a.bulks a.d.now base.new.d c.requires base.auto.d in
    writing_ends a.s.now a.first a.bulks base.new.d fits l.i l.h l.m l.d l.invariant.1 a.d.now base.ensures c.loop-i-test.false
