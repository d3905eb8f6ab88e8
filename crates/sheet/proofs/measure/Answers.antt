-- `sheet::measure` meets its contract: a walk over the bulks, that stops once it is past the end. Assumes nothing.
use mathlib.Core.Path.{◌≡◌, sym, ◌∙◌}
use native.Mathlib.Omega.{arith}
use Rattle.sheet.specs.Sheet.{count_at, after_messages, message_count}
use Rattle.sheet.proofs.Laws.{head_of, head_next, messages_many, end_step, messages_step, messages_end, walk_past, walk_left_over, walk_ended}
use Rattle.sheet.proofs.measure.Goals as goal

pub returns-then-s-at : goal.returns-then-s-at
returns-then-s-at c =
    let loop = c.loop-k in
    walk_past c.args.s.now c.u32_at-count.result loop.k (head_of loop.k) loop.at loop.invariant.ends c.if-s-at.true

pub loop-k-preserved : goal.loop-k-preserved
loop-k-preserved c =
    let loop = c.loop-k in
    let s = c.args.s.now in
    let bulks = c.u32_at-count.result in
    let here = c.loop-k-test.true in
    let n = c.u32_at-n.result in
    let told : n ≡ count_at s loop.at = c.u32_at-n.ensures in
    let after = c.after_messages-at.ensures in
    let next : c.after_messages-at.result ≡ after_messages s (head_of loop.k) loop.at = after ∙ (rw (c.kind_at.ensures, told)) in
    record {
      stated = loop.invariant.stated;
      before = omega arith;
      few = omega (arith, messages_many c.kind_at.result n);
      ends = rw (next, ← (head_next loop.k)) (sym (end_step s bulks loop.k (head_of loop.k) loop.at here) ∙ loop.invariant.ends);
      holds = rw (next, told, ← (head_next loop.k)) (omega (arith, messages_step s bulks loop.k (head_of loop.k) loop.at here, loop.invariant.holds));
    }

pub returns-then-at-s : goal.returns-then-at-s
returns-then-at-s c =
    let s = c.args.s.now in
    let bulks = c.u32_at-count.result in
    let loop = c.loop-k in
    let out = c.loop-k-test.false in
    let all : loop.messages ≡ message_count s = omega (arith, messages_end s bulks loop.k (head_of loop.k) loop.at out, loop.invariant.holds) in
    rw (loop.invariant.stated, all) (walk_ended s bulks loop.k (head_of loop.k) loop.at loop.invariant.ends out c.if-at-s.true)

pub returns-else-at-s : goal.returns-else-at-s
returns-else-at-s c =
    let loop = c.loop-k in
    walk_left_over c.args.s.now c.u32_at-count.result loop.k (head_of loop.k) loop.at loop.invariant.ends c.loop-k-test.false c.if-at-s.false
