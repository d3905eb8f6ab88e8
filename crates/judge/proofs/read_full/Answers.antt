-- `judge::read_full` meets its contract: a read adds what it gave behind what was read before, and leaves that as it was. Assumes nothing.
use Rattle.std.proofs.Common.{◌≡◌, ℕ, ◌+◌, ◌-◌, ◌≤◌, List, ◌++◌, rules, arith, length, take, slice_range, sym, ap, ◌∙◌, subst, le_refl, drop_at, length-take-le, take_all}
use Rattle.std.proofs.lemmas.Slice.{take-put_mid_below}
use Rattle.std.specs.Io.KnownBytes.{Consumes}
use Rattle.std.proofs.KnownBytes.{Consumes-nil, Consumes-trans, Consumes-kept}
use borrow.Rule.Slice.PartMut.{put_mid, post_of}
use lib.Seq.{take-add, take-append-le}
use Rattle.std.specs.declared.option.Option.{Option}
use Rattle.judge.proofs.read_full.Goals as goal
use Rattle.judge.proofs.read_full.Goals.{in-Ok, in-Err+else-ne}

-- what stands before a place, and from there to the next, is all before the next
take_split : (a b : ℕ) (old new : List ℕ) → a ≤ b → take a new ≡ take a old → take a old ++ slice_range new a b ≡ take b new
take_split a b old new h front =
    let same : a + (b - a) ≡ b = omega arith in
    ap (λ l. l ++ slice_range new a b) (sym front) ∙ sym (take-add a (b - a) new) ∙ ap (λ n. take n new) same

-- the first bytes that were put behind a place
put_range : (a k n : ℕ) (xs ys : List ℕ) → a ≤ length xs → n ≤ length ys → slice_range (put_mid a k xs ys) a (a + n) ≡ take n ys
put_range a k n xs ys within fits =
    let same : (a + n) - a ≡ n = omega arith in
    let after = post_of a k xs in
    ap (take ((a + n) - a)) (drop_at (take a xs) (ys ++ after) a (length-take-le a xs within)) ∙ ap (λ m. take m (ys ++ after)) same ∙ take-append-le n ys after fits

-- a read gave n bytes behind those before
more : (before between after : Option (List ℕ)) (done n : ℕ) (b ys : List ℕ) → done ≤ length b → n ≤ length ys
    → Consumes before between (take done b) → Consumes between after (take n ys)
    → Consumes before after (take (done + n) (put_mid done (length b - done) b ys))
more before between after done n b ys within fits first then =
    let part = put_range done (length b - done) n b ys within fits in
    let joined = take_split done (done + n) b (put_mid done (length b - done) b ys) (omega arith) (take-put_mid_below _ _ _ _ _ (le_refl _) within) in
    subst (Consumes _ _) (ap (λ l. take done b ++ l) (sym part) ∙ joined) (Consumes-trans _ _ _ _ _ first then)

pub loop-init : goal.loop-init
loop-init g c = (search rules, Consumes-nil _)

pub returns-then-done-buffer-clause-bytes : goal.returns-then-done-buffer-clause-bytes
returns-then-done-buffer-clause-bytes g c =
    let all : take c.loop.done c.loop.buffer ≡ take (length c.loop.buffer) c.loop.buffer =
    take_all c.loop.done c.loop.buffer c.if-done-buffer.true ∙ sym (take_all (length c.loop.buffer) c.loop.buffer (le_refl _)) in
    subst (Consumes _ _) all c.loop.invariant.1

pub returns-in-Ok-eq0-clause-bytes : goal.returns-in-Ok-eq0-clause-bytes
returns-in-Ok-eq0-clause-bytes g c =
    let read = c.in-Ok-eq0.ensures in
    let none : c.loop.done + c.in-Ok-eq0.field-0 ≡ c.loop.done = omega (arith, c.in-Ok-eq0.field-0-test) in
    subst (λ (k : ℕ). Consumes (g.R.Read.remaining c.args.from.now) (g.R.Read.remaining c.read.new.self) (take k (put_mid c.loop.done (length c.loop.buffer - c.loop.done) c.loop.buffer c.read.new.buf))) none
    (more _ _ _ c.loop.done c.in-Ok-eq0.field-0 c.loop.buffer c.read.new.buf c.loop.invariant.0 read.bound.0 c.loop.invariant.1 read.bytes.0)

pub loop-preserved : goal.loop-preserved
loop-preserved g c =
    elim c.match-read.branch [
      | in-Ok w ↦
          let read = w.in-Ok.ensures in (
            search rules,
            rw w.done-is (more _ _ _ c.loop.done w.in-Ok.n c.loop.buffer c.read.new.buf c.loop.invariant.0 read.bound.0 c.loop.invariant.1 read.bytes.0),
          )
      | in-Err+else-ne w ↦ (
        search rules,
        rw w.done-is (subst (Consumes _ _) (sym (take-put_mid_below _ _ _ _ _ (le_refl _) c.loop.invariant.0)) (Consumes-kept _ _ _ _ c.loop.invariant.1 w.in-Err.ensures.bytes)),
      )
    ]
