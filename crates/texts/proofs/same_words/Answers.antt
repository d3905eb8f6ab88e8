-- `texts::same_words` meets its contract: up to place end the texts are equal exactly if they are as a whole, and at the end what remains
-- lies in their first word. Assumes nothing.
use borrow.Author.Rules.{rules}
use mathlib.Core.Path.{refl, sym, ◌∙◌}
use Prim.Native.Nat.{◌-◌}
use native.Mathlib.Omega.{arith}
use lib.ListN.{length}
use Rattle.wire.proofs.Texts.{part_differs}
use Rattle.texts.proofs.Words.{pieces_start, piece_more, piece_first}
use Rattle.texts.proofs.same_words.Goals as goal

pub returns-then-not-same_eight : goal.returns-then-not-same_eight
returns-then-not-same_eight c =
    let args = c.args in
    part_differs args.a.now args.b.now (length args.a.now - 8) 8 (sym c.same_eight.ensures ∙ c.if-not-same_eight.true)

pub loop-end-init : goal.loop-end-init
loop-end-init c =
    let args = c.args in
    let a = args.a.now in
    let b = args.b.now in
    (search rules, piece_more a b (length a - 8) 8 (length a) refl (omega arith) (sym c.same_eight.ensures ∙ c.if-not-same_eight.false) (pieces_start a b (omega arith)))

pub returns-then-not-same_eight-2 : goal.returns-then-not-same_eight-2
returns-then-not-same_eight-2 c =
    let args = c.args in
    let loop = c.loop-end in
    part_differs args.a.now args.b.now (loop.end - 8) 8 (sym c.same_eight-in-loop-end.ensures ∙ c.if-not-same_eight-2.true)

pub loop-end-preserved : goal.loop-end-preserved
loop-end-preserved c =
    let args = c.args in
    let loop = c.loop-end in
    (search rules, piece_more args.a.now args.b.now (loop.end - 8) 8 loop.end refl (omega arith) (sym c.same_eight-in-loop-end.ensures ∙ c.if-not-same_eight-2.false) loop.invariant.1)

pub returns : goal.returns
returns c =
    let args = c.args in
    let loop = c.loop-end in
    piece_first args.a.now args.b.now 8 loop.end _ (omega arith) c.same_eight-2.ensures loop.invariant.1
