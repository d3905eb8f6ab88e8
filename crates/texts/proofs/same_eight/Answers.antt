-- `texts::same_eight` meets its contract: equal words are equal bytes. Assumes nothing.
use mathlib.Core.Path.{sym, ◌∙◌}
use native.Mathlib.Omega.{arith}
use Rattle.wire.proofs.Texts.{part_bytes_lem, part_length}
use Rattle.texts.proofs.Words.{low_same}
use Rattle.texts.proofs.same_eight.Goals as goal

pub returns : goal.returns
returns c =
    let a = c.args.a.now in
    let b = c.args.b.now in
    let at = c.args.at in
    low_same _ _ _ _
    (part_bytes_lem a at 8 (λ i. (c.type_inv.a i).fits))
    (part_bytes_lem b at 8 (λ i. (c.type_inv.b i).fits))
    (part_length a at 8 (omega arith) ∙ sym (part_length b at 8 (omega arith)))
    c.eight_at.ensures c.eight_at-2.ensures
