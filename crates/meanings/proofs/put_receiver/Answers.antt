-- `meanings::put_receiver` meets its contract. Assumes nothing.
use mathlib.Core.Path.{ap, ◌∙◌}
use mathlib.Core.List.{List}
use Prim.Native.Nat.{ℕ}
use lib.Seq.{sets}
use Rattle.meanings.proofs.Fills.{head_office_lem, other_receiver}
use Rattle.meanings.proofs.put_receiver.Goals as goal

pub returns-then-t-eq8 : goal.returns-then-t-eq8
returns-then-t-eq8 c =
    let args = c.args in
    c.put_text-then-t-eq8.ensures
    ∙ ap (λ (r : List ℕ). sets args.d.now args.at r) (c.put_text.ensures ∙ head_office_lem args.t.now c.if-t-eq8.true)

pub returns-else-t-eq8 : goal.returns-else-t-eq8
returns-else-t-eq8 c =
    let args = c.args in
    c.put_filled.ensures
    ∙ ap (λ (r : List ℕ). sets args.d.now args.at r) (other_receiver args.t.now c.if-t-eq8.false)
