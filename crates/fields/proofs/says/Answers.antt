-- `fields::says` meets its contract. Assumes nothing.
use mathlib.Core.Path.{sym, ap, ◌∙◌}
use mathlib.Core.List.{List}
use Prim.Native.Nat.{ℕ}
use Rattle.wire.specs.Field.{same}
use Rattle.prose.specs.Prose.{said_at}
use Rattle.fields.proofs.Bytes.{same_cut}
use Rattle.fields.proofs.says.Goals as goal

pub returns-in-Straight : goal.returns-in-Straight
returns-in-Straight c =
    let args = c.args in
    let w = args.word.now in
    let t = said_at args.s.now args.at in
    let told = c.in-Straight.t.now in
    let cut = rw c.in-Straight.is at c.at.ensures.kept in
    c.same.ensures ∙ sym (same_cut told w c.requires) ∙ ap (λ (r : List ℕ). same r w) cut ∙ same_cut t w c.requires

pub returns-in-Kept : goal.returns-in-Kept
returns-in-Kept c =
    let args = c.args in
    let w = args.word.now in
    let t = said_at args.s.now args.at in
    let told = c.text_at.result.now in
    let kept = rw c.in-Kept.is at c.at.ensures.kept in
    let cut = rw (← c.text_at.ensures) at kept in
    c.same-in-Kept.ensures ∙ sym (same_cut told w c.requires) ∙ ap (λ (r : List ℕ). same r w) cut ∙ same_cut t w c.requires
