-- `fields::put_field` meets its contract. Assumes nothing.
use mathlib.Core.Path.{sym, ap, ◌∙◌}
use Rattle.prose.specs.Prose.{said_at}
use Rattle.fields.specs.Fields.{field_bytes}
use Rattle.fields.proofs.Bytes.{stored, field_cut}
use Rattle.fields.proofs.put_field.Goals as goal

pub returns : goal.returns
returns c =
    let args = c.args in
    let t = said_at args.s.now args.at in
    let told = c.bytes.result.now in
    let kept = c.bytes.ensures in
    let cut = rw (← kept) at c.at.ensures.kept in
    stored args.d.now args.place c.put_text.ensures (sym (field_cut args.role told) ∙ ap (field_bytes args.role) cut ∙ field_cut args.role t)
