-- `sheet::Cursor::message` meets its contract: each field stands in the sheet where it stands in its message. Assumes nothing.
use mathlib.Core.Path.{refl, ap, ◌∙◌}
use Prim.Native.Nat.{ℕ, ◌+◌}
use Rattle.sheet.proofs.Fields.{amount_there, original_there}
use Rattle.sheet.proofs.Cursor.message.Goals as goal

pub returns : goal.returns
returns c =
    let a = c.args in
    let s = a.s.now in
    let at = a.self.at in
    record {
      place = refl;
      kind = refl;
      amount = c.u64_at.ensures ∙ amount_there a.kind s at;
      original = c.u64_at-2.ensures ∙ original_there a.kind s at;
      moved = ap (λ (w : ℕ). at + w) c.message_width.ensures;
    }
