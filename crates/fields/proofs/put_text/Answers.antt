-- `fields::put_text` meets its contract. Assumes nothing.
use mathlib.Core.Path.{sym, ap, ◌∙◌}
use Prim.Native.Nat.{ℕ}
use native.Mathlib.Omega.{arith}
use Rattle.meanings.specs.Meanings.{filled}
use Rattle.fields.specs.Fields.{meant_bytes}
use Rattle.fields.proofs.Bytes.{stored, bytes_number, bytes_date, bytes_amount, bytes_receiver, bytes_text}
use Rattle.fields.proofs.put_text.Goals as goal

pub returns-in-22 : goal.returns-in-22
returns-in-22 c =
    let args = c.args in
    stored args.d.now args.place c.put_meant.ensures
    (ap (meant_bytes 8) c.number.ensures ∙ bytes_number args.role args.t.now c.in-22.is)

pub returns-in-24 : goal.returns-in-24
returns-in-24 c =
    let args = c.args in
    stored args.d.now args.place c.put_meant-in-24.ensures
    (ap (meant_bytes 4) c.date.ensures ∙ bytes_date args.role args.t.now (λ e. omega arith) c.in-24.is)

pub returns-in-29 : goal.returns-in-29
returns-in-29 c =
    let args = c.args in
    stored args.d.now args.place c.put_receiver.ensures (bytes_receiver args.role args.t.now c.in-29.is)

pub returns-in_default : goal.returns-in_default
returns-in_default c =
    let args = c.args in
    let summed = sym c.is_amount.ensures ∙ c.if-is_amount.true in
    stored args.d.now args.place c.put_meant-in_default.ensures
    (ap (meant_bytes 8) c.amount.ensures ∙ bytes_amount args.role args.t.now (λ e. omega arith) (λ e. omega arith) summed)

pub returns-in_default-2 : goal.returns-in_default-2
returns-in_default-2 c =
    let args = c.args in
    let unsummed = sym c.is_amount.ensures ∙ c.if-is_amount.false in
    let wide = ap (λ (w : ℕ). filled w args.t.now) c.width_of.ensures in
    stored args.d.now args.place c.put_filled.ensures
    (wide ∙ bytes_text args.role args.t.now (λ e. omega arith) (λ e. omega arith) unsummed (λ e. omega arith))
