-- `meanings::number` meets its contract: what it tests is the form. Assumes nothing.
use mathlib.Core.Path.{sym, ◌∙◌}
use native.Mathlib.Omega.{arith}
use Rattle.meanings.proofs.Forms.{meant_is, meant_nothing, number_form, number_test}
use Rattle.meanings.proofs.number.Goals as goal

pub decimal-requires : goal.decimal-requires
decimal-requires c =
    let t = c.args.t.now in
    let form = number_form t (sym (number_test t _ c.digits.ensures) ∙ c.if-digits-t.true) in
    record { t_value = form.0; t_len_bound = omega arith }

pub returns-then-digits-t : goal.returns-then-digits-t
returns-then-digits-t c =
    let t = c.args.t.now in
    meant_is _ _ _ (sym (number_test t _ c.digits.ensures) ∙ c.if-digits-t.true) c.decimal.ensures

pub returns-else-digits-t : goal.returns-else-digits-t
returns-else-digits-t c =
    let t = c.args.t.now in
    meant_nothing _ _ (sym (number_test t _ c.digits.ensures) ∙ c.if-digits-t.false)
