-- `meanings::amount` meets its contract: what it tests is the form, all but the size. Assumes nothing.
use native.Mathlib.Omega.{arith}
use Rattle.letters.proofs.Scans.{run_within}
use Rattle.meanings.specs.Meanings.{digit}
use Rattle.meanings.proofs.Forms.{amount_wholes, amount_parts, amount_told, amount_nothing}
use Rattle.meanings.proofs.amount.Goals as goal

pub overflow_add-n : goal.overflow_add-n
overflow_add-n c = let run = c.run-n.ensures in omega (arith, run_within digit c.args.t.now)

pub decimal-requires : goal.decimal-requires
decimal-requires c =
    let byte = c.byte_at in
    let behind = c.text_at-parts in
    let front = c.text_at-wholes in
    let digits = c.run-n in
    let fit = amount_wholes _ _ _ _ _ _ digits.ensures front.ensures behind.ensures byte.ensures c.digits.ensures c.if-pointed-digits.true in
    record { t_value = fit.0; t_len_bound = fit.1 }

pub hundredths-requires : goal.hundredths-requires
hundredths-requires c =
    let byte = c.byte_at in
    let behind = c.text_at-parts in
    let front = c.text_at-wholes in
    let digits = c.run-n in
    let fit = amount_parts _ _ _ _ _ _ digits.ensures front.ensures behind.ensures byte.ensures c.digits.ensures c.if-pointed-digits.true in
    record { t_value = fit.0; t_len_bound = fit.1 }

pub returns-then-pointed-digits : goal.returns-then-pointed-digits
returns-then-pointed-digits c =
    let byte = c.byte_at in
    let behind = c.text_at-parts in
    let front = c.text_at-wholes in
    let digits = c.run-n in
    amount_told _ _ _ _ _ _ digits.ensures front.ensures behind.ensures byte.ensures c.digits.ensures
    c.if-pointed-digits.true _ _ _ c.decimal.ensures c.hundredths.ensures c.in_cents.ensures

pub returns-else-pointed-digits : goal.returns-else-pointed-digits
returns-else-pointed-digits c =
    let byte = c.byte_at in
    let behind = c.text_at-parts in
    let front = c.text_at-wholes in
    let digits = c.run-n in
    amount_nothing _ _ _ _ _ _ digits.ensures front.ensures behind.ensures byte.ensures c.digits.ensures c.if-pointed-digits.false
