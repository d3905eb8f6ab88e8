-- `meanings::date_number` meets its contract: the three pieces, each of its own width, are the eight digits. Assumes nothing.
use native.Mathlib.Omega.{arith}
use Rattle.meanings.proofs.Forms.{date_form, date_room, date_sum}
use Rattle.meanings.proofs.date_number.Goals as goal

pub decimal-year-requires : goal.decimal-year-requires
decimal-year-requires c =
    let pieces = date_form c.args.t.now c.requires in
    record { t_value = rw c.text_at.ensures pieces.years; t_len_bound = rw c.text_at.ensures (omega arith) }

pub decimal-month-requires : goal.decimal-month-requires
decimal-month-requires c =
    let pieces = date_form c.args.t.now c.requires in
    record { t_value = rw c.text_at-2.ensures pieces.months; t_len_bound = rw c.text_at-2.ensures (omega arith) }

pub decimal-day-requires : goal.decimal-day-requires
decimal-day-requires c =
    let pieces = date_form c.args.t.now c.requires in
    record { t_value = rw c.text_at-3.ensures pieces.days; t_len_bound = rw c.text_at-3.ensures (omega arith) }

pub in_eight-requires : goal.in_eight-requires
in_eight-requires c =
    date_room c.args.t.now c.requires c.text_at.ensures c.decimal-year.ensures
    c.text_at-2.ensures c.decimal-month.ensures c.text_at-3.ensures c.decimal-day.ensures

pub returns : goal.returns
returns c =
    date_sum c.args.t.now c.requires c.text_at.ensures c.decimal-year.ensures
    c.text_at-2.ensures c.decimal-month.ensures c.text_at-3.ensures c.decimal-day.ensures c.in_eight.ensures
