-- `routing::lookup` meets its contract: each answer is that of the way that led to it. Assumes nothing.
use mathlib.Core.Path.{◌≡◌, sym, ◌∙◌}
use Prim.Native.Nat.{ℕ}
use borrow.Author.Rules.{rules}
use Rattle.std.specs.Option.{option_map}
use Rattle.routing.specs.declared.Row.{Row}
use Rattle.routing.proofs.Laws.{lookup_date, lookup_table, lookup_bic, lookup_row, answer_told}
use Rattle.routing.proofs.lookup.Goals as goal

pub returns-then-not-is_date : goal.returns-then-not-is_date
returns-then-not-is_date c =
    let args = c.args in
    record { is = lookup_date args.date args.table.now args.bic.now (sym c.is_date.ensures ∙ c.if-not-is_date.true); within = tt; small = tt }

pub returns-then-not-well_formed : goal.returns-then-not-well_formed
returns-then-not-well_formed c =
    let args = c.args in
    record { is = lookup_table args.date args.table.now args.bic.now (sym c.is_date.ensures ∙ c.if-not-is_date.false) (sym c.well_formed-2.ensures.is ∙ c.if-not-well_formed.true); within = tt; small = tt }

pub returns-then-bic-ne-BIC_WIDTH : goal.returns-then-bic-ne-BIC_WIDTH
returns-then-bic-ne-BIC_WIDTH c =
    let args = c.args in
    record { is = lookup_bic args.date args.table.now args.bic.now (sym c.is_date.ensures ∙ c.if-not-is_date.false) (sym c.well_formed-2.ensures.is ∙ c.if-not-well_formed.false) c.if-bic-ne-BIC_WIDTH.true; within = tt; small = tt }

pub returns : goal.returns
returns c =
    let args = c.args in
    let found = c.route-found.ensures in
    let formed = c.well_formed-2.ensures.formed c.if-not-well_formed.false in
    let row : ℕ → Row = λ i. record { place = i; reachable = c.reachable-reachable.result } in
    let mapped : c.map.result ≡ option_map row c.route-found.result = search rules in
    rw mapped (answer_told args.table.now _ formed _ _
    (lookup_row args.date args.table.now args.bic.now
    (sym c.is_date.ensures ∙ c.if-not-is_date.false) (sym c.well_formed-2.ensures.is ∙ c.if-not-well_formed.false) c.if-bic-ne-BIC_WIDTH.false _ found.is)
    found.within c.reachable-reachable.ensures)
