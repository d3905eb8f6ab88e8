-- `refusing::check` meets its contract: the first refusal that holds in one of its parts is the first of all. Assumes nothing.
use Rattle.std.proofs.Common.{◌≡◌, refl, Ok, Err, arith}
use Rattle.std.proofs.lemmas.Result.{err_from_is_err_and}
use Rattle.refusing.specs.Checking.{until, from}
use Rattle.refusing.specs.declared.Refusal.TheVariants.{Sheet}
use Rattle.refusing.proofs.Checking.{told_by_both, sheet_stops, sheet_passes, measured_told}
use Rattle.refusing.proofs.check.Goals as goal

pub returns-in_err-beside_the_sheet : goal.returns-in_err-beside_the_sheet
returns-in_err-beside_the_sheet c =
    let p = err_from_is_err_and c.from_residual.result c.from_residual.ensures.1 in
    rw (p.1, p.2) (told_by_both _ (until Sheet) (from Sheet) (Err _) _ c.in_err-beside_the_sheet.ensures refl)

pub returns-in_err-contents : goal.returns-in_err-contents
returns-in_err-contents c =
    let p = err_from_is_err_and c.from_residual-in_err-contents.result c.from_residual-in_err-contents.ensures.1 in
    let told : c.in_err-contents.field-0.0 ≡ Sheet = grind (arith, c.in_err-contents.ensures.value, c.in_err-contents.ensures.ok_part) in
    rw (p.1, p.2, told) (told_by_both _ (until Sheet) (from Sheet) (Ok tt) (Err Sheet) c.in_ok-beside_the_sheet.ensures
    (sheet_stops c.args.lent _ c.in_err-contents.ensures.ok_part c.measure.ensures))

pub of_the_sheet-requires : goal.of_the_sheet-requires
of_the_sheet-requires c = measured_told _ _ _ c.in_ok-contents.ensures.ok_part c.measure.ensures

pub returns-in_err-of_the_sheet : goal.returns-in_err-of_the_sheet
returns-in_err-of_the_sheet c =
    let p = err_from_is_err_and c.from_residual-in_err-of_the_sheet.result c.from_residual-in_err-of_the_sheet.ensures.1 in
    let m = measured_told _ _ _ c.in_ok-contents.ensures.ok_part c.measure.ensures in
    rw (p.1, p.2) (told_by_both _ (until Sheet) (from Sheet) (Ok tt) (Err _) c.in_ok-beside_the_sheet.ensures
    (sheet_passes c.args.lent _ m _ c.in_err-of_the_sheet.ensures))

pub returns : goal.returns
returns c =
    let m = measured_told _ _ _ c.in_ok-contents.ensures.ok_part c.measure.ensures in
    (told_by_both _ (until Sheet) (from Sheet) (Ok tt) (Ok tt) c.in_ok-beside_the_sheet.ensures (sheet_passes c.args.lent _ m _ c.in_ok-of_the_sheet.ensures), m)
