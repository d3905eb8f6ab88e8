-- `judging::judge_by` meets its contract: the answer and every byte that it leaves are those of the outcome's definition.
-- Assumes nothing.
use mathlib.Core.Path.{refl}
use Rattle.directory.specs.Directory.{blank}
use Rattle.refusing.specs.Checking.{call_of}
use Rattle.judging.proofs.Whole.{asked_told, table_formed, bulks_ready, entries_ready, both_few, judged_told}
use Rattle.judging.proofs.judge_by.Goals as goal

pub make-requires : goal.make-requires
unfolding blank
make-requires c =
    let a = c.args in
    let call = call_of a.terms a.sheet.now a.table.now a.register.now a.positions.now a.report.now in
    let check = c.check in
    let told = asked_told a.indexed _ _ call check.result c.then_some-lent.ensures check.ensures in
    record { formed = table_formed a.indexed call a.index.now check.result c.in_ok-contents.contents c.in_ok-contents.was told; empty = refl }

pub judge_bulks-slots-requires : goal.judge_bulks-slots-requires
judge_bulks-slots-requires c =
    let a = c.args in
    let call = call_of a.terms a.sheet.now a.table.now a.register.now a.positions.now a.report.now in
    let check = c.check in
    let told = asked_told a.indexed _ _ call check.result c.then_some-lent.ensures check.ensures in (
      bulks_ready a.indexed call a.index.now check.result c.in_ok-contents.contents c.in_ok-contents.was told _ c.put_count.auto.out,
      entries_ready a.indexed call a.index.now check.result c.in_ok-contents.contents c.in_ok-contents.was told,
      record { formed = table_formed a.indexed call a.index.now check.result c.in_ok-contents.contents c.in_ok-contents.was told; is = c.make.ensures },
    )

pub space_for-length-requires : goal.space_for-length-requires
space_for-length-requires c =
    let a = c.args in
    let call = call_of a.terms a.sheet.now a.table.now a.register.now a.positions.now a.report.now in
    let check = c.check in
    let told = asked_told a.indexed _ _ call check.result c.then_some-lent.ensures check.ensures in
    both_few a.indexed call a.index.now check.result c.in_ok-contents.contents c.in_ok-contents.was told

pub returns : goal.returns
returns c =
    let a = c.args in
    let call = call_of a.terms a.sheet.now a.table.now a.register.now a.positions.now a.report.now in
    let check = c.check in
    let told = asked_told a.indexed _ _ call check.result c.then_some-lent.ensures check.ensures in
    judged_told a.indexed call a.index.now check.result c.in_ok-contents.contents c.in_ok-contents.was told _ _ _ _ _ _ c.put_count.ensures c.judge_bulks-slots.ensures _ c.space_for-length.ensures
