-- `judging::bulks::judge_bulks` meets its contract. Assumes nothing.
use mathlib.Core.Path.{refl, ◌∙◌}
use Rattle.messages.specs.Ready.{state_of}
use Rattle.judging.proofs.Rounds.{bulks_start, bulk_inside, section_ready, bulk_space, bulk_places, header_ready, told_there, section_within, line_within, slots_room, bulks_turn, bulks_ended}
use Rattle.judging.proofs.bulks.judge_bulks.Goals as goal

pub loop-k-init : goal.loop-k-init
loop-k-init c =
    let a = c.args in
    let walk = c.start-walk.ensures in
    let places = c.first-places.ensures in
    bulks_start a.asked.now.terms a.asked.now.table.now a.asked.now.sheet.now a.indexed a.contents.bulks (state_of a.register.now a.positions.now) a.index.now a.report.now a.contents refl c.requires.0 c.requires.1 _ _ walk.heads walk.bodies _ _ places.line_is places.section_is

pub bulk-requires : goal.bulk-requires
bulk-requires c =
    let a = c.args in
    let l = c.loop-k in
    bulk_inside a.asked.now.terms a.asked.now.table.now a.asked.now.sheet.now a.indexed a.contents.bulks (state_of a.register.now a.positions.now) a.index.now a.report.now l.register l.index l.positions l.report l.slots l.walk.heads.at l.walk.bodies.at l.places.line l.places.section l._k l.invariant c.loop-k-test.true

pub judge_bulk-slots-requires : goal.judge_bulk-slots-requires
judge_bulk-slots-requires c =
    let a = c.args in
    let l = c.loop-k in
    let low = c.loop-k-test.true in
    let read = c.bulk in (
      header_ready a.asked.now.terms a.asked.now.table.now a.asked.now.sheet.now a.indexed a.contents.bulks (state_of a.register.now a.positions.now) a.index.now a.report.now l.register l.index l.positions l.report l.slots l.walk.heads.at l.walk.bodies.at l.places.line l.places.section l._k l.invariant low read.result read.ensures (l.invariant.positions_wide ∙ c.requires.0.places),
      section_ready a.asked.now.terms a.asked.now.table.now a.asked.now.sheet.now a.indexed a.contents.bulks (state_of a.register.now a.positions.now) a.index.now a.report.now l.register l.index l.positions l.report l.slots l.walk.heads.at l.walk.bodies.at l.places.line l.places.section l._k l.invariant low read.result read.ensures,
      bulk_space a.asked.now.terms a.asked.now.table.now a.asked.now.sheet.now a.indexed a.contents.bulks (state_of a.register.now a.positions.now) a.index.now a.report.now l.register l.index l.positions l.report l.slots l.walk.heads.at l.walk.bodies.at l.places.line l.places.section l._k l.invariant low read.result read.ensures l.places refl refl,
      bulk_places a.asked.now.terms a.asked.now.table.now a.asked.now.sheet.now a.indexed a.contents.bulks (state_of a.register.now a.positions.now) a.index.now a.report.now l.register l.index l.positions l.report l.slots l.walk.heads.at l.walk.bodies.at l.places.line l.places.section l._k l.invariant low read.result read.ensures,
      c.requires.2,
    )

pub overflow_add-slots : goal.overflow_add-slots
overflow_add-slots c =
    let a = c.args in
    let l = c.loop-k in
    let low = c.loop-k-test.true in
    let read = c.bulk in
    let judged = told_there a.asked.now.terms a.asked.now.table.now a.asked.now.sheet.now a.indexed a.contents.bulks (state_of a.register.now a.positions.now) a.index.now a.report.now l.register l.index l.positions l.report l.slots l.walk.heads.at l.walk.bodies.at l.places.line l.places.section l._k l.invariant low read.result read.ensures l.places _ _ _ _ _ refl refl c.judge_bulk-slots.ensures in
    record { fits = slots_room a.asked.now.terms a.asked.now.table.now a.asked.now.sheet.now a.indexed a.contents.bulks (state_of a.register.now a.positions.now) a.index.now a.report.now l.register l.index l.positions l.report l.slots l.walk.heads.at l.walk.bodies.at l.places.line l.places.section l._k l.invariant low _ judged.read }

pub next-places-requires : goal.next-places-requires
next-places-requires c =
    let a = c.args in
    let l = c.loop-k in
    let low = c.loop-k-test.true in
    let taken = c.bulk.ensures in
    let judged = c.judge_bulk-slots in (
      line_within a.asked.now.terms a.asked.now.table.now a.asked.now.sheet.now a.indexed a.contents.bulks (state_of a.register.now a.positions.now) a.index.now a.report.now l.register l.index l.positions l.report l.slots l.walk.heads.at l.walk.bodies.at l.places.line l.places.section l._k l.invariant low judged.new.report judged.auto.report,
      section_within a.asked.now.terms a.asked.now.table.now a.asked.now.sheet.now a.indexed a.contents.bulks (state_of a.register.now a.positions.now) a.index.now a.report.now l.register l.index l.positions l.report l.slots l.walk.heads.at l.walk.bodies.at l.places.line l.places.section l._k l.invariant low judged.new.report judged.auto.report _ taken.number,
    )

pub loop-k-preserved : goal.loop-k-preserved
loop-k-preserved c =
    let a = c.args in
    let l = c.loop-k in
    let low = c.loop-k-test.true in
    let read = c.bulk in
    let taken = read.ensures in
    let judged = c.judge_bulk-slots in
    let moved = c.next-places.ensures in
    bulks_turn a.asked.now.terms a.asked.now.table.now a.asked.now.sheet.now a.indexed a.contents.bulks (state_of a.register.now a.positions.now) a.index.now a.report.now l.register l.index l.positions l.report l.slots l.walk.heads.at l.walk.bodies.at l.places.line l.places.section l._k l.invariant low _ _ _ _ _ (told_there a.asked.now.terms a.asked.now.table.now a.asked.now.sheet.now a.indexed a.contents.bulks (state_of a.register.now a.positions.now) a.index.now a.report.now l.register l.index l.positions l.report l.slots l.walk.heads.at l.walk.bodies.at l.places.line l.places.section l._k l.invariant low read.result taken l.places _ _ _ _ _ refl refl judged.ensures)
    judged.auto.register judged.auto.index judged.auto.positions judged.auto.report _ _ _ _ _ taken.number taken.heads taken.bodies moved.line_is moved.section_is

pub returns : goal.returns
returns c =
    let a = c.args in
    let l = c.loop-k in
    bulks_ended a.asked.now.terms a.asked.now.table.now a.asked.now.sheet.now a.indexed a.contents.bulks (state_of a.register.now a.positions.now) a.index.now a.report.now l.register l.index l.positions l.report l.slots l.walk.heads.at l.walk.bodies.at l.places.line l.places.section l._k l.invariant c.loop-k-test.false
