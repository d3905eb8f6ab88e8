-- `slots::search_from` meets its contract: the slots from the start on, then those before it. Assumes nothing.
use mathlib.Core.Path.{sym, ap, ◌∙◌}
use native.Mathlib.Omega.{arith}
use Rattle.slots.specs.Slots.{start_at, stops_at}
use Rattle.slots.specs.Stored.{digits, key_in}
use Rattle.slots.proofs.Turns.{stop_later}
use Rattle.slots.proofs.Searches.{from_within_lem, stops_near, stops_far, stops_nowhere}
use Rattle.slots.proofs.search_from.Goals as goal

pub returns-then-stops_at : goal.returns-then-stops_at
returns-then-stops_at c =
    let args = c.args in
    let loop = c.loop-at in
    let count = c.slot_count-n.ensures in
    stops_near (stops_at (key_in args.layout args.records.now) args.bound args.looked.now) args.index.now (digits args.looked.now) _ args.from count
    (c.requires.1 ∙ ap (start_at (digits args.looked.now)) (sym count)) loop.at loop.invariant _ c.loop-at-test.true c.slot_at-name.ensures
    (sym c.stops_at.ensures ∙ c.if-stops_at.true)

pub loop-at-preserved : goal.loop-at-preserved
loop-at-preserved c =
    let args = c.args in
    let loop = c.loop-at in
    let on = ap (stops_at (key_in args.layout args.records.now) args.bound args.looked.now) (sym c.slot_at-name.ensures) ∙ sym c.stops_at.ensures ∙ c.if-stops_at.false in
    stop_later (stops_at (key_in args.layout args.records.now) args.bound args.looked.now) args.index.now _ loop.at c.loop-at-test.true on ∙ loop.invariant

pub slot_at-name-requires-in-loop-round : goal.slot_at-name-requires-in-loop-round
slot_at-name-requires-in-loop-round c =
    let args = c.args in
    let count = c.slot_count-n.ensures in
    let within = from_within_lem (stops_at (key_in args.layout args.records.now) args.bound args.looked.now) args.index.now (digits args.looked.now) _ args.from count
    (c.requires.1 ∙ ap (start_at (digits args.looked.now)) (sym count)) in
    omega (arith, count, within, c.loop-round-test.true)

pub overflow_sub-result-then-stops_at-2 : goal.overflow_sub-result-then-stops_at-2
overflow_sub-result-then-stops_at-2 c =
    let args = c.args in
    let count = c.slot_count-n.ensures in
    from_within_lem (stops_at (key_in args.layout args.records.now) args.bound args.looked.now) args.index.now (digits args.looked.now) _ args.from count
    (c.requires.1 ∙ ap (start_at (digits args.looked.now)) (sym count))

pub returns-then-stops_at-2 : goal.returns-then-stops_at-2
returns-then-stops_at-2 c =
    let args = c.args in
    let loop = c.loop-at in
    let second = c.loop-round in
    let count = c.slot_count-n.ensures in
    stops_far (stops_at (key_in args.layout args.records.now) args.bound args.looked.now) args.index.now (digits args.looked.now) _ args.from count
    (c.requires.1 ∙ ap (start_at (digits args.looked.now)) (sym count)) loop.at loop.invariant c.loop-at-test.false second.round second.invariant _
    c.loop-round-test.true c.slot_at-name-in-loop-round.ensures (sym c.stops_at-in-loop-round.ensures ∙ c.if-stops_at-2.true)

pub loop-round-preserved : goal.loop-round-preserved
loop-round-preserved c =
    let args = c.args in
    let second = c.loop-round in
    let on = ap (stops_at (key_in args.layout args.records.now) args.bound args.looked.now) (sym c.slot_at-name-in-loop-round.ensures) ∙ sym c.stops_at-in-loop-round.ensures ∙ c.if-stops_at-2.false in
    stop_later (stops_at (key_in args.layout args.records.now) args.bound args.looked.now) args.index.now _ second.round c.loop-round-test.true on ∙ second.invariant

pub returns : goal.returns
returns c =
    let args = c.args in
    let loop = c.loop-at in
    let second = c.loop-round in
    let count = c.slot_count-n.ensures in
    stops_nowhere (stops_at (key_in args.layout args.records.now) args.bound args.looked.now) args.index.now (digits args.looked.now) _ args.from count
    (c.requires.1 ∙ ap (start_at (digits args.looked.now)) (sym count)) loop.at loop.invariant c.loop-at-test.false second.round second.invariant c.loop-round-test.false
