-- `slots::search_from` meets its contract: the slots from the start on, then those before it. Assumes nothing.
use mathlib.Core.Path.{◌≡◌}
use Rattle.slots.specs.Slots.{stops_at}
use Rattle.slots.specs.Stored.{key_in}
use Rattle.slots.proofs.Turns.{stop_from}
use Rattle.slots.proofs.search_from.Given as goal

abbrev pub invariant-loop-at : goal.invariant-loop-at
invariant-loop-at l =
    stop_from (stops_at (key_in l.layout l.records) l.bound l.looked) l.index l.n l.at ≡ stop_from (stops_at (key_in l.layout l.records) l.bound l.looked) l.index l.n l.from

abbrev pub invariant-loop-round : goal.invariant-loop-round
invariant-loop-round l =
    stop_from (stops_at (key_in l.layout l.records) l.bound l.looked) l.index l.from l.round ≡ stop_from (stops_at (key_in l.layout l.records) l.bound l.looked) l.index l.from 0
