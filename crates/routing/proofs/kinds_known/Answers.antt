-- `routing::kinds_known` meets its contract: what is left of the scan comes to what the whole scan comes to. Assumes nothing.
use mathlib.Core.Path.{◌≡◌, sym, ap, ◌∙◌}
use mathlib.Core.Bool.{true, false}
use Rattle.wire.proofs.Scans.{every_fails, every_more, every_ends}
use Rattle.routing.specs.Table.{known_kind, kind_at}
use Rattle.routing.proofs.Laws.{kinds_start}
use Rattle.routing.proofs.kinds_known.Goals as goal

pub loop-i-init : goal.loop-i-init
loop-i-init c = kinds_start _ _ c.rows-i-end.ensures

pub returns-then-not-known_kind : goal.returns-then-not-known_kind
returns-then-not-known_kind c =
    let table = c.args.table.now in
    let loop = c.loop-i in
    let here : known_kind (kind_at table loop.i) ≡ false = ap known_kind (sym c.kind_at.ensures) ∙ sym c.known_kind.ensures ∙ c.if-not-known_kind.true in
    sym (every_fails (λ k. known_kind (kind_at table k)) _ loop.i c.loop-i-test.true here) ∙ loop.invariant

pub loop-i-preserved : goal.loop-i-preserved
loop-i-preserved c =
    let table = c.args.table.now in
    let loop = c.loop-i in
    let here : known_kind (kind_at table loop.i) ≡ true = ap known_kind (sym c.kind_at.ensures) ∙ sym c.known_kind.ensures ∙ c.if-not-known_kind.false in
    every_more (λ k. known_kind (kind_at table k)) _ loop.i c.loop-i-test.true here ∙ loop.invariant

pub returns : goal.returns
returns c =
    let table = c.args.table.now in
    sym (every_ends (λ k. known_kind (kind_at table k)) _ c.loop-i.i c.loop-i-test.false) ∙ c.loop-i.invariant
