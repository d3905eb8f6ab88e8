-- `sheet::kinds_known` meets its contract: what is left of the headers comes to what all of them come to. Assumes nothing.
use mathlib.Core.Path.{◌≡◌, sym, ap, ◌∙◌}
use mathlib.Core.Bool.{true, false}
use Rattle.sheet.specs.Sheet.{header_at, kind_of, known_kind, kinds_known}
use Rattle.sheet.proofs.Laws.{head_of, headers_end, known_left}
use Rattle.sheet.proofs.kinds_known.Goals as goal

pub returns-then-not-kind : goal.returns-then-not-kind
returns-then-not-kind c =
    let loop = c.loop-k in
    let here : known_kind (kind_of (header_at c.args.s.now (head_of loop.k))) ≡ false = ap known_kind (sym c.kind_at-kind.ensures) ∙ c.if-not-kind.true in
    sym (known_left c.args.s.now c.args.n loop.k c.loop-k-test.true ∙ (rw here)) ∙ loop.invariant

pub loop-k-preserved : goal.loop-k-preserved
loop-k-preserved c =
    let loop = c.loop-k in
    let here : known_kind (kind_of (header_at c.args.s.now (head_of loop.k))) ≡ true = ap known_kind (sym c.kind_at-kind.ensures) ∙ c.if-not-kind.false in
    sym (known_left c.args.s.now c.args.n loop.k c.loop-k-test.true ∙ (rw here)) ∙ loop.invariant

pub returns : goal.returns
unfolding kinds_known
returns c =
    let loop = c.loop-k in
    (rw (headers_end c.args.s.now c.args.n loop.k c.loop-k-test.false) at loop.invariant)
