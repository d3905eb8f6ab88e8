-- `slots::is_built` meets its contract: a turn of the loop checks a record. Assumes nothing.
use mathlib.Core.Path.{◌≡◌, sym, ap, ◌∙◌}
use Prim.Native.Nat.{◌+◌, ◌-◌}
use native.Mathlib.Omega.{arith}
use Rattle.slots.specs.Asked.{front_at}
use Rattle.slots.proofs.Checking.{checking_counts, checking_passes, checking_fails, checking_many, checking_ends}
use Rattle.slots.proofs.is_built.Goals as goal
use Rattle.slots.proofs.is_built.Goals.{then-name-k, else-name-k}

pub returns-then-m-all : goal.returns-then-m-all
returns-then-m-all c =
    let args = c.args in
    checking_many args.layout args.records.now args.index.now args.m _ c.taken-all.ensures
    (λ i. omega (arith, c.type_inv.index i)) c.requires.1 c.if-m-all.true

pub returns-then-not-names : goal.returns-then-not-names
returns-then-not-names c =
    let args = c.args in
    let loop = c.loop-k in
    checking_fails args.layout args.records.now args.index.now args.m loop.count loop.k loop.invariant.0 _ c.search_from-ended.result
    c.key_in-key.ensures c.search_from-ended.ensures c.loop-k-test.true
    (λ i. omega (arith, c.type_inv.index i)) c.requires.1
    (sym c.names.ensures ∙ c.if-not-names.true)

pub loop-k-preserved : goal.loop-k-preserved
loop-k-preserved c =
    let args = c.args in
    let loop = c.loop-k in
    let fits = sym c.names.ensures ∙ c.if-not-names.false in
    let counts = checking_counts args.layout args.records.now args.index.now args.m loop.count loop.k loop.invariant.0 _ c.search_from-ended.result
    c.key_in-key.ensures c.search_from-ended.ensures c.loop-k-test.true fits in
    let passes = checking_passes args.layout args.records.now args.index.now args.m loop.count loop.k loop.invariant.0 _ c.search_from-ended.result
    c.key_in-key.ensures c.search_from-ended.ensures c.loop-k-test.true fits in
    let back : loop.k ≡ loop.k + 1 - 1 = omega arith in
    (elim c.if-name-k.branch [ then-name-k w ↦ rw w.count-is (counts w.if-name-k.true) | else-name-k w ↦ rw w.count-is (passes w.if-name-k.false) ], λ some. c.front_at-front.ensures ∙ ap (front_at args.layout args.records.now _) back)

pub returns : goal.returns
returns c =
    let args = c.args in
    let loop = c.loop-k in
    checking_ends args.layout args.records.now args.index.now args.m _ c.taken-all.ensures
    (λ i. omega (arith, c.type_inv.index i)) c.requires.1
    loop.count loop.k loop.invariant.0 c.loop-k-test.false
