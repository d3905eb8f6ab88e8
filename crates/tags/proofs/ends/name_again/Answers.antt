-- `tags::ends::name_again` meets its contract: what is left of the name, from the place reached on, comes to what the whole does. Assumes nothing.
use mathlib.Core.Path.{◌≡◌, sym, ◌∙◌}
use Prim.Native.Nat.{◌+◌}
use native.Mathlib.Nat.{add-zero}
use native.Mathlib.Omega.{arith}
use Rattle.letters.proofs.Scans.{run_inside, again_ends, again_short, again_differs, again_on}
use Rattle.tags.specs.Names.{name_byte}
use Rattle.tags.proofs.ends.name_again.Goals as goal

pub loop-k-init : goal.loop-k-init
loop-k-init c = simp add-zero

pub bounds-s-from : goal.bounds-s-from
bounds-s-from c =
    let args = c.args in
    omega (arith, run_inside name_byte args.s.now args.from (omega arith))

pub returns-then-s-at : goal.returns-then-s-at
returns-then-s-at c =
    let args = c.args in
    let loop = c.loop-k in
    let inside = run_inside name_byte args.s.now args.from (omega arith) in
    sym (again_differs args.s.now args.to (args.from + loop.k) (args.at + loop.k) (omega arith) (omega arith) c.if-s-at.true) ∙ loop.invariant

pub loop-k-preserved : goal.loop-k-preserved
loop-k-preserved c =
    let args = c.args in
    let loop = c.loop-k in
    let inside = run_inside name_byte args.s.now args.from (omega arith) in
    let step = again_on args.s.now args.to (args.from + loop.k) (args.at + loop.k) (omega arith) (omega arith)
    (args.from + (loop.k + 1)) (args.at + (loop.k + 1)) (omega arith) (omega arith) (omega arith) c.if-s-at.false in
    sym step ∙ loop.invariant

pub returns-then-from-n : goal.returns-then-from-n
returns-then-from-n c =
    let args = c.args in
    let loop = c.loop-k in
    let inside = run_inside name_byte args.s.now args.from (omega arith) in
    let all : loop.k ≡ c.least-n.result = omega arith in
    rw (← all) (sym (again_short args.s.now args.to (args.from + loop.k) (args.at + loop.k) (omega arith) (omega arith) (omega arith)) ∙ loop.invariant)

pub returns-else-from-n : goal.returns-else-from-n
returns-else-from-n c =
    let args = c.args in
    let loop = c.loop-k in
    let all : loop.k ≡ c.least-n.result = omega arith in
    rw (← all) (sym (again_ends args.s.now args.to (args.from + loop.k) (args.at + loop.k) (omega arith)) ∙ loop.invariant)
