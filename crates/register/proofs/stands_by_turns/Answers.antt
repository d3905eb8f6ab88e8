-- `register::stands_by_turns` meets its contract: what is left of the search, turn by turn, comes to what the whole search comes to.
-- Assumes nothing.
use mathlib.Core.Path.{◌≡◌, sym, ◌∙◌}
use mathlib.Core.Bool.{Bool}
use mathlib.Core.List.{List}
use Prim.Native.Nat.{ℕ, ◌+◌, ◌*◌, ◌≤◌}
use native.Mathlib.Omega.{arith}
use Rattle.register.proofs.Search.{stands_left, stands_ends, turn_finds, turn_goes_on}
use Rattle.register.proofs.stands_by_turns.Invariants.{turn}
use Rattle.register.proofs.stands_by_turns.Goals as goal

begun : (r x : List ℕ) (to from : ℕ) → stands_left r x to (from + turn * 0) ≡ stands_left r x to from
begun r x to from = let none : from + turn * 0 ≡ from = omega arith in rw none

-- all turns are over: what is left lies behind them
rest : (r x : List ℕ) (to from turns i : ℕ) (t all : Bool) → t ≡ stands_left r x to (from + turn * turns) → turns ≤ i → i ≤ turns
    → stands_left r x to (from + turn * i) ≡ all → t ≡ all
rest r x to from turns i t all told past within left = let last : turns ≡ i = omega arith in (rw last at told) ∙ left

pub returns-then-from-to : goal.returns-then-from-to
returns-then-from-to c =
    let args = c.args in
    sym (stands_ends args.register.now args.key.now args.to args.from (omega arith))

pub loop-i-init : goal.loop-i-init
loop-i-init c = begun _ _ _ _

pub returns-then-stands_between : goal.returns-then-stands_between
returns-then-stands_between c =
    let args = c.args in
    let loop = c.loop-i in
    let at = args.from + turn * loop.i in
    sym (turn_finds args.register.now args.key.now args.to at _ _ c.stands_between.ensures (omega arith) (omega arith) c.if-stands_between.true) ∙ loop.invariant

pub loop-i-preserved : goal.loop-i-preserved
loop-i-preserved c =
    let args = c.args in
    let loop = c.loop-i in
    let at = args.from + turn * loop.i in
    let next : args.from + turn * (loop.i + 1) ≡ at + turn = omega arith in
    rw next (turn_goes_on args.register.now args.key.now args.to at _ _ c.stands_between.ensures (omega arith) (omega arith) c.if-stands_between.false ∙ loop.invariant)

pub returns : goal.returns
returns c =
    let loop = c.loop-i in
    rest _ _ _ _ _ loop.i _ _ c.stands_between-2.ensures c.loop-i-test.false loop.auto.i-end loop.invariant
