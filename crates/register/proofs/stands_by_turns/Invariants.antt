-- `register::stands_by_turns` meets its contract: what is left of the search, turn by turn, comes to what the whole search comes to.
-- Assumes nothing.
use mathlib.Core.Path.{◌≡◌}
use Prim.Native.Nat.{ℕ, ◌+◌, ◌*◌}
use Rattle.register.proofs.Search.{stands_left}
use Rattle.register.proofs.stands_by_turns.Given as goal

-- how many entries a turn compares
abbrev pub turn : ℕ
turn = 8

abbrev pub invariant-loop-i : goal.invariant-loop-i
invariant-loop-i l = stands_left l.register l.key l.to (l.from + turn * l.i) ≡ stands_left l.register l.key l.to l.from
