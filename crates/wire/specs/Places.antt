-- A search and a test over numbered places, in order. Assumes nothing.
use Rattle.std.specs.Prelude.{ℕ, zero, suc, Bool, true, cond, ◌&&◌}
use Rattle.std.proofs.Math.Option.{Option, none, some}

-- the first of the n places from i on at which the test holds
unfoldable pub first_from : (ℕ → Bool) → ℕ → ℕ → Option ℕ
first_from f zero i = none
first_from f (suc n) i = cond (f i) (some i) (first_from f n (suc i))

-- the test holds at each of the n places from i on
unfoldable pub every_from : (ℕ → Bool) → ℕ → ℕ → Bool
every_from f zero i = true
every_from f (suc n) i = f i && every_from f n (suc i)
