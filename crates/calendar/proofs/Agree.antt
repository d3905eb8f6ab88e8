-- Two functions that agree at each number below a limit, tried one by one: a row of `refl`. Assumes nothing.
use mathlib.Core.Path.{◌≡◌}
use mathlib.Core.Logic.{⊎_elim}
use Prim.Native.Nat.{ℕ, zero, suc, ◌<◌}
use native.Mathlib.Nat.{eq-or-lt_of_le, le_of_suc-le-suc}
use native.Mathlib.Omega.{arith}

-- f and g agree at each number below n
abbrev pub Agree : (ℕ → ℕ) → (ℕ → ℕ) → ℕ → Type 0
Agree f g zero = Unit {0}
Agree f g (suc n) = Agree f g n × (f n ≡ g n)

pub agree : (f g : ℕ → ℕ) (n : ℕ) → Agree f g n → (m : ℕ) → m < n → f m ≡ g m
agree f g zero t m h = absurd (omega arith)
agree f g (suc n) t m h =
    ⊎_elim (λ (e : m ≡ n). rw e t.1) (λ l. agree f g n t.0 m l) (eq-or-lt_of_le (le_of_suc-le-suc h))
