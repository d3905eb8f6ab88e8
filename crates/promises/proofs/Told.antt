-- From what a contract tells to what holds: a fact in a contract is truncated, so it may be used for propositions only, and
-- equations are propositions in every type that a value can have. Assumes nothing.
use mathlib.Core.Path.{◌≡◌, sym, ◌∙◌}
use mathlib.Core.Logic.{∥∥₁_elim}
use mathlib.Core.Bool.{Bool, Bool-set}
use mathlib.Core.List.{List, is_set}
use Prim.Native.Nat.{ℕ}
use native.Mathlib.Nat.{ℕ_set}
use seplogic.Ra.Ura.{Ura}
use seplogic.Bi.Sat
use seplogic.Bi.Sat.{Sat}
use base.Logic.{sep, fst∗, snd∗}
use base.Stored.{Coded-set}
use contract.Monad.{fact}
use contract.Lifetimes.{Lfts}
use denote.Signature.{type_at}
use denote.Triple.Entry.{Res}
use denote.Triple.Clauses.{Ended}

-- the values of a function's result are a set
pub results : (T : Ended) (κs : Lfts T.signature.lifetimes) → IsSet (Res T.signature κs)
results T κs = Coded-set (type_at T.signature.result κs).coded

module _ {M : Type 1} (𝓤 : Ura M) where
  abbrev pub Told : Type 0 → Type 1
  Told φ = Sat 𝓤.op (fact 𝓤 φ)

  used : {φ ψ : Type 0} → IsProp ψ → (φ → ψ) → Told φ → ψ
  unfolding Sat
  used prop f s = ∥∥₁_elim s prop (λ t. ∥∥₁_elim t.1 prop (λ u. f u.0))

  -- what holds may be told
  pub tell : {φ : Type 0} → φ → Told φ
  unfolding Sat
  tell p = ∣ (𝓤.one, ∣ (p, tt) ∣₁) ∣₁

  -- a proposition that is told holds
  pub taken : {φ : Type 0} → IsProp φ → Told φ → φ
  taken prop h = used prop (λ p. p) h

  -- of two clauses, each is told
  pub first : (φ ψ : Type 0) → Sat 𝓤.op (sep 𝓤 (fact 𝓤 φ) (fact 𝓤 ψ)) → Told φ
  first φ ψ h = Sat.mono 𝓤.op (fst∗ 𝓤 (fact 𝓤 φ) (fact 𝓤 ψ)) h

  pub second : (φ ψ : Type 0) → Sat 𝓤.op (sep 𝓤 (fact 𝓤 φ) (fact 𝓤 ψ)) → Told ψ
  second φ ψ h = Sat.mono 𝓤.op (snd∗ 𝓤 (fact 𝓤 φ) (fact 𝓤 ψ)) h

  -- two values, where what is told of the one and of the other makes them equal
  pub both : {X : Type 0} → IsSet X → {φ φ' : Type 0} {x x' : X} → (φ → φ' → x ≡ x') → Told φ → Told φ' → x ≡ x'
  both set {x = x} {x' = x'} f h h' = used (set x x') (λ p. used (set x x') (λ p'. f p p') h') h

  -- two values that are both told to be e
  pub same : {X : Type 0} → IsSet X → (e : X) {x x' : X} → Told (x ≡ e) → Told (x' ≡ e) → x ≡ x'
  same set e {x} {x'} h h' = both set (λ (p : x ≡ e) (p' : x' ≡ e). p ∙ sym p') h h'

  pub number : (e : ℕ) {x x' : ℕ} → Told (x ≡ e) → Told (x' ≡ e) → x ≡ x'
  number = same ℕ_set

  pub truth : (e : Bool) {x x' : Bool} → Told (x ≡ e) → Told (x' ≡ e) → x ≡ x'
  truth = same Bool-set

  pub bytes : (e : List ℕ) {x x' : List ℕ} → Told (x ≡ e) → Told (x' ≡ e) → x ≡ x'
  bytes = same (is_set ℕ_set)
