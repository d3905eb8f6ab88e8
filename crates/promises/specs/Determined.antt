-- When a contract determines what a call comes to. It is asked of the contract that Rattle makes of a function's own clauses,
-- so no second text stands between a function and what is said of it here. Assumes nothing.
use Rattle.std.specs.Prelude.{◌≡◌, List}
use seplogic.Ra.Ura.{Ura}
use seplogic.Bi.Sat.{Sat}
use base.Logic.{SProp}
use prog.Memory.{Memory}
use prog.Routine.{Routine}
use types.Logic.{Logic}
use mir.Val.{Val}
use contract.Lifetimes.{Lfts}
use contract.Monad.{Fun}
use denote.Laws.{Is}
use Rattle.std.specs.Borrow.{RattleType}
use denote.Signature.{type_at}
use denote.Triple.Entry.{Args, Res}
use denote.Triple.Clauses.{Ended, Clauses, Lasts, at_exit}

-- x is a value of its type: some machine values are those of x. So a u64 is below 2^64.
abbrev pub Held : (R : RattleType) → R.Denot → Type 0
Held R x = (machine : List Val) × Is R x machine

module _ {M : Type 1} (𝓤 : Ura M) (T : Ended) (contract : Clauses 𝓤 T) where
  abbrev Lifetimes : Type 0
  Lifetimes = Lfts T.signature.lifetimes

  abbrev Result : Lifetimes → Type 0
  Result κs = Res T.signature κs

  module _ (κs : Lifetimes) (a : Args T.signature κs) (g : (contract κs a).ghost) where
    -- the contract allows the call a to come to the result r and to leave ws in what was lent
    pub record Allows (r : Result κs) (ws : Lasts T κs a) : Type 1 where
      pub held : Held (type_at T.signature.result κs) r
      pub told : Sat 𝓤.op ((contract κs a).ensures g r (at_exit T κs a ws))

  -- Two results that it allows, as `seen` reads them, are equal, and so is what they leave. It is asked of every call: what the
  -- function requires is not assumed.
  abbrev pub Determines : {Seen : Lifetimes → Type 0} → ((κs : Lifetimes) → Result κs → Seen κs) → Type 1
  Determines seen =
      (κs : Lifetimes) (a : Args T.signature κs) (g : (contract κs a).ghost) (r r' : Result κs) (ws ws' : Lasts T κs a)
      → Allows κs a g r ws → Allows κs a g r' ws' → (seen κs r ≡ seen κs r') × (ws ≡ ws')

module _ {M : Type 1} {𝓤 : Ura M} (𝓛 : Logic 𝓤) (mem : Memory → SProp 𝓤) (run : Routine → Fun 𝓤) where
  -- a contract as Rattle makes it, for every logic over 𝓤 in which a proof may stand
  abbrev pub Contract : Ended → Type 2
  Contract T = (𝓛 : Logic 𝓤) → (Memory → SProp 𝓤) → (Routine → Fun 𝓤) → Clauses 𝓤 T

  -- the result itself is determined
  abbrev pub Determined : (T : Ended) → Contract T → Type 1
  Determined T contract = Determines 𝓤 T (contract 𝓛 mem run) {Seen = λ κs. Res T.signature κs} (λ κs r. r)
