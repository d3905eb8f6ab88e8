-- From what is asked to the code, for any function. What its own contract, as Rattle makes it of its clauses, allows a call to come to is
-- read as what the call is given and what it leaves. Something is asked of these two, and of the code itself. Assumes nothing.
use Rattle.std.specs.Prelude.{◌≡◌}
use seplogic.Ra.Ura.{Ura}
use base.Logic.{emp}
use prog.Model.{Model}
use prog.Wired.{Code, Wired}
use mir.Syntax.{Callee}
use types.Logic.{Logic}
use contract.Lifetimes.{Lfts}
use contract.Monad.{fact}
use contract.Running.{Running}
use denote.Triple.Entry.{Args, Res}
use denote.Triple.Spec.{Meets}
use denote.Triple.Clauses.{Ended, Clauses, Lasts, AtExit, at_exit, closing}
use Rattle.promises.specs.Determined.{Allows}

-- what calls are read as, and what is asked of each
pub record Asked : Type 1 where
  pub Given : Type 0
  pub Left : Type 0
  pub each : Given → Left → Type 0

-- a function whose calls are so read: its signature, its contract, and how
pub record Entry {M : Type 1} (𝓤 : Ura M) (asked : Asked) : Type 2 where
  pub function : Ended
  pub contract : Clauses 𝓤 function
  pub given : (κs : Lfts function.signature.lifetimes) → Args function.signature κs → asked.Given
  pub left : (κs : Lfts function.signature.lifetimes) → Res function.signature κs → AtExit function κs → asked.Left

module _ {M : Type 1} (𝓤 : Ura M) {asked : Asked} where
  -- the contract allows some call that is read so to come to what is read so
  pub record Comes (entry : Entry 𝓤 asked) (call : asked.Given) (out : asked.Left) : Type 1 where
    pub lifetimes : Lfts entry.function.signature.lifetimes
    pub arguments : Args entry.function.signature lifetimes
    pub ghost : (entry.contract lifetimes arguments).ghost
    pub result : Res entry.function.signature lifetimes
    pub last : Lasts entry.function lifetimes arguments
    pub allowed : Allows 𝓤 entry.function entry.contract lifetimes arguments ghost result last
    pub given : entry.given lifetimes arguments ≡ call
    pub left : entry.left lifetimes result (at_exit entry.function lifetimes arguments last) ≡ out

  -- whatever the contract allows for a call meets what is asked of each
  abbrev pub EachMeets : Entry 𝓤 asked → Type 1
  EachMeets entry = (call : asked.Given) (out : asked.Left) → Comes entry call out → asked.each call out

  -- every answer of a function is one that the contract allows
  abbrev pub AllowedBy : Entry 𝓤 asked → (asked.Given → asked.Left) → Type 1
  AllowedBy entry answer = (call : asked.Given) → Comes entry call (answer call)

  -- a contract that requires nothing, and ensures what is asked
  abbrev pub demanding : (entry : Entry 𝓤 asked) → Clauses 𝓤 entry.function
  demanding entry κs a =
      record {
        ghost = Unit {0};
        requires = λ g. emp 𝓤;
        ensures = λ g r e. fact 𝓤 (asked.each (entry.given κs a) (entry.left κs r e));
      }

  -- code, called by its name with anything, meets it, wherever names stand for that code
  abbrev pub CodeMeets : (𝓛 : Logic 𝓤) (𝓜 : Model 𝓤 𝓛.H) (𝓡 : Running 𝓤 𝓛.H 𝓜) → Entry 𝓤 asked → Code → Callee → Type 1
  CodeMeets 𝓛 𝓜 𝓡 entry code name =
      Wired 𝓡.env code → Meets 𝓛 entry.function.signature (𝓡.run (𝓡.env name)) (closing 𝓛 entry.function (demanding entry))
