-- A run of files on the same terms and table, each judged on what the one before it left, and what holds over it. Assumes nothing.
use Rattle.std.specs.Prelude.{ℕ, ◌≡◌, true, cond, List, [], ◌∷◌, ◌++◌, map, eqb, pos, ◌+ℤ◌, ◌-ℤ◌}
use Rattle.wire.specs.Field.{Bytes, number_at}
use Rattle.register.specs.Register.{message_tag, tag_place, entry, used, entries_of, keys_of, stands}
use Rattle.positions.specs.Positions.{position_at, signed}
use Rattle.rules.specs.declared.Terms.{Terms}
use Rattle.refusing.specs.Refusals.{Call}
use Rattle.messages.specs.Messages.{State}
use Rattle.promises.specs.Reading.{Judge, Payment, accepted, recorded, payment_key, cents_to, cents_from}

-- ---- a run

-- a file, and the space that is lent for its report
pub record File : Type 0 where
  pub sheet : List ℕ
  pub space : List ℕ

-- the messages that the reports of a run say were accepted, the keys recorded, both in order, and the register and positions after it
pub record Ran : Type 0 where
  pub accepted : List Payment
  pub recorded : List (List ℕ)
  pub after : State

-- a file judged on a state
abbrev pub call_on : Terms → List ℕ → File → State → Call
call_on terms table file before =
    record {
      terms = terms;
      sheet = file.sheet;
      table = table;
      register = before.register;
      positions = before.positions;
      report = file.space;
    }

module _ (judge : Judge) (terms : Terms) (table : List ℕ) where
  abbrev pub state_after : File → State → State
  state_after file before = let left = judge (call_on terms table file before) in record { register = left.register; positions = left.positions }

  unfoldable pub run : List File → State → Ran
  run [] before = record { accepted = []; recorded = []; after = before }
  run (f ∷ fs) before =
      let left = judge (call_on terms table f before) in
      let rest = run fs (state_after f before) in
      record {
        accepted = accepted f.sheet left ++ rest.accepted;
        recorded = recorded f.sheet left ++ rest.recorded;
        after = rest.after;
      }

-- ---- no identifier of a sender twice

abbrev pub SamePayment : Payment → Payment → Type 0
SamePayment p q = (p.sender ≡ q.sender) × (p.identifier ≡ q.identifier)

-- none of these has the sender and the identifier of p
unfoldable pub NoneLike : Payment → List Payment → Type 0
NoneLike p [] = Unit {0}
NoneLike p (q ∷ qs) = (SamePayment p q → ⊥) × NoneLike p qs

unfoldable pub NoneTwice : List Payment → Type 0
NoneTwice [] = Unit {0}
NoneTwice (p ∷ ps) = NoneLike p ps × NoneTwice ps

-- ---- what stands in the register

-- the keys that bear the tag of a message
unfoldable pub with_message_tag : List (List ℕ) → List (List ℕ)
with_message_tag [] = []
with_message_tag (k ∷ ks) = cond (eqb (number_at k tag_place 1) message_tag) (k ∷ with_message_tag ks) (with_message_tag ks)

-- of the entries in use
abbrev pub message_keys : List ℕ → List (List ℕ)
message_keys register = with_message_tag (keys_of register)

-- each of them stands there
unfoldable pub AllStand : List ℕ → List Payment → Type 0
AllStand register [] = Unit {0}
AllStand register (p ∷ ps) = (stands register (payment_key p) ≡ true) × AllStand register ps

-- ---- what holds

pub record RunHolds (terms : Terms) (table : List ℕ) (before : State) (ran : Ran) : Type 0 where
  -- no sender's message identifier is accepted twice
  pub once : NoneTwice ran.accepted
  -- the entries in use are those before the run, then for each file in order what its report says was recorded
  pub recorded : entries_of ran.after.register ≡ entries_of before.register ++ map entry ran.recorded
  -- so every accepted message stands there, and no other message was recorded
  pub stands : AllStand ran.after.register ran.accepted
  pub messages : message_keys ran.after.register ≡ message_keys before.register ++ map payment_key ran.accepted
  -- each row's position is its start plus the cents accepted to it less the cents accepted from it
  pub positions : (j : ℕ)
      → signed (position_at ran.after.positions j)
      ≡ signed (position_at before.positions j) +ℤ pos (cents_to terms table j ran.accepted) -ℤ pos (cents_from terms table j ran.accepted)

-- demand 3, the run: of a judge, for any files, refused ones among them, from any register and any positions
abbrev pub RunsAsPromised : Judge → Type 0
RunsAsPromised judge =
    (terms : Terms) (table : List ℕ) (before : State) (files : List File) → Bytes before.positions
    → RunHolds terms table before (run judge terms table files before)

-- and from an empty one, whatever stands past the number used: the entries in use are those that the reports tell of
abbrev pub EmptyRegisterFills : Judge → Type 0
EmptyRegisterFills judge =
    (terms : Terms) (table : List ℕ) (before : State) (files : List File) → used before.register ≡ 0 → Bytes before.positions
    → let ran = run judge terms table files before in entries_of ran.after.register ≡ map entry ran.recorded
