-- What the judgement of a bulk's messages comes to: all of them and all their cents are counted, accepted or rejected. Assumes
-- nothing.
use mathlib.Core.Path.{◌≡◌, refl}
use mathlib.Core.Bool.{Bool, true, false, cond}
use mathlib.Core.List.{List, [], ◌∷◌}
use Prim.Native.Nat.{ℕ, ◌+◌}
use native.Mathlib.Omega.{arith}
use lib.ListN.{length}
use Rattle.sheet.specs.Sheet.{amount_of}
use Rattle.rules.specs.declared.Terms.{Terms}
use Rattle.tally.specs.Tally.{Totals, with_accepted, with_rejected}
use Rattle.messages.specs.Messages.{State, sum_of, is_accepted, faults_of, counted, after_message, judge_messages}

-- so many messages, of so many cents
pub record Holds (t : Totals) (messages cents : ℕ) : Type 0 where
  pub numbers : t.accepted_number + t.rejected_number ≡ messages
  pub amounts : t.accepted_cents + t.rejected_cents ≡ cents

one_more_lem : (b : Bool) (t : Totals) (amount messages cents : ℕ) → Holds t messages cents
    → Holds (cond b (with_accepted t amount) (with_rejected t amount)) (messages + 1) (amount + cents)
one_more_lem true t amount messages cents h = (let a = h.numbers in let b = h.amounts in record { numbers = omega arith; amounts = omega arith })
one_more_lem false t amount messages cents h = (let a = h.numbers in let b = h.amounts in record { numbers = omega arith; amounts = omega arith })

module _ (terms : Terms) (table : List ℕ) where
  pub messages_held : (header : List ℕ) (fallen : Bool) (messages : List (List ℕ)) (before : State)
      → Holds (judge_messages terms table header fallen messages before).totals (length messages) (sum_of messages)
  unfolding judge_messages sum_of counted
  messages_held header fallen [] before = record { numbers = refl; amounts = refl }
  messages_held header fallen (m ∷ ms) before =
      let rest = messages_held header fallen ms (after_message terms table header fallen m before) in
      let all = one_more_lem (is_accepted fallen (faults_of terms table header m before)) _ (amount_of m) (length ms) (sum_of ms) rest in
      record { numbers = (let n = all.numbers in omega arith); amounts = all.amounts }
