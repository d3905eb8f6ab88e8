-- What the judgement comes to, for each bulk: its messages and cents are all counted, accepted or rejected. Assumes nothing.
use mathlib.Core.Path.{◌≡◌}
use mathlib.Core.List.{List}
use Prim.Native.Nat.{ℕ, ◌+◌}
use lib.ListN.{length}
use Rattle.sheet.specs.Sheet.{Bulk}
use Rattle.rules.specs.declared.Terms.{Terms}
use Rattle.messages.specs.Messages.{State, sum_of}
use Rattle.messages.proofs.Demands.{messages_held}
use Rattle.judging.specs.Judgement.{messages_judged}

module _ (terms : Terms) (table : List ℕ) where
  -- accepted and rejected numbers of a bulk add up to the messages that it holds
  pub numbers_add_up : (bulk : Bulk) (before : State)
      → (messages_judged terms table bulk before).totals.accepted_number + (messages_judged terms table bulk before).totals.rejected_number ≡ length bulk.messages
  numbers_add_up bulk before = (messages_held terms table bulk.header _ bulk.messages before).numbers

  -- accepted and rejected cents of a bulk add up to the true sum of its amounts
  pub cents_add_up : (bulk : Bulk) (before : State)
      → (messages_judged terms table bulk before).totals.accepted_cents + (messages_judged terms table bulk before).totals.rejected_cents ≡ sum_of bulk.messages
  cents_add_up bulk before = (messages_held terms table bulk.header _ bulk.messages before).amounts
