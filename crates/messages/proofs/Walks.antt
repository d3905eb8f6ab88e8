-- A step of the judgement: the first message, and what is left. Assumes nothing.
use mathlib.Core.Path.{◌≡◌, refl, ap}
use mathlib.Core.Bool.{Bool, true, false, cond}
use mathlib.Core.List.{List, [], ◌∷◌, ◌++◌}
use Prim.Native.Nat.{ℕ, suc, ◌+◌}
use native.Mathlib.Omega.{arith}
use lib.ListN.{length}
use Rattle.register.specs.Room.{Spare}
use Rattle.register.proofs.Laws.{spare_less, spare_add}
use Rattle.index.specs.Searches.{slots_read, slots_read_by}
use Rattle.index.proofs.Ways.{AllFormed}
use Rattle.tally.specs.Tally.{Totals}
use Rattle.messages.specs.Messages.{State, is_accepted, faults_of, after_accepted, after_message, line_of, counted, judge_messages}
use Rattle.messages.specs.Searches.{message_search, message_searches}
use Rattle.messages.proofs.Sums.{plus, counted_plus}
use Rattle.rules.specs.declared.Terms.{Terms}

module _ (terms : Terms) (table header : List ℕ) (fallen : Bool) (m : List ℕ) (ms : List (List ℕ)) (before : State) where
  pub after_first : (judge_messages terms table header fallen ms (after_message terms table header fallen m before)).after
      ≡ (judge_messages terms table header fallen (m ∷ ms) before).after
  unfolding judge_messages
  after_first = refl

  pub lines_first : (judge_messages terms table header fallen (m ∷ ms) before).lines
      ≡ line_of terms table header fallen m before ++ (judge_messages terms table header fallen ms (after_message terms table header fallen m before)).lines
  unfolding judge_messages
  lines_first = refl

  pub totals_first : (t : Totals)
      → plus (counted terms table header fallen m before t) (judge_messages terms table header fallen ms (after_message terms table header fallen m before)).totals
      ≡ plus t (judge_messages terms table header fallen (m ∷ ms) before).totals
  unfolding judge_messages
  totals_first t = counted_plus terms table header fallen m before t _

-- what a message leaves, accepted or not

module _ (terms : Terms) (table header : List ℕ) (fallen : Bool) (message : List ℕ) (before : State) where
  pub after_accepted_lem : is_accepted fallen (faults_of terms table header message before) ≡ true
      → after_message terms table header fallen message before ≡ after_accepted terms table header message before
  unfolding after_message
  after_accepted_lem e = rw e

  pub after_rejected : is_accepted fallen (faults_of terms table header message before) ≡ false → after_message terms table header fallen message before ≡ before
  unfolding after_message
  after_rejected e = rw e

  -- one place at most comes into use
  pub message_spare : (n : ℕ) → Spare before.register (suc n) → Spare (after_message terms table header fallen message before).register n
  unfolding after_message
  message_spare n spare = by_verdict (is_accepted fallen (faults_of terms table header message before))
    where
      by_verdict : (t : Bool) → Spare (cond t (after_accepted terms table header message before) before).register n
      by_verdict true = spare_add before.register _ n spare
      by_verdict false = spare_less before.register (suc n) n (omega arith) spare

pub messages_spare : (terms : Terms) (table header : List ℕ) (fallen : Bool) (ms : List (List ℕ)) (before : State) (n : ℕ)
    → Spare before.register (length ms + n) → Spare (judge_messages terms table header fallen ms before).after.register n
unfolding judge_messages
messages_spare terms table header fallen [] before n spare = spare_less before.register (0 + n) n (omega arith) spare
messages_spare terms table header fallen (m ∷ ms) before n spare =
    messages_spare terms table header fallen ms (after_message terms table header fallen m before) n
    (message_spare terms table header fallen m before (length ms + n) (spare_less before.register (suc (length ms) + n) (suc (length ms + n)) (omega arith) spare))

-- ---- the searches

module _ (terms : Terms) (table header : List ℕ) (fallen indexed : Bool) where
  pub slots_first : (m : List ℕ) (ms : List (List ℕ)) (before : State)
      → slots_read_by indexed (message_searches terms table header fallen (m ∷ ms) before)
      ≡ slots_read indexed (message_search header m before) + slots_read_by indexed (message_searches terms table header fallen ms (after_message terms table header fallen m before))
  unfolding message_searches slots_read_by
  slots_first m ms before = refl

  pub searches_length : (ms : List (List ℕ)) (before : State) → length (message_searches terms table header fallen ms before) ≡ length ms
  unfolding message_searches
  searches_length [] before = refl
  searches_length (m ∷ ms) before = ap suc (searches_length ms (after_message terms table header fallen m before))

  -- each is made in a register that is well formed
  pub messages_formed : (ms : List (List ℕ)) (before : State) → Spare before.register (length ms) → AllFormed (message_searches terms table header fallen ms before)
  unfolding message_searches AllFormed
  messages_formed [] before spare = tt
  messages_formed (m ∷ ms) before spare =
      (spare.formed, messages_formed ms (after_message terms table header fallen m before) (message_spare terms table header fallen m before (length ms) spare))
