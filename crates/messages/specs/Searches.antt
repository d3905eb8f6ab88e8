-- The searches that the judgement of a bulk's messages makes: one for each message, in the register as the ones before it left it.
-- Assumes nothing.
use Rattle.std.specs.Prelude.{ℕ, Bool, List, [], ◌∷◌}
use Rattle.sheet.specs.Sheet.{sender_of, identifier_of}
use Rattle.register.specs.Register.{key, message_tag}
use Rattle.index.specs.Searches.{Search}
use Rattle.rules.specs.declared.Terms.{Terms}
use Rattle.messages.specs.Messages.{State, after_message}

abbrev pub message_search : List ℕ → List ℕ → State → Search
message_search header message before =
    record { register = before.register; key = key (sender_of header) (identifier_of message) message_tag }

module _ (terms : Terms) (table : List ℕ) where
  unfoldable pub message_searches : List ℕ → Bool → List (List ℕ) → State → List Search
  message_searches header fell [] before = []
  message_searches header fell (m ∷ ms) before =
      message_search header m before ∷ message_searches header fell ms (after_message terms table header fell m before)
