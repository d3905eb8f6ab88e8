-- The searches that the judgement of a file makes: one for each bulk and one for each of its messages, and one more where the bulk's own entry
-- is added, since the entries of its messages came in between. Assumes nothing.
use Rattle.std.specs.Prelude.{ℕ, cond, List, [], ◌∷◌, ◌++◌, eqb}
use Rattle.sheet.specs.Sheet.{Bulk, sender_of, bulk_identifier_of}
use Rattle.register.specs.Register.{key, bulk_tag}
use Rattle.index.specs.Searches.{Search}
use Rattle.rules.specs.declared.Terms.{Terms}
use Rattle.messages.specs.Messages.{State}
use Rattle.messages.specs.Searches.{message_searches}
use Rattle.judging.specs.Judgement.{falls, messages_judged, after_bulk}

-- of a bulk's own key
abbrev pub bulk_search : List ℕ → State → Search
bulk_search header before = record { register = before.register; key = key (sender_of header) (bulk_identifier_of header) bulk_tag }

-- once more, after its messages, if one of them was accepted
abbrev pub search_again : List ℕ → ℕ → State → List Search
search_again header accepted after = cond (eqb accepted 0) [] (bulk_search header after ∷ [])

module _ (terms : Terms) (table : List ℕ) where
  unfoldable pub bulk_searches : Bulk → State → List Search
  bulk_searches bulk before =
      let judged = messages_judged terms table bulk before in
      bulk_search bulk.header before
      ∷ message_searches terms table bulk.header (falls terms table bulk before) bulk.messages before
      ++ search_again bulk.header judged.totals.accepted_number judged.after

  unfoldable pub searches : List Bulk → State → List Search
  searches [] before = []
  searches (b ∷ bs) before = bulk_searches b before ++ searches bs (after_bulk terms table b before)
