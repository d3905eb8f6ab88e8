-- The register over the bulks of a file: the places that are left, and the searches that are made. Assumes nothing.
use mathlib.Core.Path.{◌≡◌, ap}
use mathlib.Core.Bool.{Bool, true, false, cond}
use mathlib.Core.List.{List, [], ◌∷◌, ◌++◌}
use Prim.Native.Nat.{ℕ, suc, ◌+◌, ◌*◌, ◌≤◌}
use native.Mathlib.Omega.{arith}
use lib.Dec.{eqb}
use lib.ListN.{length, length-append}
use Rattle.sheet.specs.Sheet.{Bulk, sender_of, bulk_identifier_of, count_messages}
use Rattle.slots.specs.Stored.{most_slots}
use Rattle.register.specs.Register.{key, bulk_tag, add}
use Rattle.register.specs.Room.{Spare}
use Rattle.register.proofs.Laws.{spare_less, spare_add}
use Rattle.index.specs.Searches.{Search, slots_read, slots_read_by}
use Rattle.index.proofs.Ways.{AllFormed, reads_fit, reads_append}
use Rattle.rules.specs.declared.Terms.{Terms}
use Rattle.messages.specs.Messages.{State}
use Rattle.messages.specs.Searches.{message_searches}
use Rattle.messages.proofs.Walks.{messages_spare, messages_formed, searches_length}
use Rattle.judging.specs.Judgement.{falls, messages_judged, after_bulk}
use Rattle.judging.specs.Searches.{bulk_search, search_again, bulk_searches, searches}

module _ (terms : Terms) (table : List ℕ) where
  -- ---- the places left: a bulk takes one for each message at most, and one

  pub bulk_spare : (b : Bulk) (before : State) (n : ℕ) → Spare before.register (suc (length b.messages + n)) → Spare (after_bulk terms table b before).register n
  unfolding after_bulk
  bulk_spare b before n spare = by_count (eqb (messages_judged terms table b before).totals.accepted_number 0)
    where
      judged : Spare (messages_judged terms table b before).after.register (suc n)
      judged =
          messages_spare terms table b.header (falls terms table b before) b.messages before (suc n)
          (spare_less before.register (suc (length b.messages + n)) (length b.messages + suc n) (omega arith) spare)

      by_count : (t : Bool)
          → Spare (cond t (messages_judged terms table b before).after (record { register = add (messages_judged terms table b before).after.register (key (sender_of b.header) (bulk_identifier_of b.header) bulk_tag); positions = (messages_judged terms table b before).after.positions })).register n
      by_count true = spare_less _ (suc n) n (omega arith) judged
      by_count false = spare_add _ _ n judged

  -- ---- each search is made in a register that is well formed

  both_formed : (ss us : List Search) → AllFormed ss → AllFormed us → AllFormed (ss ++ us)
  unfolding AllFormed
  both_formed [] us f g = g
  both_formed (s ∷ ss) us f g = (f.0, both_formed ss us f.1 g)

  bulk_formed : (b : Bulk) (before : State) → Spare before.register (suc (length b.messages)) → AllFormed (bulk_searches terms table b before)
  unfolding bulk_searches AllFormed
  bulk_formed b before spare = (
    spare.formed,
    both_formed (message_searches terms table b.header (falls terms table b before) b.messages before)
        (search_again b.header (messages_judged terms table b before).totals.accepted_number (messages_judged terms table b before).after)
        (messages_formed terms table b.header (falls terms table b before) true b.messages before (spare_less before.register (suc (length b.messages)) (length b.messages) (omega arith) spare))
        (again (eqb (messages_judged terms table b before).totals.accepted_number 0)),
  )
    where
      after : Spare (messages_judged terms table b before).after.register 0
      after = messages_spare terms table b.header (falls terms table b before) b.messages before 0 (spare_less before.register (suc (length b.messages)) (length b.messages + 0) (omega arith) spare)

      again : (t : Bool) → AllFormed (cond t [] (bulk_search b.header (messages_judged terms table b before).after ∷ []))
      again true = tt
      again false = (after.formed, tt)

  pub searches_formed : (bs : List Bulk) (before : State) → Spare before.register (length bs + count_messages bs) → AllFormed (searches terms table bs before)
  unfolding searches AllFormed count_messages
  searches_formed [] before spare = tt
  searches_formed (b ∷ bs) before spare =
      let m = length b.messages in
      let k = length bs in
      let c = count_messages bs in
      both_formed (bulk_searches terms table b before) (searches terms table bs (after_bulk terms table b before))
      (bulk_formed b before (spare_less before.register (suc k + (m + c)) (suc m) (omega arith) spare))
      (searches_formed bs (after_bulk terms table b before) (bulk_spare b before (k + c) (spare_less before.register (suc k + (m + c)) (suc (m + (k + c))) (omega arith) spare)))

  -- ---- the slots read

  pub bulk_slots : (indexed : Bool) (b : Bulk) (before : State)
      → slots_read_by indexed (bulk_searches terms table b before)
      ≡ slots_read indexed (bulk_search b.header before)
      + (slots_read_by indexed (message_searches terms table b.header (falls terms table b before) b.messages before)
      + slots_read_by indexed (search_again b.header (messages_judged terms table b before).totals.accepted_number (messages_judged terms table b before).after))
  unfolding bulk_searches slots_read_by
  bulk_slots indexed b before =
      ap (λ (n : ℕ). slots_read indexed (bulk_search b.header before) + n)
      (reads_append indexed (message_searches terms table b.header (falls terms table b before) b.messages before) _)

  pub slots_split : (indexed : Bool) (b : Bulk) (bs : List Bulk) (before : State)
      → slots_read_by indexed (searches terms table (b ∷ bs) before)
      ≡ slots_read_by indexed (bulk_searches terms table b before) + slots_read_by indexed (searches terms table bs (after_bulk terms table b before))
  unfolding searches
  slots_split indexed b bs before = reads_append indexed (bulk_searches terms table b before) _

  again_few : (header : List ℕ) (accepted : ℕ) (after : State) → length (search_again header accepted after) ≤ 1
  again_few header accepted after = by_test (eqb accepted 0)
    where
      by_test : (t : Bool) → length (cond t [] (bulk_search header after ∷ [])) ≤ 1
      by_test true = omega arith
      by_test false = omega arith

  searches_bulk : (b : Bulk) (before : State) → length (bulk_searches terms table b before) ≤ 2 + length b.messages
  unfolding bulk_searches
  searches_bulk b before =
      let judged = messages_judged terms table b before in
      let all = length-append (message_searches terms table b.header (falls terms table b before) b.messages before) (search_again b.header judged.totals.accepted_number judged.after) in
      let each = searches_length terms table b.header (falls terms table b before) true b.messages before in
      let own = again_few b.header (messages_judged terms table b before).totals.accepted_number (messages_judged terms table b before).after in
      omega arith

  searches_few : (bs : List Bulk) (before : State) → length (searches terms table bs before) ≤ 2 * length bs + count_messages bs
  unfolding searches count_messages
  searches_few [] before = omega arith
  searches_few (b ∷ bs) before =
      let all = length-append (bulk_searches terms table b before) (searches terms table bs (after_bulk terms table b before)) in
      let first = searches_bulk b before in
      let rest = searches_few bs (after_bulk terms table b before) in
      omega arith

  pub slots_few : (indexed : Bool) (bs : List Bulk) (before : State) → slots_read_by indexed (searches terms table bs before) ≤ most_slots * (2 * length bs + count_messages bs)
  slots_few indexed bs before =
      let most = reads_fit indexed (searches terms table bs before) in
      let few = searches_few bs before in
      omega arith
