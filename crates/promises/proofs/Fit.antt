-- The register keeps its form and the positions their room over a judgement: a message takes no more than one entry and the most
-- cents, a bulk no more than one entry besides. Assumes nothing.
use mathlib.Core.Path.{◌≡◌, refl, ◌∙◌}
use mathlib.Core.Bool.{Bool, true, false, cond, not, ◌&&◌, and-eq-true_iff}
use mathlib.Core.List.{List, [], ◌∷◌}
use mathlib.Core.Option.{some}
use Prim.Native.Nat.{ℕ, suc, ◌+◌, ◌*◌, ◌≤◌, ◌<◌}
use native.Mathlib.Omega.{arith}
use lib.Dec.{eqb, leb}
use lib.ListN.{length}
use borrow.Author.Tests.{eqb-true, leb-true, not-true, not-false}
use Rattle.wire.specs.Field.{Bytes}
use Rattle.routing.specs.Table.{rows}
use Rattle.routing.proofs.Laws.{office_below, route_below, reachable_row, participates_row}
use Rattle.register.specs.Register.{key, message_tag, bulk_tag, stands, add}
use Rattle.register.specs.Room.{Spare}
use Rattle.register.proofs.Laws.{spare_less, spare_add}
use Rattle.positions.specs.Positions.{position_width, HasRow, room_for_all, pays}
use Rattle.positions.proofs.Laws.{pays_length, pays_bytes}
use Rattle.positions.proofs.Moves.{room_less, pays_room}
use Rattle.sheet.specs.Sheet.{Bulk, sender_of, identifier_of, receiver_of, amount_of, bulk_identifier_of, count_messages, bulk_count, message_count}
use Rattle.rules.specs.declared.Terms.{Terms}
use Rattle.rules.specs.OfMessage.{most_cents, amount_wrong}
use Rattle.faults.specs.Bits.{no_participant_bit, repeated_bit, unreachable_bit, amount_wrong_bit}
use Rattle.faults.specs.Faults.{sender_row, receiver_row}
use Rattle.faults.proofs.Named.{bulk_clean, message_clean}
use Rattle.refusing.specs.Refusals.{Call}
use Rattle.refusing.proofs.Clear.{Clear}
use Rattle.messages.specs.Messages.{State, is_accepted, sum_of, faults_of, after_accepted, after_message, judge_messages}
use Rattle.messages.proofs.Walks.{after_accepted_lem, after_rejected}
use Rattle.judging.specs.Judgement.{faults_of_bulk, falls, messages_judged, after_bulk, judge_bulks}

-- ---- what an accepted message is

module _ (terms : Terms) (table : List ℕ) where
  -- the sender has a row, and it is a participant's
  pub record Sends (header : List ℕ) : Type 0 where
    pub row : ℕ
    pub found : sender_row terms table header ≡ some row

  pub record Accepted (header message : List ℕ) (before : State) : Type 0 where
    pub fresh : stands before.register (key (sender_of header) (identifier_of message) message_tag) ≡ false
    pub row : ℕ
    pub found : receiver_row terms table message ≡ some row
    pub small : amount_of message ≤ most_cents

  amount_small : (a : ℕ) → amount_wrong a ≡ false → a ≤ most_cents
  amount_small a e = leb-true a most_cents ((and-eq-true_iff (leb 1 a) (leb a most_cents)).0 (not-false (leb 1 a && leb a most_cents) e)).1

  pub accepted_facts : (header message : List ℕ) (before : State) → faults_of terms table header message before ≡ 0 → Accepted header message before
  accepted_facts header message before e =
      let clean = message_clean terms table before.register header message e in
      let row = reachable_row table (receiver_row terms table message) (not-false _ (clean unreachable_bit)) in
      record { fresh = clean repeated_bit; row = row.0; found = row.1; small = amount_small (amount_of message) (clean amount_wrong_bit) }

  -- a bulk without faults has a sender that sends
  pub sends_facts : (b : Bulk) (before : State) → falls terms table b before ≡ false → Sends b.header
  sends_facts b before e =
      let none : faults_of_bulk terms table b before ≡ 0 = eqb-true _ 0 (not-false (eqb (faults_of_bulk terms table b before) 0) e) in
      let clean = bulk_clean terms table before.register b.header (length b.messages) (sum_of b.messages) none in
      let row = participates_row table (sender_row terms table b.header) (not-false _ (clean no_participant_bit)) in
      record { row = row.0; found = row.1 }

  pub verdict_facts : (fallen : Bool) (faults : ℕ) → is_accepted fallen faults ≡ true → (fallen ≡ false) × (faults ≡ 0)
  verdict_facts fallen faults e =
      let both = (and-eq-true_iff (not fallen) (eqb faults 0)).0 e in
      (not-true fallen both.0, eqb-true faults 0 both.1)

  -- ---- room for so many entries and so many payments more

  pub record Fit (st : State) (entries payments : ℕ) : Type 0 where
    pub spare : Spare st.register entries
    pub places : length st.positions ≡ position_width * rows table
    pub bytes : Bytes st.positions
    pub room : room_for_all st.positions (payments * most_cents) ≡ true

  pub fit_less : (st : State) (e p e' p' : ℕ) → Fit st e p → e' ≤ e → p' ≤ p → Fit st e' p'
  fit_less st e p e' p' f he hp =
      record {
        spare = spare_less st.register e e' he f.spare;
        places = f.places;
        bytes = f.bytes;
        room = room_less st.positions (p * most_cents) (p' * most_cents) f.room (omega arith);
      }

  -- an entry added
  entry_fit : (st : State) (new : List ℕ) (e p : ℕ) → Fit st (suc e) p → Fit (record { register = add st.register new; positions = st.positions }) e p
  entry_fit st new e p f =
      record { spare = spare_add st.register new e f.spare; places = f.places; bytes = f.bytes; room = f.room }

  pub has_row : (positions : List ℕ) (i : ℕ) → length positions ≡ position_width * rows table → i < rows table → HasRow positions i
  has_row positions i e h = omega arith

  -- an amount moved
  pay_fit : (st : State) (s t c e p : ℕ) → s < rows table → t < rows table → c ≤ most_cents → Fit st e (suc p)
      → Fit (record { register = st.register; positions = pays st.positions (some s) (some t) c }) e p
  pay_fit st s t c e p hs ht hc f =
      let positions = st.positions in
      record {
        spare = f.spare;
        places = pays_length positions s t c ∙ f.places;
        bytes = pays_bytes positions s t c f.bytes;
        room =
            pays_room positions s t c (p * most_cents) f.bytes (has_row positions s f.places hs) (has_row positions t f.places ht)
            (room_less positions (suc p * most_cents) (c + p * most_cents) f.room (omega arith));
      }

  -- ---- a message, the messages of a bulk, a bulk, all bulks

  -- what an accepted message moves is a payment between two rows
  pub pays_found : (header message : List ℕ) (before : State) (sends : Sends header) (a : Accepted header message before)
      → pays before.positions (sender_row terms table header) (receiver_row terms table message) (amount_of message)
      ≡ pays before.positions (some sends.row) (some a.row) (amount_of message)
  pays_found header message before sends a = rw (sends.found, a.found)

  accepted_fit : (header message : List ℕ) (before : State) (e p : ℕ) → Sends header → Accepted header message before → Fit before (suc e) (suc p)
      → Fit (after_accepted terms table header message before) e p
  accepted_fit header message before e p sends a f =
      let new = key (sender_of header) (identifier_of message) message_tag in
      let s = office_below terms.date table (sender_of header) sends.row sends.found in
      let t = route_below terms.date table (receiver_of message) a.row a.found in
      rw (pays_found header message before sends a)
      (entry_fit (record { register = before.register; positions = pays before.positions (some sends.row) (some a.row) (amount_of message) }) new e p
      (pay_fit before sends.row a.row (amount_of message) (suc e) p s t a.small f))

  module _ (header : List ℕ) (fallen : Bool) (sends : fallen ≡ false → Sends header) where
    pub message_fit : (message : List ℕ) (before : State) (e p : ℕ) → Fit before (suc e) (suc p) → Fit (after_message terms table header fallen message before) e p
    message_fit message before e p f = by_verdict (is_accepted fallen (faults_of terms table header message before)) refl
      where
        by_verdict : (t : Bool) → is_accepted fallen (faults_of terms table header message before) ≡ t → Fit (after_message terms table header fallen message before) e p
        by_verdict true told =
            let facts = verdict_facts fallen (faults_of terms table header message before) told in
            rw (after_accepted_lem terms table header fallen message before told)
            (accepted_fit header message before e p (sends facts.0) (accepted_facts header message before facts.1) f)
        by_verdict false told =
            rw (after_rejected terms table header fallen message before told) (fit_less before (suc e) (suc p) e p f (omega arith) (omega arith))

    pub messages_fit : (messages : List (List ℕ)) (before : State) (e p : ℕ) → Fit before (length messages + e) (length messages + p)
        → Fit (judge_messages terms table header fallen messages before).after e p
    unfolding judge_messages
    messages_fit [] before e p f = fit_less before (0 + e) (0 + p) e p f (omega arith) (omega arith)
    messages_fit (m ∷ ms) before e p f =
        messages_fit ms (after_message terms table header fallen m before) e p
        (message_fit m before (length ms + e) (length ms + p)
        (fit_less before (suc (length ms) + e) (suc (length ms) + p) (suc (length ms + e)) (suc (length ms + p)) f (omega arith) (omega arith)))

  pub bulk_fit : (b : Bulk) (before : State) (e p : ℕ) → Fit before (suc (length b.messages + e)) (length b.messages + p) → Fit (after_bulk terms table b before) e p
  unfolding after_bulk
  bulk_fit b before e p f = by_count (eqb (messages_judged terms table b before).totals.accepted_number 0)
    where
      judged : Fit (messages_judged terms table b before).after (suc e) p
      judged =
          messages_fit b.header (falls terms table b before) (sends_facts b before) b.messages before (suc e) p
          (fit_less before (suc (length b.messages + e)) (length b.messages + p) (length b.messages + suc e) (length b.messages + p) f (omega arith) (omega arith))

      by_count : (t : Bool) → Fit (cond t (messages_judged terms table b before).after (record {
        register = add (messages_judged terms table b before).after.register (key (sender_of b.header) (bulk_identifier_of b.header) bulk_tag);
        positions = (messages_judged terms table b before).after.positions;
      })) e p
      by_count true = fit_less (messages_judged terms table b before).after (suc e) p e p judged (omega arith) (omega arith)
      by_count false = entry_fit (messages_judged terms table b before).after (key (sender_of b.header) (bulk_identifier_of b.header) bulk_tag) e p judged

  pub bulks_fit : (bs : List Bulk) (before : State) (e p : ℕ) → Fit before (length bs + count_messages bs + e) (count_messages bs + p)
      → Fit (judge_bulks terms table bs before).after e p
  unfolding judge_bulks count_messages
  bulks_fit [] before e p f = fit_less before (0 + 0 + e) (0 + p) e p f (omega arith) (omega arith)
  bulks_fit (b ∷ bs) before e p f =
      let n = length b.messages in
      let k = length bs in
      let m = count_messages bs in
      bulks_fit bs (after_bulk terms table b before) e p
      (bulk_fit b before (k + m + e) (m + p)
      (fit_less before (suc k + (n + m) + e) (n + m + p) (suc (n + (k + m + e))) (n + (m + p)) f (omega arith) (omega arith)))

-- ---- a call that is not refused finds room for all that its sheet can bring

pub clear_fit : (call : Call) → Clear call → Bytes call.positions
    → Fit call.terms call.table (record { register = call.register; positions = call.positions }) (bulk_count call.sheet + message_count call.sheet) (message_count call.sheet)
clear_fit call clear bytes = record { spare = record { formed = clear.formed; left = clear.room }; places = clear.places; bytes = bytes; room = clear.limit }
