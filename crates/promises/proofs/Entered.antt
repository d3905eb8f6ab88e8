-- What the register gains in a judgement is what the report tells: for each bulk the keys of its accepted messages, then its own.
-- Assumes nothing.
use mathlib.Core.Path.{◌≡◌, refl, sym, ap, ap₂, ◌∙◌}
use mathlib.Core.Bool.{Bool, true, false, cond}
use mathlib.Core.List.{List, [], ◌∷◌, ◌++◌, map}
use Prim.Native.Nat.{ℕ, suc, ◌+◌, ◌*◌, ◌≤◌}
use native.Mathlib.Decide.{ℕ_discrete}
use native.Mathlib.Omega.{arith}
use lib.Dec.{eqb}
use lib.ListN.{length, length-append, length-map}
use borrow.Author.Tests.{ne_eqb}
use Rattle.register.specs.Register.{key, message_tag, bulk_tag, add}
use Rattle.register.specs.Room.{Parts}
use Rattle.register.proofs.Laws.{key_length}
use Rattle.sheet.specs.Sheet.{header_width, message_width, kind_of, Bulk, bulk_count, bulks_of, count_messages, sender_of, identifier_of, bulk_identifier_of, amount_of}
use Rattle.sheet.proofs.Fields.{bulk_identifier_long, sender_long, identifier_long}
use Rattle.rules.specs.declared.Terms.{Terms}
use Rattle.rules.specs.OfMessage.{most_cents}
use Rattle.tally.specs.Tally.{Totals, with_accepted, with_rejected}
use Rattle.report.specs.Line.{sections_place, after_lines}
use Rattle.messages.specs.Messages.{State, is_accepted, faults_of, counted, after_message, judge_messages}
use Rattle.judging.specs.Judgement.{falls, messages_judged, after_bulk, judge_bulks}
use Rattle.refusing.specs.Refusals.{Call, refusal}
use Rattle.judging.specs.Outcome.{outcome, judgement, judged_of}
use Rattle.refusing.proofs.Clear.{clear_of}
use Rattle.judging.proofs.Answers.{outcome_judged, outcome_refused}
use Rattle.promises.specs.Reading.{Payment, payment_of, payment_key, own_key, keys_by, recorded_from, recorded, with_keys}
use Rattle.promises.specs.Demands.{cents_paid}
use Rattle.promises.proofs.Added.{AllKeys, all_append, with_append, Added, none_added, all_added}
use Rattle.sheet.proofs.Bulks.{MessagesWide, BulksWide}
use Rattle.promises.proofs.Fit.{accepted_facts, verdict_facts}
use Rattle.messages.proofs.Walks.{after_accepted_lem, after_rejected}
use Rattle.judging.proofs.Widths.{all_wide, bulk_number, message_number}
use Rattle.promises.proofs.Lines.{sections_read}
use Rattle.promises.proofs.Said.{Stands, paid, said_bulk, rest_there}

-- ---- the parts of a key have their widths

pub key_parts : (header : List ℕ) (kind : ℕ) (message : List ℕ) → length header ≡ header_width → length message ≡ message_width kind
    → Parts (sender_of header) (identifier_of message)
key_parts header kind message h m = record { sender_wide = sender_long header h; identifier_wide = identifier_long kind message m }

pub own_key_parts : (header : List ℕ) → length header ≡ header_width → Parts (sender_of header) (bulk_identifier_of header)
own_key_parts header h = record { sender_wide = sender_long header h; identifier_wide = bulk_identifier_long header h }

module _ (terms : Terms) (table : List ℕ) where
  -- ---- what the messages of a bulk come to

  pub record Come (t : Totals) (ps : List Payment) (n : ℕ) : Type 0 where
    pub number : t.accepted_number ≡ length ps
    pub cents : t.accepted_cents ≡ cents_paid ps
    pub small : t.accepted_cents ≤ n * most_cents
    pub few : length ps ≤ n

  pub come : (header : List ℕ) (fallen : Bool) (ms : List (List ℕ)) (before : State)
      → Come (judge_messages terms table header fallen ms before).totals (paid terms table header fallen ms before) (length ms)
  unfolding judge_messages paid counted cents_paid
  come header fallen [] before = record { number = refl; cents = refl; small = omega arith; few = omega arith }
  come header fallen (m ∷ ms) before =
      by_verdict (is_accepted fallen (faults_of terms table header m before)) refl (come header fallen ms (after_message terms table header fallen m before))
    where
      by_verdict : (v : Bool) → is_accepted fallen (faults_of terms table header m before) ≡ v → {totals : Totals} {later : List Payment} → Come totals later (length ms)
          → Come (cond v (with_accepted totals (amount_of m)) (with_rejected totals (amount_of m))) (cond v (payment_of header m ∷ later) later) (suc (length ms))
      by_verdict true told rest =
          let facts = accepted_facts terms table header m before (verdict_facts terms table fallen (faults_of terms table header m before) told).1 in
          let n = rest.number in
          let c = rest.cents in
          let s = rest.small in
          let f = rest.few in
          let a = facts.small in
          record { number = omega arith; cents = omega arith; small = omega arith; few = omega arith }
      by_verdict false told rest =
          let s = rest.small in
          let f = rest.few in
          record { number = rest.number; cents = rest.cents; small = omega arith; few = omega arith }

  -- ---- the register after the messages of a bulk, after a bulk, after all bulks

  pub message_register : (header : List ℕ) (fallen : Bool) (m : List ℕ) (before : State)
      → cond (is_accepted fallen (faults_of terms table header m before)) (add before.register (payment_key (payment_of header m))) before.register
      ≡ (after_message terms table header fallen m before).register
  message_register header fallen m before = by_verdict (is_accepted fallen (faults_of terms table header m before)) refl
    where
      by_verdict : (v : Bool) → is_accepted fallen (faults_of terms table header m before) ≡ v
          → cond v (add before.register (payment_key (payment_of header m))) before.register ≡ (after_message terms table header fallen m before).register
      by_verdict true told = ap (λ (st : State). st.register) (sym (after_accepted_lem terms table header fallen m before told))
      by_verdict false told = ap (λ (st : State). st.register) (sym (after_rejected terms table header fallen m before told))

  messages_register : (header : List ℕ) (fallen : Bool) (ms : List (List ℕ)) (before : State)
      → (judge_messages terms table header fallen ms before).after.register ≡ with_keys before.register (map payment_key (paid terms table header fallen ms before))
  unfolding judge_messages paid with_keys
  messages_register header fallen [] before = refl
  messages_register header fallen (m ∷ ms) before =
      let next = after_message terms table header fallen m before in
      messages_register header fallen ms next
      ∙ ap (λ (r : List ℕ). with_keys r (map payment_key (paid terms table header fallen ms next))) (sym (message_register header fallen m before))
      ∙ by_verdict (is_accepted fallen (faults_of terms table header m before)) (paid terms table header fallen ms next)
    where
      by_verdict : (v : Bool) (later : List Payment)
          → with_keys (cond v (add before.register (payment_key (payment_of header m))) before.register) (map payment_key later)
          ≡ with_keys before.register (map payment_key (cond v (payment_of header m ∷ later) later))
      by_verdict true later = refl
      by_verdict false later = refl

  abbrev own_of : List ℕ → List ℕ
  own_of header = key (sender_of header) (bulk_identifier_of header) bulk_tag

  abbrev pub paid_in : Bulk → State → List Payment
  paid_in b before = paid terms table b.header (falls terms table b before) b.messages before

  pub bulk_register : (b : Bulk) (before : State)
      → with_keys before.register (keys_by b.header (paid_in b before)) ≡ (after_bulk terms table b before).register
  unfolding after_bulk with_keys
  bulk_register b before =
      let judged = messages_judged terms table b before in
      sym (by_taken (paid_in b before) judged.totals.accepted_number (come b.header (falls terms table b before) b.messages before).number judged.after
      (messages_register b.header (falls terms table b before) b.messages before))
    where
      by_taken : (taken : List Payment) (n : ℕ) → n ≡ length taken → (after : State) → after.register ≡ with_keys before.register (map payment_key taken)
          → (cond (eqb n 0) after (record { register = add after.register (own_of b.header); positions = after.positions })).register
          ≡ with_keys before.register (keys_by b.header taken)
      by_taken [] n e after h = rw e h
      by_taken (p ∷ ps) n e after h =
          let some : n ≡ 0 → ⊥ = λ none. omega arith in
          rw (ne_eqb n 0 some)
          (ap (λ (r : List ℕ). add r (own_of b.header)) h
          ∙ sym (with_append before.register (map payment_key (p ∷ ps)) (own_of b.header ∷ [])))

  unfoldable entered_by : List Bulk → State → List (List ℕ)
  entered_by [] before = []
  entered_by (b ∷ bs) before = keys_by b.header (paid_in b before) ++ entered_by bs (after_bulk terms table b before)

  bulks_register : (bs : List Bulk) (before : State) → (judge_bulks terms table bs before).after.register ≡ with_keys before.register (entered_by bs before)
  unfolding judge_bulks entered_by with_keys
  bulks_register [] before = refl
  bulks_register (b ∷ bs) before =
      let next = after_bulk terms table b before in
      bulks_register bs next
      ∙ ap (λ (r : List ℕ). with_keys r (entered_by bs next)) (sym (bulk_register b before))
      ∙ sym (with_append before.register (keys_by b.header (paid_in b before)) (entered_by bs next))

  -- ---- as the report tells it

  told_bulks : (report : List ℕ) (at : ℕ) (bs : List Bulk) (before : State) → BulksWide bs → Stands report at (judge_bulks terms table bs before).sections
      → recorded_from report bs at ≡ entered_by bs before
  unfolding recorded_from entered_by BulksWide
  told_bulks report at [] before shaped there = refl
  told_bulks report at (b ∷ bs) before shaped there =
      ap₂ (λ (x y : List (List ℕ)). x ++ y)
      (ap (keys_by b.header) (said_bulk terms table report at b bs before shaped.0 there))
      (told_bulks report (after_lines at (length b.messages)) bs (after_bulk terms table b before) shaped.1 (rest_there terms table report at b bs before shaped.0 there))

  -- ---- each is as wide as a key, and there are no more than bulks and messages

  paid_wide : (header : List ℕ) → length header ≡ header_width → (fallen : Bool) (kind : ℕ) (ms : List (List ℕ)) (before : State) → MessagesWide kind ms
      → AllKeys (map payment_key (paid terms table header fallen ms before))
  unfolding paid MessagesWide AllKeys
  paid_wide header wide fallen kind [] before all = tt
  paid_wide header wide fallen kind (m ∷ ms) before all =
      by_verdict (is_accepted fallen (faults_of terms table header m before)) (paid terms table header fallen ms (after_message terms table header fallen m before))
      (paid_wide header wide fallen kind ms (after_message terms table header fallen m before) all.1)
    where
      by_verdict : (v : Bool) (later : List Payment) → AllKeys (map payment_key later) → AllKeys (map payment_key (cond v (payment_of header m ∷ later) later))
      by_verdict true later rest = (key_length (sender_of header) (identifier_of m) message_tag (key_parts header kind m wide all.0), rest)
      by_verdict false later rest = rest

  paid_few : (header : List ℕ) (taken : List Payment) → length (own_key header taken) ≤ 1
  paid_few header [] = omega arith
  paid_few header (p ∷ ps) = omega arith

  own_wide : (header : List ℕ) → length header ≡ header_width → (taken : List Payment) → AllKeys (own_key header taken)
  unfolding AllKeys
  own_wide header wide [] = tt
  own_wide header wide (p ∷ ps) = (key_length (sender_of header) (bulk_identifier_of header) bulk_tag (own_key_parts header wide), tt)

  record Few (bs : List Bulk) (es : List (List ℕ)) : Type 0 where
    wide : AllKeys es
    few : length es ≤ length bs + count_messages bs

  entered_few : (bs : List Bulk) (before : State) → BulksWide bs → Few bs (entered_by bs before)
  unfolding entered_by BulksWide count_messages AllKeys
  entered_few [] before all = record { wide = tt; few = omega arith }
  entered_few (b ∷ bs) before all =
      let taken = paid_in b before in
      let rest = entered_few bs (after_bulk terms table b before) all.1 in
      let few = (come b.header (falls terms table b before) b.messages before).few in
      let one = paid_few b.header taken in
      let more = rest.few in
      record {
        wide =
            all_append (keys_by b.header taken) (entered_by bs (after_bulk terms table b before))
            (all_append (map payment_key taken) (own_key b.header taken)
            (paid_wide b.header all.0.header (falls terms table b before) (kind_of b.header) b.messages before all.0.messages)
            (own_wide b.header all.0.header taken))
            rest.wide;
        few = simp (length-append, length-map) (omega arith);
      }

-- ---- a file, judged or refused

pub file_added : (call : Call) → Added call.register (outcome call).register (recorded call.sheet (outcome call))
unfolding recorded
file_added call = by_answer (ℕ_discrete (refusal call) 0)
  where
    by_answer : Dec (refusal call ≡ 0) → Added call.register (outcome call).register (recorded call.sheet (outcome call))
    by_answer (yes e) =
        let clear = clear_of call e in
        let before : State = record { register = call.register; positions = call.positions } in
        let bulks = bulks_of call.sheet in
        let all = all_wide call clear.whole in
        let entered = entered_by call.terms call.table bulks before in
        let few = entered_few call.terms call.table bulks before all in
        let n = bulk_number call clear.whole in
        let m = message_number call clear.whole in
        let room = clear.room in
        let most = few.few in
        rw (outcome_judged call e, told_bulks call.terms call.table (judged_of call (judgement call)).report (sections_place (bulk_count call.sheet)) bulks before all (sections_read call clear), bulks_register call.terms call.table bulks before)
        (all_added call.register entered clear.formed (omega arith) few.wide)
    by_answer (no e) = rw (outcome_refused call e, ne_eqb (refusal call) 0 e) (none_added call.register)
