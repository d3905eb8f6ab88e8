-- The run, proved of the outcome that the judge is proved to compute: a message, a bulk, a file and a run are kept track of in turn.
-- Assumes nothing.
use mathlib.Core.Path.{◌≡◌, refl, sym, ap, ap₂, subst, ◌∙◌}
use mathlib.Core.Bool.{Bool, true, false, cond}
use mathlib.Core.List.{List, [], ◌∷◌, ◌++◌, map, map-append, append-nil, append_assoc}
use Prim.Native.Nat.{ℕ, suc, ◌+◌, ◌*◌, ◌<◌}
use native.Mathlib.Nat.{add-zero, zero-mul, zero-add}
use native.Mathlib.Decide.{ℕ_discrete}
use native.Mathlib.Omega.{arith}
use lib.Dec.{eqb}
use lib.IntN.{ℤ, pos, neg_ℤ, ◌+ℤ◌, ◌-ℤ◌, +ℤ_assoc, +ℤ_comm}
use lib.ListN.{length, length-append}
use Rattle.wire.specs.Field.{Bytes, number_at, number_from, number_of}
use Rattle.wire.proofs.Texts.{part_back}
use Rattle.routing.proofs.Laws.{office_below, route_below}
use Rattle.register.specs.Register.{key, message_tag, bulk_tag, tag_place, entry, used, room, entries_to, entries_of, keys_of, in_use, add}
use Rattle.register.specs.Room.{Parts}
use Rattle.register.proofs.Laws.{key_length, keys_add, stands_listed}
use Rattle.positions.specs.Positions.{position_at, signed}
use Rattle.positions.proofs.Moves.{share, pays_exact, room_less}
use Rattle.sheet.specs.Sheet.{header_width, message_width, kind_of, Bulk, bulks_of, bulk_count, message_count, count_messages, sender_of, identifier_of, receiver_of, amount_of, bulk_identifier_of}
use Rattle.rules.specs.declared.Terms.{Terms}
use Rattle.rules.specs.OfMessage.{most_cents}
use Rattle.messages.specs.Messages.{State, is_accepted, faults_of, after_accepted, after_message, judge_messages}
use Rattle.judging.specs.Judgement.{falls, messages_judged, after_bulk, judge_bulks}
use Rattle.refusing.specs.Refusals.{Call, refusal}
use Rattle.judging.specs.Outcome.{outcome}
use Rattle.promises.specs.Reading.{Payment, payment_of, accepted, recorded, cents_to, cents_from}
use Rattle.promises.specs.Runs.{File, call_on, state_after, run, with_message_tag, message_keys, RunsAsPromised, EmptyRegisterFills}
use Rattle.sheet.proofs.Bulks.{MessagesWide, BulkWide, BulksWide}
use Rattle.refusing.proofs.Clear.{Clear, clear_of}
use Rattle.judging.proofs.Answers.{outcome_judged, outcome_refused}
use Rattle.promises.proofs.Entered.{key_parts, own_key_parts, file_added}
use Rattle.messages.proofs.Walks.{after_accepted_lem, after_rejected}
use Rattle.promises.proofs.Fit.{Sends, Accepted, Fit, has_row, accepted_facts, sends_facts, verdict_facts, pays_found, fit_less, message_fit, messages_fit, bulk_fit, bulks_fit, clear_fit}
use Rattle.judging.proofs.Widths.{all_wide, bulk_number, message_number}
use Rattle.promises.proofs.Said.{paid, paid_by, said_judged, said_refused}
use Rattle.promises.proofs.Tracked.{Fresh, Tracked, tracked_none, tracked_then, tag_append, not_listed, none_twice, all_stand_from}

-- ---- a key and its tag

tag_read : (s i : List ℕ) (t : ℕ) → Parts s i → number_at (key s i t) tag_place 1 ≡ t
unfolding number_from
tag_read s i t p =
    let front : length (s ++ i) ≡ tag_place = length-append s i ∙ (rw (p.sender_wide, p.identifier_wide)) in
    ap number_of (part_back (s ++ i) (t ∷ []) tag_place 0 1 front) ∙ (rw (zero-mul, zero-add))

swapped : (x : ℤ) (a b : ℤ) → x -ℤ a +ℤ b ≡ x +ℤ b -ℤ a
swapped x a b = +ℤ_assoc x (neg_ℤ a) b ∙ ap (λ (k : ℤ). x +ℤ k) (+ℤ_comm (neg_ℤ a) b) ∙ sym (+ℤ_assoc x b (neg_ℤ a))

module _ (terms : Terms) (table : List ℕ) where
  -- a bulk's own key is no message's
  bulk_recorded : (st : State) (header : List ℕ) (e p : ℕ) → length header ≡ header_width → Fit terms table st (suc e) p
      → Tracked terms table st (record { register = add st.register (key (sender_of header) (bulk_identifier_of header) bulk_tag); positions = st.positions }) []
  unfolding with_message_tag
  bulk_recorded st header e p wide f =
      let new = key (sender_of header) (bulk_identifier_of header) bulk_tag in
      let parts = own_key_parts header wide in
      let enough = f.spare.left in
      let left : used st.register < room st.register = omega arith in
      let tag = tag_read (sender_of header) (bulk_identifier_of header) bulk_tag parts in
      let same = tracked_none terms table st in
      record {
        fresh = same.fresh;
        recorded =
            ap with_message_tag (keys_add st.register new f.spare.formed left (key_length (sender_of header) (bulk_identifier_of header) bulk_tag parts))
            ∙ tag_append (keys_of st.register) (new ∷ [])
            ∙ ap (λ (l : List (List ℕ)). message_keys st.register ++ l) (rw tag);
        positions = same.positions;
      }

  -- ---- a message

  module _ (header : List ℕ) (kind : ℕ) (message : List ℕ) (wide : length header ≡ header_width) (wide' : length message ≡ message_width kind) (st : State)
      (e p : ℕ) (f : Fit terms table st (suc e) (suc p)) (sends : Sends terms table header) (a : Accepted terms table header message st) where
    abbrev new : List ℕ
    new = key (sender_of header) (identifier_of message) message_tag

    abbrev cents : ℕ
    cents = amount_of message

    accepted_recorded : message_keys (add st.register new) ≡ message_keys st.register ++ (new ∷ [])
    unfolding with_message_tag
    accepted_recorded =
        let parts = key_parts header kind message wide wide' in
        let enough = f.spare.left in
        let left : used st.register < room st.register = omega arith in
        let tag = tag_read (sender_of header) (identifier_of message) message_tag parts in
        ap with_message_tag (keys_add st.register new f.spare.formed left (key_length (sender_of header) (identifier_of message) message_tag parts))
        ∙ tag_append (keys_of st.register) (new ∷ [])
        ∙ ap (λ (l : List (List ℕ)). message_keys st.register ++ l) (rw tag)

    to_one : (j : ℕ) → cents_to terms table j (payment_of header message ∷ []) ≡ cond (eqb a.row j) cents 0
    unfolding cents_to
    to_one j = rw a.found (add-zero (cond (eqb a.row j) cents 0))

    from_one_lem : (j : ℕ) → cents_from terms table j (payment_of header message ∷ []) ≡ cond (eqb sends.row j) cents 0
    unfolding cents_from
    from_one_lem j = rw sends.found (add-zero (cond (eqb sends.row j) cents 0))

    accepted_moved : (j : ℕ) → signed (position_at (after_accepted terms table header message st).positions j)
        ≡ signed (position_at st.positions j) +ℤ pos (cents_to terms table j (payment_of header message ∷ [])) -ℤ pos (cents_from terms table j (payment_of header message ∷ []))
    accepted_moved j =
        let s = office_below terms.date table (sender_of header) sends.row sends.found in
        let t = route_below terms.date table (receiver_of message) a.row a.found in
        let small = a.small in
        ap (λ (ps : List ℕ). signed (position_at ps j)) (pays_found terms table header message st sends a)
        ∙ pays_exact st.positions sends.row a.row cents j f.bytes (has_row terms table st.positions sends.row f.places s) (has_row terms table st.positions a.row f.places t)
        (room_less st.positions (suc p * most_cents) cents f.room (omega arith))
        ∙ swapped (signed (position_at st.positions j)) (share sends.row j cents) (share a.row j cents)
        ∙ ap₂ (λ (x y : ℕ). signed (position_at st.positions j) +ℤ pos x -ℤ pos y) (sym (to_one j)) (sym (from_one_lem j))

    accepted_tracked : Tracked terms table st (after_accepted terms table header message st) (payment_of header message ∷ [])
    unfolding Fresh
    accepted_tracked =
        record {
          fresh = (not_listed (keys_of st.register) new (sym (stands_listed st.register new) ∙ a.fresh), tt);
          recorded = accepted_recorded;
          positions = accepted_moved;
        }

  -- ---- the messages of a bulk

  module _ (header : List ℕ) (wide : length header ≡ header_width) (fallen : Bool) (kind : ℕ) (sends : fallen ≡ false → Sends terms table header) where
    abbrev verdict : List ℕ → State → Bool
    verdict m st = is_accepted fallen (faults_of terms table header m st)

    abbrev next : List ℕ → State → State
    next m st = after_message terms table header fallen m st

    one_tracked : (m : List ℕ) (st : State) (e p : ℕ) → length m ≡ message_width kind → Fit terms table st (suc e) (suc p)
        → (t : Bool) → verdict m st ≡ t → Tracked terms table st (next m st) (cond t (payment_of header m ∷ []) [])
    one_tracked m st e p wide' f true told =
        let facts = verdict_facts terms table fallen (faults_of terms table header m st) told in
        rw (after_accepted_lem terms table header fallen m st told)
        (accepted_tracked header kind m wide wide' st e p f (sends facts.0) (accepted_facts terms table header m st facts.1))
    one_tracked m st e p wide' f false told = rw (after_rejected terms table header fallen m st told) (tracked_none terms table st)

    paid_first : (m : List ℕ) (ms : List (List ℕ)) (st : State)
        → cond (verdict m st) (payment_of header m ∷ []) [] ++ paid terms table header fallen ms (next m st) ≡ paid terms table header fallen (m ∷ ms) st
    unfolding paid
    paid_first m ms st = by_test (verdict m st)
      where
        by_test : (t : Bool) → cond t (payment_of header m ∷ []) [] ++ paid terms table header fallen ms (next m st)
            ≡ cond t (payment_of header m ∷ paid terms table header fallen ms (next m st)) (paid terms table header fallen ms (next m st))
        by_test true = refl
        by_test false = refl

    messages_tracked : (ms : List (List ℕ)) (st : State) (e p : ℕ) → MessagesWide kind ms → Fit terms table st (length ms + e) (length ms + p)
        → Tracked terms table st (judge_messages terms table header fallen ms st).after (paid terms table header fallen ms st)
    unfolding judge_messages MessagesWide paid
    messages_tracked [] st e p all f = tracked_none terms table st
    messages_tracked (m ∷ ms) st e p all f =
        let more : Fit terms table st (suc (length ms + e)) (suc (length ms + p)) = fit_less terms table st (suc (length ms) + e) (suc (length ms) + p) (suc (length ms + e)) (suc (length ms + p)) f (omega arith) (omega arith) in
        let first = one_tracked m st (length ms + e) (length ms + p) all.0 more (verdict m st) refl in
        let rest = messages_tracked ms (next m st) e p all.1 (message_fit terms table header fallen sends m st (length ms + e) (length ms + p) more) in
        subst (λ (ps : List Payment). Tracked terms table st (judge_messages terms table header fallen ms (next m st)).after ps) (paid_first m ms st)
        (tracked_then terms table st (next m st) (judge_messages terms table header fallen ms (next m st)).after (cond (verdict m st) (payment_of header m ∷ []) []) (paid terms table header fallen ms (next m st)) first rest)

  -- ---- a bulk, all bulks

  module _ (b : Bulk) (st : State) where
    abbrev paid_in : List Payment
    paid_in = paid terms table b.header (falls terms table b st) b.messages st

    abbrev after : State
    after = (messages_judged terms table b st).after

    abbrev entered : State
    entered = record { register = add after.register (key (sender_of b.header) (bulk_identifier_of b.header) bulk_tag); positions = after.positions }

    bulk_tracked : (e p : ℕ) → BulkWide b → Fit terms table st (suc (length b.messages + e)) (length b.messages + p) → Tracked terms table st (after_bulk terms table b st) paid_in
    unfolding after_bulk
    bulk_tracked e p shaped f = by_count (eqb (messages_judged terms table b st).totals.accepted_number 0)
      where
        enough : Fit terms table st (length b.messages + suc e) (length b.messages + p)
        enough = fit_less terms table st (suc (length b.messages + e)) (length b.messages + p) (length b.messages + suc e) (length b.messages + p) f (omega arith) (omega arith)

        messages : Tracked terms table st after paid_in
        messages = messages_tracked b.header shaped.header (falls terms table b st) (kind_of b.header) (sends_facts terms table b st) b.messages st (suc e) p shaped.messages enough

        by_count : (t : Bool) → Tracked terms table st (cond t after entered) paid_in
        by_count true = messages
        by_count false =
            subst (λ (qs : List Payment). Tracked terms table st entered qs) (append-nil paid_in)
            (tracked_then terms table st after entered paid_in [] messages
            (bulk_recorded after b.header e p shaped.header (messages_fit terms table b.header (falls terms table b st) (sends_facts terms table b st) b.messages st (suc e) p enough)))

  bulks_tracked : (bs : List Bulk) (st : State) (e p : ℕ) → BulksWide bs → Fit terms table st (length bs + count_messages bs + e) (count_messages bs + p)
      → Tracked terms table st (judge_bulks terms table bs st).after (paid_by terms table bs st)
  unfolding judge_bulks BulksWide count_messages paid_by
  bulks_tracked [] st e p shaped f = tracked_none terms table st
  bulks_tracked (b ∷ bs) st e p shaped f =
      let n = length b.messages in
      let k = length bs in
      let m = count_messages bs in
      let enough : Fit terms table st (suc (n + (k + m + e))) (n + (m + p)) =
      fit_less terms table st (suc k + (n + m) + e) (n + m + p) (suc (n + (k + m + e))) (n + (m + p)) f (omega arith) (omega arith)
      in
      tracked_then terms table st (after_bulk terms table b st) (judge_bulks terms table bs (after_bulk terms table b st)).after
      (paid terms table b.header (falls terms table b st) b.messages st) (paid_by terms table bs (after_bulk terms table b st))
      (bulk_tracked b st (k + m + e) (m + p) shaped.0 enough)
      (bulks_tracked bs (after_bulk terms table b st) e p shaped.1 (bulk_fit terms table b st (k + m + e) (m + p) enough))

  -- ---- a file, judged or refused

  -- what a file leaves: its payments kept track of, and positions that are bytes, as many as before
  pub record Kept (before after : State) (ps : List Payment) : Type 0 where
    pub tracked : Tracked terms table before after ps
    pub bytes : Bytes after.positions
    pub long : length after.positions ≡ length before.positions

  module _ (st : State) (file : File) where
    abbrev call : Call
    call = call_on terms table file st

    abbrev bulks : List Bulk
    bulks = bulks_of file.sheet

    pub file_tracked : Bytes st.positions → Kept st (state_after outcome terms table file st) (accepted file.sheet (outcome call))
    file_tracked bytes = by_answer (ℕ_discrete (refusal call) 0)
      where
        enough : Clear call → Fit terms table st (length bulks + count_messages bulks + 0) (count_messages bulks + 0)
        enough clear =
            let n = bulk_number call clear.whole in
            let m = message_number call clear.whole in
            fit_less terms table st (bulk_count file.sheet + message_count file.sheet) (message_count file.sheet) (length bulks + count_messages bulks + 0) (count_messages bulks + 0) (clear_fit call clear bytes) (omega arith) (omega arith)

        by_answer : Dec (refusal call ≡ 0) → Kept st (state_after outcome terms table file st) (accepted file.sheet (outcome call))
        by_answer (yes e) =
            let clear = clear_of call e in
            let fit = bulks_fit terms table bulks st 0 0 (enough clear) in
            rw (said_judged call e, outcome_judged call e)
            (record {
              tracked = bulks_tracked bulks st 0 0 (all_wide call clear.whole) (enough clear);
              bytes = fit.bytes;
              long = fit.places ∙ sym clear.places;
            })
        by_answer (no e) =
            rw (said_refused call e, outcome_refused call e) (record { tracked = tracked_none terms table st; bytes = bytes; long = refl })

  -- ---- a run

  run_tracked : (files : List File) (st : State) → Bytes st.positions → Tracked terms table st (run outcome terms table files st).after (run outcome terms table files st).accepted
  unfolding run
  run_tracked [] st bytes = tracked_none terms table st
  run_tracked (f ∷ fs) st bytes =
      let first = file_tracked st f bytes in
      let next = state_after outcome terms table f st in
      tracked_then terms table st next (run outcome terms table fs next).after (accepted f.sheet (outcome (call_on terms table f st))) (run outcome terms table fs next).accepted
      first.tracked (run_tracked fs next first.bytes)

  run_recorded : (files : List File) (st : State)
      → entries_of (run outcome terms table files st).after.register ≡ entries_of st.register ++ map entry (run outcome terms table files st).recorded
  unfolding run
  run_recorded [] st = sym (append-nil (entries_of st.register))
  run_recorded (f ∷ fs) st =
      let next = state_after outcome terms table f st in
      let new = recorded f.sheet (outcome (call_on terms table f st)) in
      let later = (run outcome terms table fs next).recorded in
      run_recorded fs next
      ∙ ap (λ (es : List (List ℕ)). es ++ map entry later) (file_added (call_on terms table f st)).entries
      ∙ append_assoc (entries_of st.register) (map entry new) (map entry later)
      ∙ ap (λ (es : List (List ℕ)). entries_of st.register ++ es) (sym (map-append entry new later))

-- an empty register has no entries, whatever stands past the number used
none_used : (register : List ℕ) → used register ≡ 0 → entries_of register ≡ []
unfolding entries_to
none_used register e = let none : in_use register ≡ 0 = omega arith in rw none

-- Over any run of files on the same terms and table, refused ones among them: no sender's message identifier is accepted twice, the
-- register gains what the reports tell of and no other, and each row's position is its start plus the cents accepted to it less the
-- cents accepted from it.
pub runs_as_promised : RunsAsPromised outcome
runs_as_promised terms table before files bytes =
    let ran = run outcome terms table files before in
    let tracked = run_tracked terms table files before bytes in
    record {
      once = none_twice (message_keys before.register) ran.accepted tracked.fresh;
      recorded = run_recorded terms table files before;
      stands = all_stand_from ran.after.register (message_keys before.register) ran.accepted tracked.recorded;
      messages = tracked.recorded;
      positions = tracked.positions;
    }

pub empty_register_fills : EmptyRegisterFills outcome
empty_register_fills terms table before files empty bytes =
    (runs_as_promised terms table before files bytes).recorded ∙ (rw (none_used before.register empty))
