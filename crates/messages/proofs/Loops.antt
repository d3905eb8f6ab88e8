-- The loop over a bulk's messages: what is left, judged from the state so far, comes to what all come to. Assumes nothing.
use mathlib.Core.Path.{◌≡◌, sym, ap, ◌∙◌}
use mathlib.Core.Bool.{Bool, true, false, cond}
use mathlib.Core.List.{List, ◌∷◌}
use Prim.Native.Nat.{ℕ, suc, ◌+◌, ◌-◌, ◌*◌, ◌^◌, ◌≤◌, ◌<◌}
use native.Mathlib.Nat.{add-zero}
use native.Mathlib.Omega.{arith}
use lib.ListN.{length}
use lib.Seq.{sets}
use Rattle.sheet.specs.Sheet.{message_width, message_at, records_at, amount_of}
use Rattle.sheet.proofs.Fields.{message_width_lem}
use Rattle.sheet.proofs.Laws.{records_step, records_end, records_length, message_bound}
use Rattle.tally.specs.Tally.{Totals, with_accepted, with_rejected, totals_of}
use Rattle.tally.specs.Room.{Within, most_counted}
use Rattle.register.specs.Room.{Spare}
use Rattle.index.specs.Searches.{slots_read, slots_read_by}
use Rattle.index.specs.Ready.{index_by}
use Rattle.index.proofs.Ways.{index_then, reads_fit}
use Rattle.report.specs.Line.{message_line_width}
use Rattle.report.proofs.Laws.{line_within}
use Rattle.tally.proofs.Laws.{within_accepted, within_rejected}
use Rattle.messages.specs.Messages.{State, after_message, line_of, counted, judge_messages}
use Rattle.messages.specs.Searches.{message_search, message_searches}
use Rattle.messages.specs.declared.Verdict.{Verdict}
use Rattle.messages.specs.declared.Counts.{Counts}
use Rattle.messages.specs.Ready.{state_of, SectionReady, MessageTold, MessagesTold}
use Rattle.messages.proofs.Sums.{plus, plus_nothing}
use Rattle.messages.proofs.Walks.{after_first, lines_first, totals_first, message_spare, slots_first, searches_length}
use Rattle.messages.proofs.Widths.{line_wide}
use Rattle.wire.proofs.Stores.{sets_then}
use Rattle.rules.specs.declared.Terms.{Terms}

module _ (terms : Terms) (table header : List ℕ) (fallen indexed : Bool) (kind : ℕ) (sheet : List ℕ) (at n : ℕ) (before : State) (index₀ out₀ : List ℕ) where
  pub record MessagesLeft (register index positions out : List ℕ) (t : Totals) (slots place j : ℕ) : Type 0 where
    pub low : j ≤ n
    pub here : place ≡ at + message_width kind * j
    pub within : Within j t
    pub register_wide : length register ≡ length before.register
    pub index_wide : length index ≡ length index₀
    pub positions_wide : length positions ≡ length before.positions
    pub out_wide : length out ≡ length out₀
    pub after : (judge_messages terms table header fallen (records_at sheet (message_width kind) (n - j) place) (state_of register positions)).after
        ≡ (judge_messages terms table header fallen (records_at sheet (message_width kind) n at) before).after
    pub lines : sets out (message_line_width * j) (judge_messages terms table header fallen (records_at sheet (message_width kind) (n - j) place) (state_of register positions)).lines
        ≡ sets out₀ 0 (judge_messages terms table header fallen (records_at sheet (message_width kind) n at) before).lines
    pub totals : plus t (judge_messages terms table header fallen (records_at sheet (message_width kind) (n - j) place) (state_of register positions)).totals
        ≡ (judge_messages terms table header fallen (records_at sheet (message_width kind) n at) before).totals
    pub spare : Spare register (n - j)
    pub kept : index ≡ index_by indexed index₀ register
    pub counted : slots + slots_read_by indexed (message_searches terms table header fallen (records_at sheet (message_width kind) (n - j) place) (state_of register positions))
        ≡ slots_read_by indexed (message_searches terms table header fallen (records_at sheet (message_width kind) n at) before)

  module _ (register index positions out : List ℕ) (t : Totals) (slots place j : ℕ) (left : MessagesLeft register index positions out t slots place j) where
    pub message_within : SectionReady sheet kind (record { at = at; number = n }) → j < n → place + message_width kind ≤ length sheet
    message_within ready h = rw left.here (message_bound kind sheet at n j ready.within h)

    pub line_space : message_line_width * n ≤ length out₀ → j < n → message_line_width * j + message_line_width ≤ length out
    line_space space h = let wide = left.out_wide in let fits = line_within j n h in omega arith

    -- what is counted is a part of the whole, which fits
    pub slots_room : n ≤ most_counted → j < n → (read : ℕ) → read ≡ slots_read indexed (message_search header (message_at sheet kind place) (state_of register positions)) → slots + read < 2 ^ 64
    slots_room few h read e =
        let split = records_step (message_width kind) sheet n j place h in
        let sum = rw split at left.counted in
        let first = slots_first terms table header fallen indexed (message_at sheet kind place) (records_at sheet (message_width kind) (n - (j + 1)) (place + message_width kind)) (state_of register positions) in
        let most = reads_fit indexed (message_searches terms table header fallen (records_at sheet (message_width kind) n at) before) in
        let many = searches_length terms table header fallen indexed (records_at sheet (message_width kind) n at) before ∙ records_length (message_width kind) sheet n at in
        omega (arith, sum, first, most, many, e)

    either_within : (accepted : Bool) (amount : ℕ) → amount < 2 ^ 64 → Within (j + 1) (cond accepted (with_accepted t amount) (with_rejected t amount))
    either_within true amount word = within_accepted j t amount word left.within
    either_within false amount word = within_rejected j t amount word left.within

    module _ (ready : SectionReady sheet kind (record { at = at; number = n })) (h : j < n) (register' index' positions' out' : List ℕ) (verdict : Verdict)
        (told : MessageTold terms table header fallen indexed (message_at sheet kind place) (state_of register positions) index (message_line_width * j) out register' index' positions' out' verdict)
        (rw' : length register' ≡ length register) (iw' : length index' ≡ length index) (pw' : length positions' ≡ length positions) (ow' : length out' ≡ length out)
        (amount : ℕ) (ea : amount ≡ amount_of (message_at sheet kind place)) (word : amount < 2 ^ 64)
        (t' : Totals) (et : t' ≡ cond verdict.accepted (with_accepted t amount) (with_rejected t amount))
        (slots' : ℕ) (es : slots' ≡ slots + verdict.slots) (place' : ℕ) (ep : place' ≡ place + message_width kind) where
      m : List ℕ
      m = message_at sheet kind place

      ms : List (List ℕ)
      ms = records_at sheet (message_width kind) (n - (j + 1)) (place + message_width kind)

      split : records_at sheet (message_width kind) (n - j) place ≡ message_at sheet kind place ∷ records_at sheet (message_width kind) (n - (j + 1)) (place + message_width kind)
      split = records_step (message_width kind) sheet n j place h

      state_next : state_of register' positions' ≡ after_message terms table header fallen (message_at sheet kind place) (state_of register positions)
      state_next = λ i. record { register = told.register i; positions = told.positions i }

      line_long : length (line_of terms table header fallen (message_at sheet kind place) (state_of register positions)) ≡ message_line_width
      line_long = line_wide terms table header fallen kind (message_at sheet kind place) (state_of register positions) (message_width_lem kind sheet place (message_within ready h))

      next_line : message_line_width * (j + 1) ≡ message_line_width * j + message_line_width
      next_line = omega arith

      counted_next : t' ≡ counted terms table header fallen (message_at sheet kind place) (state_of register positions) t
      unfolding counted
      counted_next = et ∙ (rw (told.accepted, ea))

      step : n - j ≡ suc (n - (j + 1))
      step = omega arith

      slots_next : slots' + slots_read_by indexed (message_searches terms table header fallen (records_at sheet (message_width kind) (n - (j + 1)) (place + message_width kind)) (after_message terms table header fallen (message_at sheet kind place) (state_of register positions)))
          ≡ slots_read_by indexed (message_searches terms table header fallen (records_at sheet (message_width kind) n at) before)
      slots_next =
          let sum = rw split at left.counted in
          let first = slots_first terms table header fallen indexed (message_at sheet kind place) (records_at sheet (message_width kind) (n - (j + 1)) (place + message_width kind)) (state_of register positions) in
          omega (arith, sum, first, es, told.slots)

      pub messages_turn : MessagesLeft register' index' positions' out' t' slots' place' (j + 1)
      unfolding m ms
      messages_turn =
          record {
            low = omega arith;
            here = (let e = left.here in rw ep (omega arith));
            within = rw et (either_within verdict.accepted amount word);
            register_wide = rw' ∙ left.register_wide;
            index_wide = iw' ∙ left.index_wide;
            positions_wide = pw' ∙ left.positions_wide;
            out_wide = ow' ∙ left.out_wide;
            after = rw (ep, state_next) (after_first terms table header fallen m ms (state_of register positions) ∙ (rw split at left.after));
            lines =
                rw (ep, state_next, told.line, next_line)
                (sets_then out (message_line_width * j) message_line_width (line_of terms table header fallen m (state_of register positions)) _ line_long
                ∙ ap (sets out (message_line_width * j)) (sym (lines_first terms table header fallen m ms (state_of register positions)))
                ∙ (rw split at left.lines));
            totals = rw (ep, state_next, counted_next) (totals_first terms table header fallen m ms (state_of register positions) t ∙ (rw split at left.totals));
            spare = rw told.register (message_spare terms table header fallen m (state_of register positions) (n - (j + 1)) (rw step at left.spare));
            kept = told.kept ∙ index_then index₀ index register indexed left.kept _ ∙ (rw told.register);
            counted = rw (ep, state_next) slots_next;
          }

    pub messages_end : n ≤ j → (counts : Counts) → totals_of counts.tally ≡ t → counts.slots ≡ slots
        → MessagesTold terms table header fallen indexed (records_at sheet (message_width kind) n at) before index₀ out₀ register index positions out counts
    unfolding judge_messages message_searches slots_read_by
    messages_end h counts et es =
        let none = records_end (message_width kind) sheet n j place h in
        let ended = rw none at left.after in
        record {
          totals = et ∙ sym (plus_nothing t) ∙ (rw none at left.totals);
          slots = es ∙ sym (add-zero slots) ∙ (rw none at left.counted);
          register = ap (λ (s : State). s.register) ended;
          kept = left.kept ∙ ap (λ (s : State). index_by indexed index₀ s.register) ended;
          positions = ap (λ (s : State). s.positions) ended;
          lines = rw none at left.lines;
        }
