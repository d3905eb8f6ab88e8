-- The loop over a file's bulks: what is left, judged from the state so far, comes to what all come to. Assumes nothing.
use mathlib.Core.Path.{◌≡◌, refl, sym, ap, subst, ◌∙◌}
use mathlib.Core.Bool.{Bool}
use mathlib.Core.List.{List, ◌∷◌, ◌++◌}
use Prim.Native.Nat.{ℕ, ◌+◌, ◌-◌, ◌*◌, ◌^◌, ◌≤◌, ◌<◌}
use native.Mathlib.Nat.{sub-zero, zero-add, add-zero, le_of_eq}
use native.Mathlib.Omega.{arith}
use lib.ListN.{length, length-append}
use lib.Seq.{sets}
use Rattle.wire.proofs.Stores.{sets_then, sets_swap}
use Rattle.routing.specs.Table.{rows}
use Rattle.sheet.specs.Sheet.{header_width, width_at, count_at, after_messages, Bulk, bulk_at, bulks_from, bulks_of, bulk_count, first_section, end_from, messages_from}
use Rattle.sheet.specs.Reading.{HeaderRead, Inside, BulkTaken}
use Rattle.sheet.specs.declared.BulkRead.{BulkRead}
use Rattle.sheet.proofs.Bulks.{BulkWide, bulk_wide, bulks_wide}
use Rattle.sheet.proofs.Laws.{whole_facts, records_length, bulks_length, bulks_messages, header_bound, end_step, end_bound, messages_step, bulks_step, bulks_end}
use Rattle.register.specs.Room.{Spare}
use Rattle.register.proofs.Laws.{spare_less}
use Rattle.index.specs.Searches.{slots_read_by}
use Rattle.index.specs.Ready.{index_by, Ready}
use Rattle.index.proofs.Ways.{index_then, index_own}
use Rattle.positions.specs.Positions.{position_width}
use Rattle.rules.specs.declared.Terms.{Terms}
use Rattle.report.specs.Line.{count_width, first_line, sections_place, after_lines, message_line_width, bulk_line_width}
use Rattle.report.specs.declared.Places.{Places}
use Rattle.refusing.specs.Refusals.{most_messages}
use Rattle.refusing.specs.Checking.{Few}
use Rattle.sheet.specs.declared.Contents.{Contents}
use Rattle.messages.specs.Messages.{State}
use Rattle.messages.specs.Ready.{state_of, SectionReady}
use Rattle.judging.specs.Judgement.{bulk_line_of, section_of, after_bulk, judge_bulks}
use Rattle.judging.specs.Searches.{bulk_searches, searches}
use Rattle.judging.specs.Ready.{bulk_in, HeaderReady, BulkSpace, BulkTold, BulksReady, BulksTold}
use Rattle.judging.proofs.Walks.{after_bulk_lem, bulk_lines_lem, bulk_sections}
use Rattle.judging.proofs.Entries.{bulk_spare, slots_split, slots_few}
use Rattle.judging.proofs.Widths.{section_wide, bulk_line_wide, bulk_lines_wide}

module _ (terms : Terms) (table sheet : List ℕ) (indexed : Bool) (bulks : ℕ) (before : State) (index₀ report₀ : List ℕ) where
  pub record BulksLeft (register index positions report : List ℕ) (slots head at line to k : ℕ) : Type 0 where
    pub low : k ≤ bulks
    pub headed : count_width + header_width * bulks ≤ length sheet
    pub head_here : head ≡ count_width + header_width * k
    pub line_here : line ≡ first_line + bulk_line_width * k
    pub to_here : sections_place bulks ≤ to
    pub ended : end_from sheet (bulks - k) head at ≡ length sheet
    pub few : messages_from sheet (bulks - k) head at ≤ most_messages
    pub space : to + count_width * (bulks - k) + message_line_width * messages_from sheet (bulks - k) head at ≤ length report₀
    pub register_wide : length register ≡ length before.register
    pub index_wide : length index ≡ length index₀
    pub positions_wide : length positions ≡ length before.positions
    pub report_wide : length report ≡ length report₀
    pub after : (judge_bulks terms table (bulks_from sheet (bulks - k) head at) (state_of register positions)).after ≡ (judge_bulks terms table (bulks_of sheet) before).after
    pub written : sets
        (sets report line (judge_bulks terms table (bulks_from sheet (bulks - k) head at) (state_of register positions)).lines)
        to
        (judge_bulks terms table (bulks_from sheet (bulks - k) head at) (state_of register positions)).sections
        ≡ sets (sets report₀ first_line (judge_bulks terms table (bulks_of sheet) before).lines) (sections_place bulks) (judge_bulks terms table (bulks_of sheet) before).sections
    pub spare : Spare register (bulks - k + messages_from sheet (bulks - k) head at)
    pub kept : index ≡ index_by indexed index₀ register
    pub counted : slots + slots_read_by indexed (searches terms table (bulks_from sheet (bulks - k) head at) (state_of register positions)) ≡ slots_read_by indexed (searches terms table (bulks_of sheet) before)
    pub bounded : slots_read_by indexed (searches terms table (bulks_of sheet) before) < 2 ^ 64

  -- all searches of a file that is not too large
  all_bounded : (contents : Contents) → Few sheet contents → slots_read_by indexed (searches terms table (bulks_of sheet) before) < 2 ^ 64
  all_bounded contents few =
      let most = slots_few terms table indexed (bulks_of sheet) before in
      let b = bulks_length sheet (bulk_count sheet) count_width (first_section sheet) in
      let m = bulks_messages sheet (bulk_count sheet) count_width (first_section sheet) in
      omega (arith, most, b, m, few.measured.bulk_count, few.measured.message_count, few.bulks, few.messages)

  pub bulks_start : (contents : Contents) → contents.bulks ≡ bulks → BulksReady sheet table before.positions report₀ contents → Ready indexed before.register index₀ (contents.bulks + contents.messages)
      → (head at : ℕ) → head ≡ count_width → at ≡ first_section sheet → (line to : ℕ) → line ≡ first_line → to ≡ sections_place bulks
      → BulksLeft before.register index₀ before.positions report₀ 0 head at line to 0
  bulks_start contents holds ready place head at eh ea line to el et =
      let m = ready.few.measured in
      let facts = whole_facts sheet m.whole in
      let count : bulks ≡ bulk_count sheet = sym holds ∙ m.bulk_count in
      let held : contents.messages ≡ messages_from sheet bulks head at = m.message_count ∙ (rw (eh, ea, count)) in
      record {
        low = omega arith;
        headed = rw count facts.headed;
        head_here = omega arith;
        line_here = omega arith;
        to_here = omega arith;
        ended = rw (sub-zero bulks, count, eh, ea) facts.ended;
        few = rw (sub-zero bulks, ← held) ready.few.messages;
        space = (let s = ready.space in rw (sub-zero bulks, ← held) (omega arith));
        register_wide = refl;
        index_wide = refl;
        positions_wide = refl;
        report_wide = refl;
        after = rw (sub-zero bulks, count, eh, ea);
        written = rw (sub-zero bulks, eh, ea, el, et, count);
        spare = rw (sub-zero bulks, ← held, ← holds) place.spare;
        kept = place.kept;
        counted = rw (sub-zero bulks, count, eh, ea) (zero-add _);
        bounded = all_bounded contents ready.few;
      }

  module _ (register index positions report : List ℕ) (slots head at line to k : ℕ) (left : BulksLeft register index positions report slots head at line to k) where
    pub header_within_lem : k < bulks → head + header_width ≤ length sheet
    header_within_lem h = rw left.head_here (header_bound sheet count_width bulks k left.headed h)

    pub bulk_inside : k < bulks → Inside sheet head at
    bulk_inside h = end_bound sheet bulks k head at h (header_within_lem h) (le_of_eq left.ended)

    module _ (h : k < bulks) where
      messages_left : messages_from sheet (bulks - k) head at ≡ count_at sheet at + messages_from sheet (bulks - (k + 1)) (head + header_width) (after_messages sheet head at)
      messages_left = messages_step sheet bulks k head at h

      -- so their lines take those of this bulk and of the rest
      lines_left_lem : message_line_width * messages_from sheet (bulks - k) head at
          ≡ message_line_width * count_at sheet at + message_line_width * messages_from sheet (bulks - (k + 1)) (head + header_width) (after_messages sheet head at)
      lines_left_lem = rw messages_left (omega arith)

      -- what the walk read is the bulk at its places
      module _ (read : BulkRead) (taken : BulkTaken sheet head at read) where
        pub section_ready : SectionReady sheet read.header.kind read.section
        section_ready =
            let inside = bulk_inside h in
            record {
              within = rw (taken.first, taken.number, taken.header.kind) inside.messages;
              few = (let few = left.few in let e = messages_left in rw taken.number (omega arith));
            }

        pub bulk_space : (places : Places) → places.line ≡ line → places.section ≡ to → BulkSpace report read.section.number places
        bulk_space places el et =
            let s = left.space in
            let e = lines_left_lem in
            let w = left.report_wide in
            let l = left.line_here in
            let t = left.to_here in
            record { before = omega arith; space = rw (w, taken.number, et) (omega arith) }

        pub header_ready : length positions ≡ position_width * rows table → HeaderReady sheet table positions read.header
        header_ready places =
            record {
              within = rw taken.header.place (header_within_lem h);
              read = subst (λ (k : ℕ). HeaderRead sheet k read.header) (sym taken.header.place) taken.header;
              places = places;
            }

        -- a place for each message and one for the bulk, and the index is that of the register so far
        pub bulk_places : Ready indexed register index (read.section.number + 1)
        bulk_places =
            record {
              spare = spare_less register (bulks - k + messages_from sheet (bulks - k) head at) (read.section.number + 1) (let e = messages_left in let n = taken.number in omega arith) left.spare;
              kept = index_own index₀ index register indexed left.kept;
            }

        bulk_there : bulk_in sheet read.header read.section ≡ bulk_at sheet head at
        bulk_there = rw (taken.header.kind, taken.header.place, taken.first, taken.number)

        pub told_there : (places : Places) (register' index' positions' report' : List ℕ) (more : ℕ) → places.line ≡ line → places.section ≡ to
            → BulkTold terms table indexed (bulk_in sheet read.header read.section) (state_of register positions) index report places register' index' positions' report' more
            → BulkTold terms table indexed (bulk_at sheet head at) (state_of register positions) index report (record { line = line; section = to }) register' index' positions' report' more
        told_there places register' index' positions' report' more el et told =
            record {
              register = told.register ∙ ap (λ (b : Bulk). (after_bulk terms table b (state_of register positions)).register) bulk_there;
              kept = told.kept ∙ ap (λ (b : Bulk). index_by indexed index (after_bulk terms table b (state_of register positions)).register) bulk_there;
              positions = told.positions ∙ ap (λ (b : Bulk). (after_bulk terms table b (state_of register positions)).positions) bulk_there;
              read = told.read ∙ ap (λ (b : Bulk). slots_read_by indexed (bulk_searches terms table b (state_of register positions))) bulk_there;
              written = told.written ∙ (rw (bulk_there, el, et));
            }

      -- the line and the section lie in the report, also as the judge of the bulk leaves it
      module _ (report' : List ℕ) (kept : length report' ≡ length report) where
        pub section_within : (n : ℕ) → n ≡ count_at sheet at → after_lines to n ≤ length report'
        section_within n en = rw (kept, left.report_wide, en) (let s = left.space in let e = lines_left_lem in omega arith)

        pub line_within : line + bulk_line_width ≤ length report'
        line_within = (let l = left.line_here in let t = left.to_here in let s = section_within (count_at sheet at) refl in omega arith)

      -- what the bulks read so far and this one read is a part of the whole
      pub slots_room : (more : ℕ) → more ≡ slots_read_by indexed (bulk_searches terms table (bulk_at sheet head at) (state_of register positions)) → slots + more < 2 ^ 64
      slots_room more e =
          let sum = rw (bulks_step sheet bulks k head at h) at left.counted in
          let split = slots_split terms table indexed (bulk_at sheet head at) (bulks_from sheet (bulks - (k + 1)) (head + header_width) (after_messages sheet head at)) (state_of register positions) in
          omega (arith, sum, split, e, left.bounded)

      module _ (register' index' positions' report' : List ℕ) (more : ℕ)
          (told : BulkTold terms table indexed (bulk_at sheet head at) (state_of register positions) index report (record { line = line; section = to }) register' index' positions' report' more)
          (kr : length register' ≡ length register) (ki : length index' ≡ length index) (kp : length positions' ≡ length positions) (kw : length report' ≡ length report)
          (n head' at' line' to' : ℕ) (en : n ≡ count_at sheet at) (eh : head' ≡ head + header_width) (ea : at' ≡ after_messages sheet head at)
          (el : line' ≡ line + bulk_line_width) (et : to' ≡ after_lines to n) where
        split : bulks_from sheet (bulks - k) head at ≡ bulk_at sheet head at ∷ bulks_from sheet (bulks - (k + 1)) (head + header_width) (after_messages sheet head at)
        split = bulks_step sheet bulks k head at h

        state_next : state_of register' positions' ≡ after_bulk terms table (bulk_at sheet head at) (state_of register positions)
        state_next = λ i. record { register = told.register i; positions = told.positions i }

        -- the lines and the sections that are left
        lines_left : List ℕ
        lines_left = (judge_bulks terms table (bulks_from sheet (bulks - (k + 1)) (head + header_width) (after_messages sheet head at)) (after_bulk terms table (bulk_at sheet head at) (state_of register positions))).lines

        sections_left : List ℕ
        sections_left = (judge_bulks terms table (bulks_from sheet (bulks - (k + 1)) (head + header_width) (after_messages sheet head at)) (after_bulk terms table (bulk_at sheet head at) (state_of register positions))).sections

        the_line : List ℕ
        the_line = bulk_line_of terms table (bulk_at sheet head at) (state_of register positions)

        the_section : List ℕ
        the_section = section_of terms table (bulk_at sheet head at) (state_of register positions)

        here_wide : BulkWide (bulk_at sheet head at)
        here_wide = bulk_wide sheet head at (header_within_lem h) (bulk_inside h).messages

        line_long : length the_line ≡ bulk_line_width
        unfolding the_line
        line_long = bulk_line_wide terms table (bulk_at sheet head at) (state_of register positions) here_wide

        section_long : length the_section ≡ count_width + message_line_width * n
        unfolding the_section
        section_long =
            section_wide terms table (bulk_at sheet head at) (state_of register positions) here_wide
            ∙ (rw (records_length (width_at sheet head) sheet (count_at sheet at) (at + count_width), en))

        left_long : length lines_left ≡ bulk_line_width * (bulks - (k + 1))
        unfolding lines_left
        left_long =
            let over = after_messages sheet head at in
            bulk_lines_wide terms table (bulks_from sheet (bulks - (k + 1)) (head + header_width) over) _
            (bulks_wide sheet (bulks - (k + 1)) (head + header_width) over (let a = left.head_here in let b = left.headed in omega arith) (le_of_eq (sym (end_step sheet bulks k head at h) ∙ left.ended)))
            ∙ (rw (bulks_length sheet (bulks - (k + 1)) (head + header_width) over))

        apart : line + length (the_line ++ lines_left) ≤ to
        apart =
            let a = left.line_here in
            let b = left.to_here in
            let c = line_long in
            let d = left_long in
            rw (length-append the_line lines_left) (omega arith)

        -- the bulk's two writes and what is left of each are two longer writes
        joined : sets (sets (sets (sets report to the_section) line the_line) (line + bulk_line_width) lines_left) (after_lines to n) sections_left
            ≡ sets (sets report line (the_line ++ lines_left)) to (the_section ++ sections_left)
        joined =
            let place : after_lines to n ≡ to + (count_width + message_line_width * n) = omega arith in
            ap (λ (a : ℕ). sets (sets (sets (sets report to the_section) line the_line) (line + bulk_line_width) lines_left) a sections_left) place
            ∙ ap (λ (r : List ℕ). sets r (to + (count_width + message_line_width * n)) sections_left)
            (sets_then (sets report to the_section) line bulk_line_width the_line lines_left line_long ∙ sym (sets_swap report line (the_line ++ lines_left) to the_section apart))
            ∙ sets_then (sets report line (the_line ++ lines_left)) to (count_width + message_line_width * n) the_section sections_left section_long

        messages_here : length (bulk_at sheet head at).messages ≡ count_at sheet at
        messages_here = records_length (width_at sheet head) sheet (count_at sheet at) (at + count_width)

        spare_next : Spare (after_bulk terms table (bulk_at sheet head at) (state_of register positions)).register (bulks - (k + 1) + messages_from sheet (bulks - (k + 1)) (head + header_width) (after_messages sheet head at))
        spare_next =
            bulk_spare terms table (bulk_at sheet head at) (state_of register positions) _
            (spare_less register (bulks - k + messages_from sheet (bulks - k) head at) _ (let e = messages_left in let n = messages_here in omega arith) left.spare)

        counted_next : slots + more + slots_read_by indexed (searches terms table (bulks_from sheet (bulks - (k + 1)) (head + header_width) (after_messages sheet head at)) (after_bulk terms table (bulk_at sheet head at) (state_of register positions)))
            ≡ slots_read_by indexed (searches terms table (bulks_of sheet) before)
        counted_next =
            let sum = rw split at left.counted in
            let first = slots_split terms table indexed (bulk_at sheet head at) (bulks_from sheet (bulks - (k + 1)) (head + header_width) (after_messages sheet head at)) (state_of register positions) in
            omega (arith, sum, first, told.read)

        pub bulks_turn : BulksLeft register' index' positions' report' (slots + more) head' at' line' to' (k + 1)
        unfolding the_line the_section lines_left sections_left
        bulks_turn =
            record {
              low = omega arith;
              headed = left.headed;
              head_here = (let a = left.head_here in rw eh (omega arith));
              line_here = (let a = left.line_here in rw el (omega arith));
              to_here = (let a = left.to_here in rw et (omega arith));
              ended = rw (eh, ea) (sym (end_step sheet bulks k head at h) ∙ left.ended);
              few = (let a = left.few in let e = messages_left in rw (eh, ea) (omega arith));
              space = (let s = left.space in let e = lines_left_lem in rw (eh, ea, et, en) (omega arith));
              register_wide = kr ∙ left.register_wide;
              index_wide = ki ∙ left.index_wide;
              positions_wide = kp ∙ left.positions_wide;
              report_wide = kw ∙ left.report_wide;
              after = rw (eh, ea, state_next) (after_bulk_lem terms table (bulk_at sheet head at) _ (state_of register positions) ∙ (rw split at left.after));
              written =
                  rw (eh, ea, state_next, el, et, told.written)
                  (joined ∙ (rw (split, bulk_lines_lem terms table (bulk_at sheet head at) _ (state_of register positions), bulk_sections terms table (bulk_at sheet head at) _ (state_of register positions)) at left.written));
              spare = rw (eh, ea, told.register) spare_next;
              kept = told.kept ∙ index_then index₀ index register indexed left.kept _ ∙ (rw told.register);
              counted = rw (eh, ea, state_next) counted_next;
              bounded = left.bounded;
            }

    pub bulks_ended : bulks ≤ k → BulksTold terms sheet table indexed bulks before index₀ report₀ register index positions report slots
    unfolding judge_bulks searches slots_read_by
    bulks_ended h =
        let none = bulks_end sheet bulks k head at h in
        let ended = rw none at left.after in
        record {
          register = ap (λ (s : State). s.register) ended;
          kept = left.kept ∙ ap (λ (s : State). index_by indexed index₀ s.register) ended;
          read = sym (add-zero slots) ∙ (rw none at left.counted);
          positions = ap (λ (s : State). s.positions) ended;
          written = rw none at left.written;
        }
