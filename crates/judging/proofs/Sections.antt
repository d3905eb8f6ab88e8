-- One bulk's line, section and state, from what the calls that made them told. Assumes nothing.
use mathlib.Core.Path.{◌≡◌, refl, sym, ap, ◌∙◌}
use mathlib.Core.Bool.{Bool, true, false, cond, not}
use mathlib.Core.List.{List, ◌++◌}
use Prim.Native.Nat.{ℕ, ◌+◌, ◌^◌, ◌≤◌, ◌<◌}
use native.Mathlib.Nat.{add-zero}
use native.Mathlib.Omega.{arith}
use lib.Dec.{eqb}
use lib.ListN.{length}
use lib.Seq.{sets, length-sets}
use borrow.Author.Tests.{eq-eqb, ne_eqb}
use Rattle.wire.specs.Field.{bytes_of}
use Rattle.wire.proofs.Numbers.{bytes_length}
use Rattle.wire.proofs.Stores.{sets_then}
use Rattle.routing.specs.Lookup.{option_of, head_office_row}
use Rattle.routing.specs.Promise.{RowTold}
use Rattle.std.specs.Prelude.{Option as RustOption}
use Rattle.sheet.specs.Sheet.{message_width, sender_of, bulk_identifier_of, Bulk}
use Rattle.sheet.specs.Reading.{header_in}
use Rattle.sheet.specs.declared.Header.{Header}
use Rattle.sheet.specs.declared.Section.{Section}
use Rattle.sheet.proofs.Fields.{sender_width_lem, bulk_identifier_width}
use Rattle.sheet.proofs.Laws.{records_length}
use Rattle.masks.specs.Mask.{mask}
use Rattle.slots.specs.Slots.{End}
use Rattle.register.specs.Register.{key_width, bulk_tag, add, key as key_of}
use Rattle.register.specs.Room.{Parts}
use Rattle.register.proofs.Laws.{key_length}
use Rattle.index.specs.Index.{end_in}
use Rattle.index.specs.Searches.{slots_read, slots_read_by}
use Rattle.index.specs.Ready.{index_by, nowhere, Ready, SoughtTold, EnteredAnew}
use Rattle.index.specs.declared.Sought.{Sought}
use Rattle.index.proofs.Ways.{index_then, index_own, read_of, reads_fit}
use Rattle.rules.specs.declared.Terms.{Terms}
use Rattle.faults.specs.Faults.{sender_row, bulk_facts_given, bulk_faults}
use Rattle.tally.specs.Tally.{Totals, totals_of}
use Rattle.tally.specs.Room.{most_counted}
use Rattle.report.specs.Line.{count_width, bulk_line, bulk_line_width, lines_at}
use Rattle.report.specs.declared.Places.{Places}
use Rattle.messages.specs.Messages.{State, judge_messages, sum_of}
use Rattle.messages.specs.Searches.{message_searches}
use Rattle.messages.specs.Ready.{state_of, messages_of, MessagesTold}
use Rattle.messages.specs.declared.Counts.{Counts}
use Rattle.messages.proofs.Walks.{messages_spare, searches_length}
use Rattle.judging.specs.Judgement.{bulk_outcome, faults_of_bulk, falls, messages_judged, bulk_line_of, section_of, after_bulk}
use Rattle.judging.specs.Searches.{bulk_search, search_again, bulk_searches}
use Rattle.judging.specs.Ready.{bulk_in, HeaderReady, BulkSpace, BulkTold, RecordTold}
use Rattle.judging.proofs.Entries.{bulk_slots}

-- ---- the record of a bulk

module _ (indexed : Bool) (register index new : List ℕ) (accepted : ℕ) where
  pub recorded_some : (accepted ≡ 0 → ⊥) → (register' index' : List ℕ) (slots : ℕ) → EnteredAnew indexed register index new register' index' slots
      → RecordTold indexed register index new accepted register' index' slots
  unfolding slots_read_by
  recorded_some more register' index' slots told =
      let some = ne_eqb accepted 0 more in
      record {
        recorded = told.entered.recorded ∙ (rw some);
        kept = told.entered.kept ∙ (rw some);
        read = told.read ∙ (rw some (sym (add-zero _)));
      }

  pub recorded_none : accepted ≡ 0 → index ≡ index_by indexed index register → RecordTold indexed register index new accepted register index 0
  unfolding slots_read_by
  recorded_none none kept = let e = eq-eqb accepted 0 none in record { recorded = rw e; kept = rw e kept; read = rw e }

-- ---- what the callees ask

module _ (terms : Terms) (sheet table positions : List ℕ) (header : Header) (ready : HeaderReady sheet table positions header) where
  module _ (sender : List ℕ) (read : sender ≡ sender_of (header_in sheet header)) (row : RustOption ℕ)
      (told : RowTold table (option_of row) (head_office_row terms.date table sender)) where
    row_told : option_of row ≡ sender_row terms table (header_in sheet header)
    row_told = told.is ∙ ap (λ (s : List ℕ). head_office_row terms.date table s) read

  pub bulk_parts : (sender identifier : List ℕ) → sender ≡ sender_of (header_in sheet header) → identifier ≡ bulk_identifier_of (header_in sheet header) → Parts sender identifier
  bulk_parts sender identifier es ei =
      record {
        sender_wide = ap length es ∙ sender_width_lem sheet header.at ready.within;
        identifier_wide = ap length ei ∙ bulk_identifier_width sheet header.at ready.within;
      }

  pub key_wide : (sender identifier key : List ℕ) → sender ≡ sender_of (header_in sheet header) → identifier ≡ bulk_identifier_of (header_in sheet header)
      → key ≡ key_of sender identifier bulk_tag → length key ≡ key_width
  key_wide sender identifier key es ei made = ap length made ∙ key_length sender identifier bulk_tag (bulk_parts sender identifier es ei)

-- the places that a bulk asks for, and what its messages leave of them
module _ (indexed : Bool) (register index : List ℕ) (n : ℕ) (ready : Ready indexed register index (n + 1)) where
  pub ready_after : (terms : Terms) (table header : List ℕ) (fallen : Bool) (messages : List (List ℕ)) (positions out register' index' positions' out' : List ℕ) (counts : Counts)
      → length messages ≡ n → MessagesTold terms table header fallen indexed messages (state_of register positions) index out register' index' positions' out' counts
      → Ready indexed register' index' 1
  ready_after terms table header fallen messages positions out register' index' positions' out' counts many told =
      record {
        spare = rw told.register
            (messages_spare terms table header fallen messages (state_of register positions) 1 (rw many ready.spare));
        kept = index_own index index' register' indexed (told.kept ∙ (rw told.register));
      }

-- what a bulk's messages read is far from passing 64 bits
pub slots_small_lem : (terms : Terms) (table header : List ℕ) (fallen indexed : Bool) (sheet : List ℕ) (kind : ℕ) (section : Section) (before : State) (index out register' index' positions' out' : List ℕ) (counts : Counts)
    → section.number ≤ most_counted → MessagesTold terms table header fallen indexed (messages_of sheet kind section) before index out register' index' positions' out' counts
    → counts.slots < 2 ^ 63
slots_small_lem terms table header fallen indexed sheet kind section before index out register' index' positions' out' counts few told =
    let most = reads_fit indexed (message_searches terms table header fallen (messages_of sheet kind section) before) in
    let many = searches_length terms table header fallen indexed (messages_of sheet kind section) before in
    let held = records_length (message_width kind) sheet section.number section.at in
    omega (arith, most, many, held, told.slots)

-- ---- the places in the report

pub place_there : (from to : ℕ) → from ≡ to → to ≡ from + 0
place_there from to e = omega arith

module _ (report : List ℕ) (n : ℕ) (places : Places) (space : BulkSpace report n places) where
  pub line_within : (report' report'' : List ℕ) (from : ℕ) (vs : List ℕ) → length report' ≡ length report → report'' ≡ sets report' from vs → places.line + bulk_line_width ≤ length report''
  line_within report' report'' from vs kept e =
      let h = space.space in
      let b = space.before in
      let wide : length report'' ≡ length report' = ap length e ∙ length-sets report' from vs in
      omega arith

-- ---- what the calls come to

either_register : (b : Bool) (x y : State) → cond b x.register y.register ≡ (cond b x y).register
either_register true x y = refl
either_register false x y = refl

either_positions : (b : Bool) (x y : State) → y.positions ≡ x.positions → x.positions ≡ (cond b x y).positions
either_positions true x y e = refl
either_positions false x y e = sym e

module _ (terms : Terms) (table sheet : List ℕ) (indexed : Bool) (header : Header) (section : Section) (before : State) (index report : List ℕ) (places : Places)
    (sender identifier key : List ℕ) (er : sender ≡ sender_of (header_in sheet header)) (ei : identifier ≡ bulk_identifier_of (header_in sheet header)) (ek : key ≡ key_of sender identifier bulk_tag)
    (sought : Sought) (found : SoughtTold indexed before.register key sought)
    (faults sum : ℕ) (es : sum ≡ sum_of (messages_of sheet header.kind section))
    (ef : faults ≡ mask (bulk_facts_given sought.there terms table (header_in sheet header) section.number sum)) where
  abbrev bulk : Bulk
  bulk = bulk_in sheet header section

  key_is : key ≡ key_of (sender_of (header_in sheet header)) (bulk_identifier_of (header_in sheet header)) bulk_tag
  key_is = ek ∙ (rw (er, ei))

  pub faults_are : faults ≡ faults_of_bulk terms table bulk before
  unfolding bulk_faults
  faults_are = ef ∙ (rw (es, found.there, key_is, records_length (message_width header.kind) sheet section.number section.at))

  module _ (counts : Counts) (lent register₁ index₁ positions₁ lent₁ : List ℕ)
      (told : MessagesTold terms table (header_in sheet header) (not (eqb faults 0)) indexed (messages_of sheet header.kind section) before index lent register₁ index₁ positions₁ lent₁ counts)
      (register₂ index₂ : List ℕ) (again : ℕ) (recorded : RecordTold indexed register₁ index₁ key (totals_of counts.tally).accepted_number register₂ index₂ again) where
    judged : MessagesTold terms table (header_in sheet header) (falls terms table bulk before) indexed (messages_of sheet header.kind section) before index lent register₁ index₁ positions₁ lent₁ counts
    judged = rw faults_are at told

    abbrev after : State
    after = (messages_judged terms table bulk before).after

    number_is_lem : (totals_of counts.tally).accepted_number ≡ (messages_judged terms table bulk before).totals.accepted_number
    number_is_lem = ap (λ (t : Totals). t.accepted_number) judged.totals

    new_is : cond (eqb (totals_of counts.tally).accepted_number 0) register₁ (add register₁ key) ≡ (after_bulk terms table bulk before).register
    unfolding after_bulk
    new_is =
        rw (number_is_lem, judged.register, key_is)
        (either_register (eqb (messages_judged terms table bulk before).totals.accepted_number 0) _ _)

    kept_is : index₂ ≡ index_by indexed index (after_bulk terms table bulk before).register
    kept_is =
        recorded.kept
        ∙ index_then index index₁ after.register indexed judged.kept _
        ∙ ap (index_by indexed index) new_is

    positions_are : positions₁ ≡ (after_bulk terms table bulk before).positions
    unfolding after_bulk
    positions_are =
        judged.positions
        ∙ either_positions (eqb (messages_judged terms table bulk before).totals.accepted_number 0) after _ refl

    -- the slots of the three searches
    again_is : again ≡ slots_read_by indexed (search_again (header_in sheet header) (messages_judged terms table bulk before).totals.accepted_number after)
    again_is = recorded.read ∙ (rw (number_is_lem, judged.register, key_is))

    first_is : sought.ended.read ≡ slots_read indexed (bulk_search (header_in sheet header) before)
    first_is =
        ap (λ (e : End). e.read) found.ended
        ∙ ap (λ (k : List ℕ). (cond indexed (end_in before.register k) nowhere).read) key_is
        ∙ read_of indexed (bulk_search (header_in sheet header) before)

    read_is : counts.slots + (sought.ended.read + again) ≡ slots_read_by indexed (bulk_searches terms table bulk before)
    read_is =
        let all = bulk_slots terms table indexed bulk before in
        omega (arith, all, first_is, judged.slots, again_is)

    module _ (report₁ report₂ report₃ : List ℕ) (outcome : ℕ)
        (counted : report₁ ≡ sets report places.section (bytes_of count_width section.number))
        (lines : report₂ ≡ sets report₁ (lines_at places.section) (judge_messages terms table (header_in sheet header) (not (eqb faults 0)) (messages_of sheet header.kind section) before).lines)
        (eo : outcome ≡ bulk_outcome (not (eqb faults 0)) (totals_of counts.tally))
        (lined : report₃ ≡ sets report₂ places.line (bulk_line identifier outcome faults (totals_of counts.tally))) where
      section_is_lem : report₂ ≡ sets report places.section (section_of terms table bulk before)
      unfolding section_of
      section_is_lem =
          let told = (messages_judged terms table bulk before).lines in
          (rw faults_are at lines)
          ∙ ap (λ (r : List ℕ). sets r (lines_at places.section) told) counted
          ∙ sets_then report places.section count_width (bytes_of count_width section.number) told (bytes_length count_width section.number)
          ∙ ap (λ (k : ℕ). sets report places.section (bytes_of count_width k ++ told)) (sym (records_length (message_width header.kind) sheet section.number section.at))

      line_is_lem : bulk_line identifier outcome faults (totals_of counts.tally) ≡ bulk_line_of terms table bulk before
      unfolding bulk_line_of
      line_is_lem =
          ap (λ (o : ℕ). bulk_line identifier o faults (totals_of counts.tally)) eo
          ∙ ap (λ (t : Totals). bulk_line identifier (bulk_outcome (not (eqb faults 0)) t) faults t) judged.totals
          ∙ (rw (faults_are, ei))

      pub bulk_told : BulkTold terms table indexed bulk before index report places register₂ index₂ positions₁ report₃ (counts.slots + (sought.ended.read + again))
      bulk_told =
          record {
            register = recorded.recorded ∙ new_is;
            kept = kept_is;
            positions = positions_are;
            written = lined ∙ (rw (line_is_lem, section_is_lem));
            read = read_is;
          }
