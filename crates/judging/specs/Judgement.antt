-- What a judgement is: a walk over the bulks of a file in their order, each of which sees the register that the ones before it left.
-- Assumes nothing.
use Rattle.std.specs.Prelude.{ℕ, Bool, cond, not, List, [], ◌∷◌, ◌++◌, length, eqb}
use Rattle.wire.specs.Field.{bytes_of}
use Rattle.sheet.specs.Sheet.{Bulk, sender_of, bulk_identifier_of}
use Rattle.register.specs.Register.{key, bulk_tag, add}
use Rattle.rules.specs.declared.Terms.{Terms}
use Rattle.faults.specs.Faults.{bulk_faults}
use Rattle.tally.specs.Tally.{Totals}
use Rattle.report.specs.Line.{count_width, bulk_line}
use Rattle.messages.specs.Messages.{State, Judged, sum_of, judge_messages}

-- the lines of some bulks, the sections of their messages' lines, and the state after them
pub record JudgedBulks : Type 0 where
  pub lines : List ℕ
  pub sections : List ℕ
  pub after : State

abbrev pub bulk_accepted : ℕ
bulk_accepted = 0

abbrev pub bulk_partial : ℕ
bulk_partial = 1

abbrev pub bulk_rejected : ℕ
bulk_rejected = 2

-- rejected with a bulk fault; without one, accepted if all its messages are, partial if some are, rejected if none is
abbrev pub bulk_outcome : Bool → Totals → ℕ
bulk_outcome fallen t =
    cond fallen bulk_rejected (cond (eqb t.rejected_number 0) bulk_accepted (cond (eqb t.accepted_number 0) bulk_rejected bulk_partial))

-- ---- by the call's terms, with a table

module _ (terms : Terms) (table : List ℕ) where
  abbrev pub faults_of_bulk : Bulk → State → ℕ
  faults_of_bulk bulk before =
      bulk_faults terms table before.register bulk.header (length bulk.messages) (sum_of bulk.messages)

  abbrev pub falls : Bulk → State → Bool
  falls bulk before = not (eqb (faults_of_bulk bulk before) 0)

  abbrev pub messages_judged : Bulk → State → Judged
  messages_judged bulk before = judge_messages terms table bulk.header (falls bulk before) bulk.messages before

  unfoldable pub bulk_line_of : Bulk → State → List ℕ
  bulk_line_of bulk before =
      bulk_line (bulk_identifier_of bulk.header)
      (bulk_outcome (falls bulk before) (messages_judged bulk before).totals)
      (faults_of_bulk bulk before)
      (messages_judged bulk before).totals

  unfoldable pub section_of : Bulk → State → List ℕ
  section_of bulk before = bytes_of count_width (length bulk.messages) ++ (messages_judged bulk before).lines

  -- a bulk with an accepted message is recorded after its messages
  unfoldable pub after_bulk : Bulk → State → State
  after_bulk bulk before =
      let judged = messages_judged bulk before in
      cond (eqb judged.totals.accepted_number 0)
      judged.after
      (record {
        register = add judged.after.register (key (sender_of bulk.header) (bulk_identifier_of bulk.header) bulk_tag);
        positions = judged.after.positions;
      })

  -- ---- all bulks

  unfoldable pub judge_bulks : List Bulk → State → JudgedBulks
  judge_bulks [] before = record { lines = []; sections = []; after = before }
  judge_bulks (b ∷ bs) before =
      let rest = judge_bulks bs (after_bulk b before) in
      record {
        lines = bulk_line_of b before ++ rest.lines;
        sections = section_of b before ++ rest.sections;
        after = rest.after;
      }
