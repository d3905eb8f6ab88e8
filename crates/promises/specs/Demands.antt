-- The first two demands of a judge: it refuses as written, and every line tells what holds; and what else a call leaves. Assumes nothing.
use Rattle.std.specs.Prelude.{ℕ, ◌+◌, ◌≤◌, ◌≡◌, Bool, false, cond, List, [], ◌∷◌, ◌++◌, map, pos, ◌+ℤ◌, ◌-ℤ◌, length, drop, get_or}
use Rattle.wire.specs.Field.{number_at}
use Rattle.masks.specs.Mask.{shown}
use Rattle.sheet.specs.Sheet.{Bulk, bulk_identifier_of, identifier_of, bulk_count, message_count, bulks_of}
use Rattle.register.specs.Register.{entry, used, entry_at, entries_of, add}
use Rattle.positions.specs.Positions.{position_at, signed}
use Rattle.rules.specs.declared.Terms.{Terms}
use Rattle.faults.specs.Faults.{bulk_facts, message_facts}
use Rattle.report.specs.Line.{bulk_line_width, message_line_width, identifier_in, outcome_in, faults_in, totals_in, count_width, first_line, sections_place, lines_at, after_lines, report_length}
use Rattle.refusing.specs.Refusals.{Call, refusal}
use Rattle.messages.specs.Messages.{sum_of, message_outcome}
use Rattle.judging.specs.Judgement.{bulk_outcome}
use Rattle.judging.specs.Outcome.{Outcome}
use Rattle.promises.specs.Reading.{Judge, InBytes, Payment, payment_of, line_count, bulk_line_from, message_line_from, says_fallen, says_accepted, accepted_of, accepted, payment_key, recorded_of, recorded, with_keys, cents_to, cents_from}

-- ---- demand 1

-- what a refusal leaves: length 0, and every byte as it was
pub record Untouched (call : Call) (left : Outcome) : Type 0 where
  pub length : left.length ≡ 0
  pub register : left.register ≡ call.register
  pub positions : left.positions ≡ call.positions
  pub report : left.report ≡ call.report

pub record Refuses (call : Call) (left : Outcome) : Type 0 where
  -- the number of the first condition that holds, 0 for none
  pub number : left.number ≡ refusal call
  pub untouched : (refusal call ≡ 0 → ⊥) → Untouched call left

abbrev pub RefusesAsWritten : Judge → Type 0
RefusesAsWritten judge = (call : Call) → Refuses call (judge call)

-- ---- demand 2: the lines, read in the report

-- bit k of the faults says whether fact k holds
abbrev pub Shows : ℕ → List Bool → Type 0
Shows faults facts = (k : ℕ) → shown faults k ≡ get_or facts k false

unfoldable pub cents_paid : List Payment → ℕ
cents_paid [] = 0
cents_paid (p ∷ ps) = p.cents + cents_paid ps

module _ (terms : Terms) (table report : List ℕ) where
  -- a message of a bulk that fell or did not, judged on a register, and its line
  pub record MessageTells (header : List ℕ) (fallen : Bool) (message register line : List ℕ) : Type 0 where
    pub identifier : identifier_in line ≡ identifier_of message
    pub outcome : outcome_in line ≡ message_outcome fallen (faults_in line)
    -- every fault it has, and no other
    pub faults : Shows (faults_in line) (message_facts terms table register header message)

  -- of messages whose lines begin at place at, each is judged on the register that the lines before it make: with the key of each
  -- that says accepted
  unfoldable pub MessagesTell : List ℕ → Bool → List (List ℕ) → List ℕ → ℕ → Type 0
  MessagesTell header fell [] register at = Unit {0}
  MessagesTell header fell (m ∷ ms) register at =
      let line = message_line_from report at in
      MessageTells header fell m register line
      × MessagesTell header fell ms (cond (says_accepted line) (add register (payment_key (payment_of header m))) register) (at + message_line_width)

  -- a bulk judged on a register, its line, and its section, which begins at place at
  pub record BulkTells (bulk : Bulk) (register line : List ℕ) (at : ℕ) : Type 0 where
    pub identifier : identifier_in line ≡ bulk_identifier_of bulk.header
    pub outcome : outcome_in line ≡ bulk_outcome (says_fallen line) (totals_in line)
    pub faults : Shows (faults_in line) (bulk_facts terms table register bulk.header (length bulk.messages) (sum_of bulk.messages))
    -- what it says was accepted is what its message lines say was
    pub accepted_number : (totals_in line).accepted_number ≡ length (accepted_of report bulk.header bulk.messages (lines_at at))
    pub accepted_cents : (totals_in line).accepted_cents ≡ cents_paid (accepted_of report bulk.header bulk.messages (lines_at at))
    -- and with what was rejected adds up to what it holds
    pub numbers : (totals_in line).accepted_number + (totals_in line).rejected_number ≡ length bulk.messages
    pub cents : (totals_in line).accepted_cents + (totals_in line).rejected_cents ≡ sum_of bulk.messages
    -- the section's count, then its lines
    pub count : number_at report at count_width ≡ length bulk.messages
    pub messages : MessagesTell bulk.header (says_fallen line) bulk.messages register (lines_at at)

  -- of bulks whose lines begin at place at, and their sections at place section, each is judged on the register that the lines of those
  -- before it make
  unfoldable pub BulksTell : List Bulk → List ℕ → ℕ → ℕ → Type 0
  BulksTell [] register at section = Unit {0}
  BulksTell (b ∷ bs) register at section =
      BulkTells b register (bulk_line_from report at) section
      × BulksTell bs (with_keys register (recorded_of report b section)) (at + bulk_line_width) (after_lines section (length b.messages))

pub record LinesTell (call : Call) (left : Outcome) : Type 0 where
  pub length : left.length ≡ report_length (bulk_count call.sheet) (message_count call.sheet)
  pub count : line_count left ≡ bulk_count call.sheet
  pub bulks : BulksTell call.terms call.table left.report (bulks_of call.sheet) call.register first_line (sections_place (bulk_count call.sheet))

-- every line shows every fault it has and no other, and a bulk's numbers and cents add up to what it really holds
abbrev pub EveryLineTells : Judge → Type 0
EveryLineTells judge = (call : Call) → InBytes call → refusal call ≡ 0 → LinesTell call (judge call)

-- ---- and what else is left, told by the report

pub record Leaves (call : Call) (left : Outcome) : Type 0 where
  -- the entries in use are those before the call, then for each bulk those of its messages whose line says accepted, then its own
  pub entries : entries_of left.register ≡ entries_of call.register ++ map entry (recorded call.sheet left)
  pub number : used left.register ≡ used call.register + length (recorded call.sheet left)
  -- no byte of a place that did not come into use changes
  pub later_places : (k : ℕ) → used left.register ≤ k → entry_at left.register k ≡ entry_at call.register k
  -- a row's position changes by the cents of the lines that say accepted, to it and from it, and by nothing else
  pub positions : (j : ℕ)
      → signed (position_at left.positions j)
      ≡ signed (position_at call.positions j)
      +ℤ pos (cents_to call.terms call.table j (accepted call.sheet left))
      -ℤ pos (cents_from call.terms call.table j (accepted call.sheet left))
  -- no byte of the report past its length is touched
  pub later_bytes : drop left.length left.report ≡ drop left.length call.report
  -- and each is as long as it was
  pub register_length : length left.register ≡ length call.register
  pub positions_length : length left.positions ≡ length call.positions
  pub report_length : length left.report ≡ length call.report

abbrev pub LeavesTheRest : Judge → Type 0
LeavesTheRest judge = (call : Call) → InBytes call → refusal call ≡ 0 → Leaves call (judge call)
