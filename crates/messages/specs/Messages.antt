-- The judgement of a bulk's messages: a walk in their order, each of which sees the register that the ones before it left. Assumes
-- nothing.
use Rattle.std.specs.Prelude.{ℕ, ◌+◌, Bool, cond, not, ◌&&◌, List, [], ◌∷◌, ◌++◌, eqb}
use Rattle.sheet.specs.Sheet.{sender_of, identifier_of, amount_of}
use Rattle.register.specs.Register.{key, message_tag, add}
use Rattle.positions.specs.Positions.{pays}
use Rattle.rules.specs.declared.Terms.{Terms}
use Rattle.faults.specs.Faults.{sender_row, receiver_row, message_faults}
use Rattle.tally.specs.Tally.{Totals, nothing, with_accepted, with_rejected}
use Rattle.report.specs.Line.{message_line}

-- what a judgement reads and changes
pub record State : Type 0 where
  pub register : List ℕ
  pub positions : List ℕ

-- the lines of some messages, what they come to, and the state after them
pub record Judged : Type 0 where
  pub lines : List ℕ
  pub totals : Totals
  pub after : State

-- ---- a message

-- without faults, in a bulk that did not fall
abbrev pub is_accepted : Bool → ℕ → Bool
is_accepted fallen faults = not fallen && eqb faults 0

abbrev pub message_accepted : ℕ
message_accepted = 0

abbrev pub message_rejected : ℕ
message_rejected = 1

-- with its bulk
abbrev pub message_fell : ℕ
message_fell = 2

abbrev pub message_outcome : Bool → ℕ → ℕ
message_outcome fallen faults = cond fallen message_fell (cond (eqb faults 0) message_accepted message_rejected)

-- the true sum of all amounts, however large
unfoldable pub sum_of : List (List ℕ) → ℕ
sum_of [] = 0
sum_of (m ∷ ms) = amount_of m + sum_of ms

-- ---- by the call's terms, with a table

module _ (terms : Terms) (table : List ℕ) where
  -- an accepted message is recorded, and its amount is paid
  abbrev pub after_accepted : List ℕ → List ℕ → State → State
  after_accepted header message before =
      record {
        register = add before.register (key (sender_of header) (identifier_of message) message_tag);
        positions = pays before.positions (sender_row terms table header) (receiver_row terms table message) (amount_of message);
      }

  abbrev pub faults_of : List ℕ → List ℕ → State → ℕ
  faults_of header message before = message_faults terms table before.register header message

  unfoldable pub after_message : List ℕ → Bool → List ℕ → State → State
  after_message header fallen message before =
      cond (is_accepted fallen (faults_of header message before)) (after_accepted header message before) before

  unfoldable pub line_of : List ℕ → Bool → List ℕ → State → List ℕ
  line_of header fallen message before =
      message_line (identifier_of message) (message_outcome fallen (faults_of header message before)) (faults_of header message before)

  -- a message counts with its amount, accepted or not
  unfoldable pub counted : List ℕ → Bool → List ℕ → State → Totals → Totals
  counted header fallen message before others =
      cond (is_accepted fallen (faults_of header message before))
      (with_accepted others (amount_of message))
      (with_rejected others (amount_of message))

  -- ---- the messages of a bulk

  unfoldable pub judge_messages : List ℕ → Bool → List (List ℕ) → State → Judged
  judge_messages header fell [] before = record { lines = []; totals = nothing; after = before }
  judge_messages header fell (m ∷ ms) before =
      let rest = judge_messages header fell ms (after_message header fell m before) in
      record {
        lines = line_of header fell m before ++ rest.lines;
        totals = counted header fell m before rest.totals;
        after = rest.after;
      }
