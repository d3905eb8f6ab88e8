-- How a caller reads what a judge left: the lines of the report, which messages it says were accepted, and what that means for the
-- register and for each row's cents. What was judged is read in the report, by its layout, beside the sheet that it is about, and in
-- no definition of the judge, so that these words mean the same of any judge. Assumes nothing.
use Rattle.std.specs.Prelude.{ℕ, ◌+◌, ◌-◌, ◌*◌, Bool, false, cond, not, List, [], ◌∷◌, ◌++◌, map, length, eqb}
use Rattle.std.proofs.Math.Option.{Option, none, some}
use Rattle.wire.specs.Field.{Bytes, part, number_at}
use Rattle.routing.specs.Lookup.{head_office_row, route}
use Rattle.sheet.specs.Sheet.{Bulk, bulk_count, bulks_of, sender_of, bulk_identifier_of, identifier_of, receiver_of, amount_of}
use Rattle.register.specs.Register.{key, message_tag, bulk_tag, add}
use Rattle.rules.specs.declared.Terms.{Terms}
use Rattle.report.specs.Line.{bulk_line_width, message_line_width, outcome_in, faults_in, count_width, first_line, sections_place, lines_at, after_lines}
use Rattle.refusing.specs.Refusals.{Call}
use Rattle.messages.specs.Messages.{message_accepted}
use Rattle.judging.specs.Outcome.{Outcome}

-- any judge, as far as a caller can tell: from what it is given to what it answers and leaves
abbrev pub Judge : Type 0
Judge = Call → Outcome

-- what is lent are bytes
pub record InBytes (call : Call) : Type 0 where
  pub sheet : Bytes call.sheet
  pub table : Bytes call.table
  pub register : Bytes call.register
  pub positions : Bytes call.positions
  pub report : Bytes call.report

-- ---- the lines

-- the number of bulk lines that the report says it has
abbrev pub line_count : Outcome → ℕ
line_count left = number_at left.report 0 count_width

-- all bulk lines, one after the other
abbrev pub bulk_lines : Outcome → List ℕ
bulk_lines left = part left.report first_line (bulk_line_width * line_count left)

-- all message lines, those of each bulk after their count
abbrev pub message_lines : Outcome → List ℕ
message_lines left = part left.report (sections_place (line_count left)) (left.length - sections_place (line_count left))

-- the bulk line, and the message line, that begins at a place
abbrev pub bulk_line_from : List ℕ → ℕ → List ℕ
bulk_line_from report at = part report at bulk_line_width

abbrev pub message_line_from : List ℕ → ℕ → List ℕ
message_line_from report at = part report at message_line_width

-- of a bulk line: it shows a fault, so that all its messages fall
abbrev pub says_fallen : List ℕ → Bool
says_fallen line = not (eqb (faults_in line) 0)

-- of a message line: its outcome
abbrev pub says_accepted : List ℕ → Bool
says_accepted line = eqb (outcome_in line) message_accepted

-- ---- the messages that were accepted

pub record Payment : Type 0 where
  pub sender : List ℕ
  pub identifier : List ℕ
  pub receiver : List ℕ
  pub cents : ℕ

abbrev pub payment_of : List ℕ → List ℕ → Payment
payment_of header message =
    record { sender = sender_of header; identifier = identifier_of message; receiver = receiver_of message; cents = amount_of message }

-- of the messages of one bulk, whose lines begin at place at
unfoldable pub accepted_of : List ℕ → List ℕ → List (List ℕ) → ℕ → List Payment
accepted_of report header [] at = []
accepted_of report header (m ∷ ms) at =
    let later = accepted_of report header ms (at + message_line_width) in
    cond (says_accepted (message_line_from report at)) (payment_of header m ∷ later) later

-- of some bulks, whose sections begin at place at
unfoldable pub accepted_from : List ℕ → List Bulk → ℕ → List Payment
accepted_from report [] at = []
accepted_from report (b ∷ bs) at =
    accepted_of report b.header b.messages (lines_at at) ++ accepted_from report bs (after_lines at (length b.messages))

-- of a sheet, by what was left: nothing where it was refused
unfoldable pub accepted : List ℕ → Outcome → List Payment
accepted sheet left =
    cond (eqb left.number 0) (accepted_from left.report (bulks_of sheet) (sections_place (bulk_count sheet))) []

-- ---- what the register gains by it, told by the keys

abbrev pub payment_key : Payment → List ℕ
payment_key p = key p.sender p.identifier message_tag

-- a bulk's own key, where one of its messages was accepted
abbrev pub own_key : List ℕ → List Payment → List (List ℕ)
own_key header [] = []
own_key header (p ∷ ps) = key (sender_of header) (bulk_identifier_of header) bulk_tag ∷ []

-- the keys of a bulk of which these messages were accepted: theirs, then its own
abbrev pub keys_by : List ℕ → List Payment → List (List ℕ)
keys_by header taken = map payment_key taken ++ own_key header taken

-- of one bulk, whose section begins at place at
abbrev pub recorded_of : List ℕ → Bulk → ℕ → List (List ℕ)
recorded_of report bulk at = keys_by bulk.header (accepted_of report bulk.header bulk.messages (lines_at at))

-- of some bulks, in their order
unfoldable pub recorded_from : List ℕ → List Bulk → ℕ → List (List ℕ)
recorded_from report [] at = []
recorded_from report (b ∷ bs) at = recorded_of report b at ++ recorded_from report bs (after_lines at (length b.messages))

-- of a sheet, by what was left: none where it was refused
unfoldable pub recorded : List ℕ → Outcome → List (List ℕ)
recorded sheet left =
    cond (eqb left.number 0) (recorded_from left.report (bulks_of sheet) (sections_place (bulk_count sheet))) []

-- a register with these keys added, one after the other
unfoldable pub with_keys : List ℕ → List (List ℕ) → List ℕ
with_keys register [] = register
with_keys register (k ∷ ks) = with_keys (add register k) ks

-- ---- cents to a row, and from it

-- row j was found
abbrev pub is_row : Option ℕ → ℕ → Bool
is_row none j = false
is_row (some i) j = eqb i j

module _ (terms : Terms) (table : List ℕ) (j : ℕ) where
  -- a message is accepted to row j if the row of its receiver is row j: the receiver's own, else that of its head office
  abbrev pub to_row : Payment → Bool
  to_row p = is_row (route terms.date table p.receiver) j

  -- and from row j if the row of its bulk's sender is row j: the first that counts of the sender followed by XXX
  abbrev pub from_row : Payment → Bool
  from_row p = is_row (head_office_row terms.date table p.sender) j

  unfoldable pub cents_to : List Payment → ℕ
  cents_to [] = 0
  cents_to (p ∷ ps) = cond (to_row p) p.cents 0 + cents_to ps

  unfoldable pub cents_from : List Payment → ℕ
  cents_from [] = 0
  cents_from (p ∷ ps) = cond (from_row p) p.cents 0 + cents_from ps
