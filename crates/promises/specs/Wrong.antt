-- Judges that must be shut out, most of them the right one but for what their name says. Assumes nothing.
use Rattle.std.specs.Prelude.{ℕ, ◌+◌, ◌-◌, ◌^◌, ◌%◌, ◌≡◌, Bool, not, cond, ◌&&◌, List, [], ◌∷◌, ◌++◌, map, length, get_or, eqb, leb, ltb}
use Rattle.std.proofs.lemmas.List.Edits.{sets}
use Rattle.wire.specs.Field.{part, bytes_of}
use Rattle.masks.specs.Mask.{shown}
use Rattle.sheet.specs.Sheet.{Bulk, bulks_of, bulk_count, kind_of, sender_of, identifier_of, stated_sum_of, value_date_of, amount_of, original_of, reason_of}
use Rattle.register.specs.Register.{key, message_tag, used_width, used, entry_place, add}
use Rattle.positions.specs.Positions.{pays}
use Rattle.wording.specs.Wording.{answers_cancellation}
use Rattle.calendar.specs.Date.{year}
use Rattle.easter.specs.Easter.{easter_monday}
use Rattle.rules.specs.declared.Terms.{Terms}
use Rattle.rules.specs.OfBulk.{date_wrong, date_closed}
use Rattle.rules.specs.OfMessage.{is_return}
use Rattle.faults.specs.Bits.{bulk_repeated_bit, date_closed_bit, returned_amount_wrong_bit}
use Rattle.faults.specs.Faults.{sender_row, receiver_row}
use Rattle.report.specs.Line.{faults_place, faults_width, accepted_number_place, number_width, bulk_line_width, outcome_in, faults_in, count_width, first_line, sections_place, lines_at, after_lines}
use Rattle.messages.specs.Messages.{message_fell}
use Rattle.refusing.specs.Refusals.{Call, refusal}
use Rattle.judging.specs.Outcome.{Outcome, turned_away, outcome}
use Rattle.promises.specs.Reading.{Judge, bulk_line_from, message_line_from, accepted_of, accepted, payment_key, own_key, with_keys}
use Rattle.promises.specs.Cut.{CutsAnywhere}
use Rattle.promises.specs.Demands.{RefusesAsWritten, EveryLineTells, LeavesTheRest}
use Rattle.promises.specs.Runs.{RunsAsPromised}

-- ---- one part of an outcome put in place of another

abbrev pub with_report : Outcome → List ℕ → Outcome
with_report left text =
    record { number = left.number; length = left.length; register = left.register; positions = left.positions; report = text }

abbrev pub with_register : Outcome → List ℕ → Outcome
with_register left text =
    record { number = left.number; length = left.length; register = text; positions = left.positions; report = left.report }

abbrev pub with_positions : Outcome → List ℕ → Outcome
with_positions left text =
    record { number = left.number; length = left.length; register = left.register; positions = text; report = left.report }

-- where a call is not refused, its outcome changed
abbrev pub where_judged : (Outcome → Outcome) → Judge
where_judged change call = cond (eqb (outcome call).number 0) (change (outcome call)) (outcome call)

-- the first bulk, and its first message
abbrev pub first_bulk : Call → Bulk
first_bulk call = get_or (bulks_of call.sheet) 0 (record { header = []; messages = [] })

abbrev pub first_message : Call → List ℕ
first_message call = get_or (first_bulk call).messages 0 []

-- ---- of the first demand

abbrev pub refuses_all : Judge
refuses_all call = turned_away call 1

-- a refusal that sets the report's first byte
abbrev pub writes_on_refusal : Judge
writes_on_refusal call = cond (eqb (outcome call).number 0) (outcome call) (with_report (outcome call) (sets call.report 0 (1 ∷ [])))

-- ---- of the second

-- the same report on every file
abbrev pub one_fixed_report : List ℕ → Judge
one_fixed_report fixed call = where_judged (λ left. with_report left (sets call.report 0 fixed)) call

-- every byte that was lent stays
abbrev pub writes_nothing : Judge
writes_nothing call =
    where_judged (λ left. record { number = left.number; length = left.length; register = call.register; positions = call.positions; report = call.report }) call

-- where there are two bulks or more, the second one's line is the first one's
abbrev pub copies_the_first_line : Judge
copies_the_first_line call =
    where_judged (λ left. cond (ltb 1 (bulk_count call.sheet)) (with_report left (sets left.report (first_line + bulk_line_width) (bulk_line_from left.report first_line))) left) call

-- the first bulk's line says that all its messages were accepted
abbrev pub makes_up_the_number : Judge
makes_up_the_number call = where_judged (λ left. with_report left (sets left.report (first_line + accepted_number_place) (bytes_of number_width (length (first_bulk call).messages)))) call

-- where the first bulk is a repeat, nothing else is shown
abbrev pub hides_beside_a_repeat : Judge
hides_beside_a_repeat call =
    where_judged (λ left.
    cond (shown (faults_in (bulk_line_from left.report first_line)) bulk_repeated_bit)
    (with_report left (sets left.report (first_line + faults_place) (bytes_of faults_width (2 ^ bulk_repeated_bit))))
    left) call

-- the first bulk shows whether its value date is closed by another rule, of the call's terms and that date
abbrev pub judges_dates_by : (Terms → ℕ → Bool) → Judge
judges_dates_by rule call =
    where_judged (λ left.
    with_report left (sets left.report (first_line + faults_place)
    (bytes_of faults_width
    (faults_in (bulk_line_from left.report first_line) % 2 ^ date_closed_bit
    + cond (rule call.terms (value_date_of (first_bulk call).header)) (2 ^ date_closed_bit) 0)))) call

-- a closed day counts only where it is the call's date
abbrev pub closed_today_only : Terms → ℕ → Bool
closed_today_only terms date = date_closed date && not (date_wrong terms date)

-- it is the call's date that counts
abbrev pub closed_by_the_call : Terms → ℕ → Bool
closed_by_the_call terms date = date_closed terms.date

-- Easter Monday is open
abbrev pub open_on_easter_monday : Terms → ℕ → Bool
open_on_easter_monday terms date = date_closed date && not (eqb date (easter_monday (year date)))

-- the first message shows whether its returned amount is wrong by another rule, of kind, amount, original amount and reason
abbrev pub judges_returns_by : (ℕ → ℕ → ℕ → List ℕ → Bool) → Judge
judges_returns_by rule call =
    let header = (first_bulk call).header in
    let message = first_message call in
    let line = lines_at (sections_place (bulk_count call.sheet)) in
    where_judged (λ left.
    with_report left (sets left.report (line + faults_place)
    (bytes_of faults_width
    (faults_in (message_line_from left.report line) % 2 ^ returned_amount_wrong_bit
    + cond (rule (kind_of header) (amount_of message) (original_of message) (reason_of message)) (2 ^ returned_amount_wrong_bit) 0)))) call

-- the whole original amount counts as more
abbrev pub whole_is_more : ℕ → ℕ → ℕ → List ℕ → Bool
whole_is_more kind amount original reason =
    is_return kind && cond (answers_cancellation reason) (leb original amount) (not (eqb amount original))

-- less is a fault with every reason
abbrev pub no_charge_allowed : ℕ → ℕ → ℕ → List ℕ → Bool
no_charge_allowed kind amount original reason = is_return kind && not (eqb amount original)

-- less is a fault with none
abbrev pub any_reason_allows : ℕ → ℕ → ℕ → List ℕ → Bool
any_reason_allows kind amount original reason = is_return kind && ltb original amount

-- no key of a bulk is added
abbrev pub records_no_bulk : Judge
records_no_bulk call = where_judged (λ left. with_register left (with_keys call.register (map payment_key (accepted call.sheet left)))) call

-- each bulk's own key is added before those of its messages
unfoldable pub bulks_first : List ℕ → List Bulk → ℕ → List (List ℕ)
bulks_first report [] at = []
bulks_first report (b ∷ bs) at =
    let taken = accepted_of report b.header b.messages (lines_at at) in
    own_key b.header taken ++ map payment_key taken ++ bulks_first report bs (after_lines at (length b.messages))

abbrev pub records_the_bulk_first : Judge
records_the_bulk_first call =
    where_judged (λ left.
    with_register left (with_keys call.register (bulks_first left.report (bulks_of call.sheet) (sections_place (bulk_count call.sheet))))) call

-- a byte after the entries in use is set
abbrev pub writes_past_the_entries : Judge
writes_past_the_entries call =
    where_judged (λ left. with_register left (sets left.register (entry_place (used left.register)) (1 ∷ []))) call

-- a byte after the report is set
abbrev pub writes_past_the_report : Judge
writes_past_the_report call = where_judged (λ left. with_report left (sets left.report left.length (1 ∷ []))) call

-- ---- of the third

-- of a file of two bulks only the first one's line is written
abbrev pub drops_a_line : Judge
drops_a_line call =
    cond (eqb (bulk_count call.sheet) 2)
    (with_report (outcome call) (sets call.report 0 (bytes_of count_width 1 ++ bulk_line_from (outcome call).report first_line)))
    (outcome call)

-- of a file of one bulk the last entry added does not come into use: its lines are right, and so is every other file
abbrev pub forgets_a_lone_bulk : Judge
forgets_a_lone_bulk call =
    where_judged (λ left. cond (eqb (bulk_count call.sheet) 1) (with_register left (sets left.register 0 (bytes_of used_width (used left.register - 1)))) left) call

-- the report that the judge wrote on a call
abbrev pub written : Call → List ℕ
written call = part (outcome call).report 0 (outcome call).length

-- once an identifier is in use, every report is the one that the judge wrote on a first call
abbrev pub copies_the_first_file : Call → Judge
copies_the_first_file first call =
    cond (eqb (used call.register) 0)
    (outcome call)
    (record { number = 0; length = length (written first); register = call.register; positions = call.positions; report = sets call.report 0 (written first) })

-- the first message is recorded though it fell
abbrev pub records_the_fallen : Judge
records_the_fallen call =
    where_judged (λ left.
    cond (eqb (outcome_in (message_line_from left.report (lines_at (sections_place (bulk_count call.sheet))))) message_fell)
    (with_register left (add left.register (key (sender_of (first_bulk call).header) (identifier_of (first_message call)) message_tag)))
    left) call

abbrev pub records_nothing : Judge
records_nothing call = where_judged (λ left. with_register left call.register) call

-- what moves from the first bulk's sender to its first message's receiver is something else than what was accepted
abbrev pub moves : (Call → ℕ) → Judge
moves cents call =
    where_judged (λ left.
    with_positions left
    (pays call.positions (sender_row call.terms call.table (first_bulk call).header) (receiver_row call.terms call.table (first_message call)) (cents call))) call

-- the sum that the bulk states
abbrev pub moves_the_stated_sum : Judge
moves_the_stated_sum = moves (λ call. stated_sum_of (first_bulk call).header)

-- the original amount
abbrev pub moves_the_original : Judge
moves_the_original = moves (λ call. original_of (first_message call))

-- ---- which statement refuses which

pub record ShutOut : Type 0 where
  pub tells_nothing : EveryLineTells refuses_all → ⊥
  pub refuses_all : RefusesAsWritten refuses_all → ⊥
  pub writes_on_refusal : RefusesAsWritten writes_on_refusal → ⊥
  pub one_fixed_report : (fixed : List ℕ) → EveryLineTells (one_fixed_report fixed) → ⊥
  pub writes_nothing : EveryLineTells writes_nothing → ⊥
  pub copies_the_first_line : EveryLineTells copies_the_first_line → ⊥
  pub makes_up_the_number : EveryLineTells makes_up_the_number → ⊥
  pub hides_beside_a_repeat : EveryLineTells hides_beside_a_repeat → ⊥
  pub closed_today_only : EveryLineTells (judges_dates_by closed_today_only) → ⊥
  pub closed_by_the_call : EveryLineTells (judges_dates_by closed_by_the_call) → ⊥
  pub open_on_easter_monday : EveryLineTells (judges_dates_by open_on_easter_monday) → ⊥
  pub whole_is_more : EveryLineTells (judges_returns_by whole_is_more) → ⊥
  pub no_charge_allowed : EveryLineTells (judges_returns_by no_charge_allowed) → ⊥
  pub any_reason_allows : EveryLineTells (judges_returns_by any_reason_allows) → ⊥
  pub leaves_no_bulk : LeavesTheRest records_no_bulk → ⊥
  pub leaves_the_bulk_first : LeavesTheRest records_the_bulk_first → ⊥
  pub writes_past_the_entries : LeavesTheRest writes_past_the_entries → ⊥
  pub writes_past_the_report : LeavesTheRest writes_past_the_report → ⊥
  pub drops_a_line : CutsAnywhere drops_a_line → ⊥
  pub forgets_a_lone_bulk : CutsAnywhere forgets_a_lone_bulk → ⊥
  -- some call that was judged, whose report is handed out again
  pub copies_the_first_file : (first : Call) × ((refusal first ≡ 0) × (RunsAsPromised (copies_the_first_file first) → ⊥))
  pub records_the_fallen : RunsAsPromised records_the_fallen → ⊥
  pub records_nothing : RunsAsPromised records_nothing → ⊥
  pub records_no_bulk : RunsAsPromised records_no_bulk → ⊥
  pub records_the_bulk_first : RunsAsPromised records_the_bulk_first → ⊥
  pub moves_the_stated_sum : RunsAsPromised moves_the_stated_sum → ⊥
  pub moves_the_original : RunsAsPromised moves_the_original → ⊥
