-- Which calls are refused: the conditions, and their order in one list. Assumes nothing.
use Rattle.std.specs.Prelude.{ℕ, ◌+◌, ◌*◌, Bool, false, cond, not, ◌||◌, List, [], ◌∷◌, length, eqb, ltb}
use Rattle.wire.specs.Field.{same}
use Rattle.calendar.specs.Date.{is_date}
use Rattle.routing.specs.Table.{rows, well_formed}
use Rattle.register.specs.Register.{free, well_formed as register_formed}
use Rattle.index.specs.Index.{index_length, index_of}
use Rattle.positions.specs.Positions.{fits, room_for_all}
use Rattle.sheet.specs.Sheet.{bulk_count, message_count, whole, headers_of, kinds_known, mixed}
use Rattle.rules.specs.declared.Terms.{Terms}
use Rattle.rules.specs.OfMessage.{most_cents}
use Rattle.report.specs.Line.{report_length}
use Rattle.refusing.specs.declared.Refusal.{Refusal}
use Rattle.refusing.specs.declared.Refusal.TheVariants.{Date, Table, Positions, Register, IndexLength, IndexContents, Sheet, Size, Kind, Order, Room, Limit, Space}

-- what a call is given
pub record Call : Type 0 where
  pub terms : Terms
  pub sheet : List ℕ
  pub table : List ℕ
  pub register : List ℕ
  pub positions : List ℕ
  pub report : List ℕ

abbrev pub refusal_number : Refusal → ℕ
refusal_number Date = 1
refusal_number Table = 2
refusal_number Positions = 3
refusal_number Register = 4
refusal_number Sheet = 5
refusal_number Size = 6
refusal_number Kind = 7
refusal_number Order = 8
refusal_number Room = 9
refusal_number Limit = 10
refusal_number Space = 11
refusal_number IndexLength = 12
refusal_number IndexContents = 13

abbrev pub most_bulks : ℕ
most_bulks = 999

abbrev pub most_messages : ℕ
most_messages = 15000

-- what may be wrong with an index beside a register
abbrev pub length_wrong : List ℕ → List ℕ → Bool
length_wrong index register = not (eqb (length index) (index_length register))

abbrev pub contents_wrong : List ℕ → List ℕ → Bool
contents_wrong index register = not (same index (index_of register))

-- whether a refusal's condition holds of a call, given whether its index has another length and whether it has other contents
unfoldable pub holds_given : Bool → Bool → Refusal → Call → Bool
holds_given wrong_length wrong_contents Date call = not (is_date call.terms.date)
holds_given wrong_length wrong_contents Table call = not (well_formed call.table)
holds_given wrong_length wrong_contents Positions call = not (fits call.positions (rows call.table))
holds_given wrong_length wrong_contents Register call = not (register_formed call.register)
holds_given wrong_length wrong_contents IndexLength call = wrong_length
holds_given wrong_length wrong_contents IndexContents call = wrong_contents
holds_given wrong_length wrong_contents Sheet call = not (whole call.sheet)
holds_given wrong_length wrong_contents Size call = ltb most_bulks (bulk_count call.sheet) || ltb most_messages (message_count call.sheet)
holds_given wrong_length wrong_contents Kind call = not (kinds_known (headers_of call.sheet (bulk_count call.sheet)))
holds_given wrong_length wrong_contents Order call = mixed false (headers_of call.sheet (bulk_count call.sheet))
holds_given wrong_length wrong_contents Room call = ltb (free call.register) (bulk_count call.sheet + message_count call.sheet)
holds_given wrong_length wrong_contents Limit call = not (room_for_all call.positions (message_count call.sheet * most_cents))
holds_given wrong_length wrong_contents Space call = ltb (length call.report) (report_length (bulk_count call.sheet) (message_count call.sheet))

-- of a call without an index, of which nothing is wrong
abbrev pub holds : Refusal → Call → Bool
holds r call = holds_given false false r call

-- of a call with one
abbrev pub holds_with : List ℕ → Refusal → Call → Bool
holds_with index r call = holds_given (length_wrong index call.register) (contents_wrong index call.register) r call

-- the order in which they are looked for
abbrev pub refusals : List Refusal
refusals = Date ∷ Table ∷ Positions ∷ Register ∷ IndexLength ∷ IndexContents ∷ Sheet ∷ Size ∷ Kind ∷ Order ∷ Room ∷ Limit ∷ Space ∷ []

-- the number of the first of which a test says that it holds, or 0
unfoldable pub first_holding : (Refusal → Bool) → List Refusal → ℕ
first_holding test [] = 0
first_holding test (r ∷ rs) = let later = first_holding test rs in cond (test r) (refusal_number r) later

unfoldable pub refusal : Call → ℕ
refusal call = first_holding (λ r. holds r call) refusals

unfoldable pub indexed_refusal : Call → List ℕ → ℕ
indexed_refusal call index = first_holding (λ r. holds_with index r call) refusals
