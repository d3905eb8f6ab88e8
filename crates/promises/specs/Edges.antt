-- The values at the edges that the scope marks for proof: calls, what of their outcome is looked at, and what it must be. Assumes nothing.
use Rattle.std.specs.Prelude.{ℕ, List, [], ◌∷◌, pos, replicate}
use Prim.Native.String.{String}
use Rattle.wire.specs.Field.{text}
use Rattle.wire.specs.Written.{padded}
use Rattle.routing.specs.Table.{participant}
use Rattle.routing.specs.Written.{row_bytes, table_bytes}
use Rattle.sheet.specs.Sheet.{identifier_width, Bulk, payment_kind, return_kind}
use Rattle.sheet.specs.Written.{header_bytes, message_bytes, sheet_bytes}
use Rattle.register.specs.Register.{key, bulk_tag}
use Rattle.register.specs.Written.{register_bytes}
use Rattle.positions.specs.Written.{positions_bytes}
use Rattle.rules.specs.Terms.{dated}
use Rattle.report.specs.Line.{faults_in, first_line, sections_place, lines_at, report_length}
use Rattle.refusing.specs.Refusals.{Call}
use Rattle.judging.specs.Outcome.{Outcome}
use Rattle.promises.specs.Reading.{bulk_line_from, message_line_from}

-- ---- a call of one bulk that holds one message

-- a participant of all dates
abbrev pub row : String → List ℕ
row bic = row_bytes bic 20000101 22991231 participant

-- what varies from one case to the next
pub record Case : Type 0 where
  pub date : ℕ
  pub value_date : ℕ
  pub kind : ℕ
  pub stated_sum : ℕ
  pub identifier : String
  pub amount : ℕ
  pub original : ℕ
  pub reason : String
  pub name : String
  -- the keys of the entries in use
  pub used : List (List ℕ)

abbrev pub bulk_of : Case → Bulk
bulk_of c =
    record {
      header = header_bytes c.kind "D1" "AAAALV22" 1 c.stated_sum c.value_date 3;
      messages = message_bytes c.identifier "BBBBLV22XXX" c.amount c.original c.reason c.name ∷ [];
    }

-- room for two entries more than are in use
abbrev pub edge_call : Case → Call
edge_call c =
    record {
      terms = dated c.date;
      sheet = sheet_bytes (bulk_of c ∷ []);
      table = table_bytes (row "AAAALV22XXX" ∷ row "BBBBLV22XXX" ∷ []);
      register = register_bytes c.used 2;
      positions = positions_bytes (pos 0 ∷ pos 0 ∷ []);
      report = replicate (report_length 1 1) 0;
    }

-- ---- what is looked at

abbrev pub refusal_of : Outcome → ℕ
refusal_of left = left.number

abbrev pub bulk_faults_of : Outcome → ℕ
bulk_faults_of left = faults_in (bulk_line_from left.report first_line)

abbrev pub message_faults_of : Outcome → ℕ
message_faults_of left = faults_in (message_line_from left.report (lines_at (sections_place 1)))

pub record Edge : Type 0 where
  pub call : Call
  pub told : Outcome → ℕ
  pub expected : ℕ

-- ---- the table

abbrev pub edge : Case → (Outcome → ℕ) → ℕ → Edge
edge c told expected = record { call = edge_call c; told = told; expected = expected }

-- a payment on a date: the number of the refusal, 0 for none
abbrev pub on_date : ℕ → ℕ → Edge
on_date d =
    edge (record { date = d; value_date = d; kind = payment_kind; stated_sum = 1; identifier = "T1"; amount = 1; original = 0; reason = ""; name = ""; used = [] }) refusal_of

-- a bulk of a value date, in a call on a date: its faults
abbrev pub valued : ℕ → ℕ → ℕ → Edge
valued v d =
    edge (record { date = d; value_date = v; kind = payment_kind; stated_sum = 1; identifier = "T1"; amount = 1; original = 0; reason = ""; name = ""; used = [] }) bulk_faults_of

-- a payment of so many cents: the faults of its message
abbrev pub paying : ℕ → ℕ → Edge
paying a =
    edge (record { date = 20260615; value_date = 20260615; kind = payment_kind; stated_sum = a; identifier = "T1"; amount = a; original = 0; reason = ""; name = ""; used = [] }) message_faults_of

-- a payment under an identifier: the faults of its message
abbrev pub named : String → ℕ → Edge
named s =
    edge (record { date = 20260615; value_date = 20260615; kind = payment_kind; stated_sum = 1; identifier = s; amount = 1; original = 0; reason = ""; name = ""; used = [] }) message_faults_of

-- a bulk that stands in the register, with a stated sum of two cents where one is paid: its faults
abbrev pub repeat_with_wrong_sum : ℕ → Edge
repeat_with_wrong_sum =
    edge (record { date = 20260615; value_date = 20260615; kind = payment_kind; stated_sum = 2; identifier = "T1"; amount = 1; original = 0; reason = ""; name = ""; used = key (text "AAAALV22") (padded identifier_width "D1") bulk_tag ∷ [] }) bulk_faults_of

-- a message of a kind, over so many cents, that tells of an original over so many and gives a reason: its faults
abbrev pub telling : ℕ → ℕ → ℕ → String → ℕ → Edge
telling k a o reason =
    edge (record { date = 20260615; value_date = 20260615; kind = k; stated_sum = a; identifier = "T1"; amount = a; original = o; reason = reason; name = "pacs.008.001.08"; used = [] }) message_faults_of

-- a return of so many cents, of an original of so many, for a reason
abbrev pub returned : ℕ → ℕ → String → ℕ → Edge
returned = telling return_kind

abbrev pub edges : List Edge
edges =
    on_date 20240229 0
    ∷ on_date 20230229 1
    ∷ on_date 21000229 1
    ∷ valued 20240329 20240329 256
    ∷ valued 20240401 20240401 256
    ∷ valued 20240402 20240402 0
    ∷ valued 20240501 20240501 256
    ∷ valued 20241226 20241226 256
    ∷ valued 20260403 20260403 256
    ∷ valued 20260614 20260614 256
    ∷ valued 20260614 20260615 260
    ∷ valued 20260616 20260615 4
    ∷ valued 20230229 20260615 260
    ∷ paying 0 16
    ∷ paying 99999999999 0
    ∷ paying 100000000000 16
    ∷ named "A/B" 0
    ∷ named "A//B" 1
    ∷ named "" 1
    ∷ repeat_with_wrong_sum 144
    ∷ returned 1 1 "" 64
    ∷ returned 2 2 "FOCR" 0
    ∷ returned 1 2 "FOCR" 0
    ∷ returned 3 2 "FOCR" 256
    ∷ returned 0 2 "FOCR" 16
    ∷ returned 1 2 "AC04" 256
    ∷ returned 3 2 "AC04" 256
    ∷ returned 1 2 "" 320
    ∷ returned 1 2 "FOCS" 320
    ∷ telling payment_kind 3 2 "FOCR" 32
    ∷ []
