-- The sheet tried on cases, before any code: where each field stands, which sheets are whole, and the kinds of their bulks.
-- Assumes nothing.
use mathlib.Core.Path.{◌≡◌, refl}
use mathlib.Core.Bool.{Bool, true, false}
use mathlib.Core.List.{List, [], ◌∷◌, ◌++◌, map}
use mathlib.Core.Option.{Option, none, some}
use Prim.Native.Nat.{ℕ}
use Prim.Native.String.{String}
use lib.ListN.{take}
use Rattle.wire.specs.Field.{text, bytes_of}
use Rattle.wire.specs.Written.{padded}
use Rattle.sheet.specs.Sheet.{kind_of, bulk_identifier_of, sender_of, stated_number_of, stated_sum_of, value_date_of, marks_of, identifier_of, receiver_of, amount_of, original_of, reason_of, name_of, bulk_count, bulks_of, shape, headers_of, kinds_known, mixed}
use Rattle.sheet.proofs.Computing.{sheets_compute}

-- ---- records, field by field in the order of the layout

header : ℕ → String → List ℕ
header kind identifier =
    bytes_of 1 kind ++ padded 35 identifier ++ text "AAAALV22" ++ bytes_of 8 7 ++ bytes_of 8 600 ++ bytes_of 4 20260615 ++ bytes_of 1 3

message : String → List ℕ
message identifier =
    padded 35 identifier ++ text "BBBBLV22RIX" ++ bytes_of 8 100 ++ bytes_of 8 99999999999 ++ text "AC01" ++ text "pacs.008.001.08"

numbers_of : List ℕ → List ℕ → List ℕ
numbers_of h m = kind_of h ∷ stated_number_of h ∷ stated_sum_of h ∷ value_date_of h ∷ marks_of h ∷ amount_of m ∷ original_of m ∷ []

texts_of : List ℕ → List ℕ → List (List ℕ)
texts_of h m = bulk_identifier_of h ∷ sender_of h ∷ identifier_of m ∷ receiver_of m ∷ reason_of m ∷ name_of m ∷ []

numbers_right : numbers_of (header 1 "D1") (message "T1") ≡ 1 ∷ 7 ∷ 600 ∷ 20260615 ∷ 3 ∷ 100 ∷ 99999999999 ∷ []
unfolding sheets_compute numbers_of header message
numbers_right = refl

texts_right :
    texts_of (header 1 "D1") (message "T1")
    ≡ padded 35 "D1" ∷ text "AAAALV22" ∷ padded 35 "T1" ∷ text "BBBBLV22RIX" ∷ text "AC01" ∷ text "pacs.008.001.08" ∷ []
unfolding sheets_compute texts_of header message
texts_right = refl

-- ---- sheets

-- a whole sheet of two bulks, with one message and with two
good : ℕ → ℕ → List ℕ
good first second =
    bytes_of 4 2 ++ header first "D1" ++ header second "D2"
    ++ bytes_of 4 1 ++ message "T1"
    ++ bytes_of 4 2 ++ message "T2" ++ message "T3"

-- a sheet of one bulk, with what stands after its header
one : List ℕ → List ℕ
one section = bytes_of 4 1 ++ header 1 "D1" ++ section

record Sheet : Type 0 where
  bytes : List ℕ
  answer : Option (ℕ × ℕ)

broken : List ℕ → Sheet
broken s = record { bytes = s; answer = none }

holds : ℕ → ℕ → List ℕ → Sheet
holds bulks messages s = record { bytes = s; answer = some (bulks, messages) }

sheets : List Sheet
sheets =
    -- no count, and no bulks at all
    broken []
    ∷ broken (0 ∷ 0 ∷ 0 ∷ [])
    ∷ holds 0 0 (bytes_of 4 0)
    ∷ broken (bytes_of 4 0 ++ 0 ∷ [])
    -- headers that are missing, or a byte short
    ∷ broken (bytes_of 4 1)
    ∷ broken (bytes_of 4 4294967295)
    ∷ broken (take 68 (one []))
    -- a section's count that is missing, or a byte short; an empty section
    ∷ broken (one [])
    ∷ broken (one (0 ∷ 0 ∷ 0 ∷ []))
    ∷ holds 1 0 (one (bytes_of 4 0))
    -- a section that ends early, or a byte short
    ∷ broken (one (bytes_of 4 2 ++ message "T1"))
    ∷ broken (one (bytes_of 4 4294967295 ++ message "T1"))
    ∷ broken (one (take 84 (bytes_of 4 1 ++ message "T1")))
    ∷ holds 1 1 (one (bytes_of 4 1 ++ message "T1"))
    -- two bulks; a byte left over
    ∷ holds 2 3 (good 1 3)
    ∷ broken (good 1 3 ++ 0 ∷ [])
    ∷ []

sheets_right : map (λ c. shape c.bytes) sheets ≡ map (λ c. c.answer) sheets
unfolding sheets_compute sheets broken holds one good header message
sheets_right = refl

-- ---- the kinds of the bulks, and what the bulks are

record Kinds : Type 0 where
  bytes : List ℕ
  known : Bool
  mixes : Bool

kinds : ℕ → ℕ → Bool → Bool → Kinds
kinds first second k m = record { bytes = good first second; known = k; mixes = m }

-- a payment may stand before a return and not after one
orders : List Kinds
orders =
    record { bytes = bytes_of 4 0; known = true; mixes = false }
    ∷ kinds 1 1 true false
    ∷ kinds 1 3 true false
    ∷ kinds 3 3 true false
    ∷ kinds 3 1 true true
    ∷ kinds 1 2 false false
    ∷ kinds 0 3 false false
    ∷ []

told : Kinds → Bool × Bool
told c = (kinds_known (headers_of c.bytes (bulk_count c.bytes)), mixed false (headers_of c.bytes (bulk_count c.bytes)))

orders_right : map told orders ≡ map (λ c. (c.known, c.mixes)) orders
unfolding sheets_compute told orders kinds good header message
orders_right = refl

bulks_right :
    bulks_of (good 1 3)
    ≡ record { header = header 1 "D1"; messages = message "T1" ∷ [] }
    ∷ record { header = header 3 "D2"; messages = message "T2" ∷ message "T3" ∷ [] }
    ∷ []
unfolding sheets_compute good header message
bulks_right = refl
