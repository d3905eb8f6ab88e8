-- The forms and bytes of fields tried on cases: the widest text of each, and one byte more. Assumes nothing.
use mathlib.Core.Path.{◌≡◌, refl}
use mathlib.Core.Bool.{Bool, true, false}
use mathlib.Core.List.{List, [], ◌∷◌, ◌++◌, map}
use Prim.Native.Nat.{ℕ}
use Prim.Native.String.{String}
use lib.ListN.{replicate}
use Rattle.wire.specs.Field.{text}
use Rattle.paths.specs.Roles as roles
use Rattle.fields.specs.Fields.{fits, field_bytes, is_clearing, is_system}
use Rattle.fields.proofs.Computing.{fields_compute}

record Case : Type 0 where
  says : Bool
  right : Bool

form : ℕ → String → Bool → Case
form role s r = record { says = fits role (text s); right = r }

cases : List Case
cases =
    form roles.sender "AAAALV22" true ∷ form roles.sender "AAAALV22X" false ∷ form roles.sender "" true
    ∷ form roles.receiver "AAAALV22XXX" true ∷ form roles.receiver "AAAALV22XXXX" false
    ∷ form roles.reason "AC01" true ∷ form roles.reason "AC011" false
    ∷ form roles.original_name "pacs.008.001.08" true ∷ form roles.original_name "pacs.008.001.080" false
    ∷ form roles.identifier "ABCDEFGHIJKLMNOPQRSTUVWXYZ123456789" true ∷ form roles.identifier "ABCDEFGHIJKLMNOPQRSTUVWXYZ1234567890" false
    ∷ form roles.bulk_identifier "" true ∷ form roles.stated_number "12" true ∷ form roles.stated_number "" false
    ∷ form roles.stated_number "1.0" false ∷ form roles.value_date "2026-06-15" true ∷ form roles.value_date "20260615" false
    ∷ form roles.stated_sum "1.50" true ∷ form roles.amount "1,50" false ∷ form roles.original_amount "" false
    -- a mark may say anything
    ∷ form roles.method "ABCDEFGHIJKLMNOPQRSTUVWXYZ1234567890" true ∷ form roles.system "" true
    ∷ record { says = is_clearing (text "CLRG"); right = true }
    ∷ record { says = is_clearing (text "CLRGX"); right = false }
    ∷ record { says = is_clearing (text "CLR"); right = false }
    ∷ record { says = is_system (text "EKS"); right = true }
    ∷ record { says = is_system (text "eks"); right = false }
    ∷ record { says = is_system []; right = false }
    ∷ []

cases_right : map (λ c. c.says) cases ≡ map (λ c. c.right) cases
unfolding fields_compute cases form
cases_right = refl

-- a field's bytes, and what they should be
record Field : Type 0 where
  says : List ℕ
  right : List ℕ

field : ℕ → String → List ℕ → Field
field role s r = record { says = field_bytes role (text s); right = r }

fields : List Field
fields =
    field roles.sender "AAAALV2" (text "AAAALV2 ")
    ∷ field roles.receiver "AAAALV22" (text "AAAALV22XXX")
    ∷ field roles.reason "" (text "    ")
    ∷ field roles.original_name "pacs.008" (text "pacs.008       ")
    ∷ field roles.identifier "A1" (text "A1" ++ replicate 33 32)
    ∷ field roles.identifier "ABCDEFGHIJKLMNOPQRSTUVWXYZ1234567890" (text "ABCDEFGHIJKLMNOPQRSTUVWXYZ123456789")
    ∷ field roles.stated_number "258" (0 ∷ 0 ∷ 0 ∷ 0 ∷ 0 ∷ 0 ∷ 1 ∷ 2 ∷ [])
    ∷ field roles.amount "2.58" (0 ∷ 0 ∷ 0 ∷ 0 ∷ 0 ∷ 0 ∷ 1 ∷ 2 ∷ [])
    ∷ field roles.value_date "0000-02-58" (0 ∷ 0 ∷ 1 ∷ 2 ∷ [])
    ∷ field roles.value_date "none" (0 ∷ 0 ∷ 0 ∷ 0 ∷ [])
    ∷ []

fields_right : map (λ f. f.says) fields ≡ map (λ f. f.right) fields
unfolding fields_compute fields field
fields_right = refl
