-- The forms tried on cases, before any code: one table, one statement. Assumes nothing.
use mathlib.Core.Path.{◌≡◌, refl}
use mathlib.Core.List.{List, [], ◌∷◌, map}
use Prim.Native.Nat.{ℕ}
use Prim.Native.String.{String}
use Rattle.std.specs.Prelude.{Option, Some, None}
use Rattle.wire.specs.Field.{text}
use Rattle.meanings.specs.Meanings.{number_meant, amount_meant, date_meant, filled, receiver}
use Rattle.meanings.specs.Written.{decimal_text, amount_text, date_text}
use Rattle.meanings.proofs.Computing.{meanings_compute}

-- what a text means, and what it has to mean
record Case : Type 0 where
  says : Option ℕ
  right : Option ℕ

number : String → Option ℕ → Case
number s r = record { says = number_meant (text s); right = r }

amount : String → Option ℕ → Case
amount s r = record { says = amount_meant (text s); right = r }

date : String → Option ℕ → Case
date s r = record { says = date_meant (text s); right = r }

cases : List Case
cases =
    -- 1 to 15 digits, and nothing else
    number "0" (Some 0) ∷ number "1" (Some 1) ∷ number "007" (Some 7) ∷ number "999999999999999" (Some 999999999999999)
    ∷ number "" None ∷ number "1000000000000000" None ∷ number "0000000000000000" None ∷ number "-1" None
    ∷ number "+1" None ∷ number " 1" None ∷ number "1 " None ∷ number "1.0" None ∷ number "1a" None ∷ number "a1" None
    ∷ number "A" None ∷ number "/" None ∷ number ":" None
    -- with a point and without
    ∷ amount "0.01" (Some 1) ∷ amount "0.10" (Some 10) ∷ amount "1" (Some 100) ∷ amount "12.5" (Some 1250) ∷ amount "12.50" (Some 1250)
    ∷ amount "5." (Some 500) ∷ amount ".5" (Some 50) ∷ amount ".05" (Some 5) ∷ amount "0" (Some 0) ∷ amount "00" (Some 0)
    -- a digit there must be, and no more than two behind the point
    ∷ amount "." None ∷ amount "" None ∷ amount "1.234" None ∷ amount "1.000" None ∷ amount ".." None ∷ amount "1.2.3" None
    ∷ amount "1,50" None ∷ amount "1.5a" None ∷ amount "1.a" None ∷ amount "-1" None ∷ amount " 1" None ∷ amount "1e2" None
    -- up to 18 digits, and cents below 2^64
    ∷ amount "9999999999999999.99" (Some 999999999999999999) ∷ amount "99999999999999999.9" (Some 9999999999999999990)
    ∷ amount "184467440737095516" (Some 18446744073709551600) ∷ amount "184467440737095516." (Some 18446744073709551600)
    ∷ amount "184467440737095517" None ∷ amount "184467440737095516.15" None ∷ amount "184467440737095516.1" None
    ∷ amount "999999999999999999" None ∷ amount "0000000000000000001" None ∷ amount "000000000000000001" (Some 100)
    -- eight digits and two dashes, whatever they say
    ∷ date "2026-06-15" (Some 20260615) ∷ date "0000-00-00" (Some 0) ∷ date "9999-99-99" (Some 99999999)
    ∷ date "2026-6-15" None ∷ date "20260615" None ∷ date "2026-06-15Z" None ∷ date "2026/06/15" None ∷ date "2026-06/15" None
    ∷ date "2026-06-1x" None ∷ date "2026-0x-15" None ∷ date "x026-06-15" None ∷ date "" None ∷ date " 026-06-15" None
    ∷ []

cases_right : map (λ c. c.says) cases ≡ map (λ c. c.right) cases
unfolding meanings_compute cases number amount date
cases_right = refl

-- a text in its field, and what it should be there
record Field : Type 0 where
  says : List ℕ
  right : List ℕ

fields : List Field
fields =
    record { says = filled 4 (text "AC"); right = text "AC  " }
    ∷ record { says = filled 4 (text ""); right = text "    " }
    ∷ record { says = filled 4 (text "AC01"); right = text "AC01" }
    ∷ record { says = receiver (text "AAAALV22"); right = text "AAAALV22XXX" }
    ∷ record { says = receiver (text "AAAALV22ABC"); right = text "AAAALV22ABC" }
    ∷ record { says = receiver (text "AAAALV2"); right = text "AAAALV2    " }
    ∷ record { says = receiver (text ""); right = text "           " }
    -- as they are written
    ∷ record { says = decimal_text 0; right = text "0" }
    ∷ record { says = decimal_text 120; right = text "120" }
    ∷ record { says = amount_text 5; right = text "0.05" }
    ∷ record { says = amount_text 123456; right = text "1234.56" }
    ∷ record { says = date_text 20260615; right = text "2026-06-15" }
    ∷ []

fields_right : map (λ f. f.says) fields ≡ map (λ f. f.right) fields
unfolding meanings_compute fields
fields_right = refl
