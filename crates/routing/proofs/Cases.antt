-- The lookup tried on cases of its rules, before any code: one table, one statement. Assumes nothing.
use mathlib.Core.Path.{◌≡◌, refl}
use mathlib.Core.List.{List, [], ◌∷◌, ◌++◌, map}
use Prim.Native.Nat.{ℕ}
use Prim.Native.String.{String}
use lib.ListN.{length}
use Rattle.wire.specs.Field.{text, bytes_of}
use Rattle.wire.specs.Written.{joined}
use Rattle.routing.specs.Lookup.{Routed, refused, lookup}
use Rattle.routing.proofs.Computing.{lookup_computes}

row : String → ℕ → ℕ → ℕ → List ℕ
row bic first last kind = text bic ++ bytes_of 4 first ++ bytes_of 4 last ++ bytes_of 1 kind

table_of : List (List ℕ) → List ℕ
table_of rs = bytes_of 4 (length rs) ++ joined rs

missing : Routed
missing = record { number = 0; found = 0; row = 0; reachable = 0 }

row_is : ℕ → ℕ → Routed
row_is i r = record { number = 0; found = 1; row = i; reachable = r }

-- a head office, a branch of kind 0, an expired row before a valid one of the same BIC, and a second row of a BIC
bank : List ℕ
bank =
    table_of (
    row "AAAALV22XXX" 20260101 20991231 5
    ∷ row "AAAALV22KUL" 20260101 20991231 0
    ∷ row "BBBBLV22RIX" 20200101 20251231 5
    ∷ row "BBBBLV22RIX" 20260101 20991231 20
    ∷ row "BBBBLV22XXX" 20260101 20991231 6
    ∷ row "CCCCLV22XXX" 20260615 20260616 6
    ∷ row "CCCCLV22XXX" 20260101 20991231 0
    ∷ row "BBBBLV22KUL" 20270101 20991231 0
    ∷ row "EEEELV2XXXX" 20260101 20991231 5
    ∷ [])

record Question : Type 0 where
  date : ℕ
  table : List ℕ
  bic : List ℕ
  answer : Routed

on : ℕ → String → Routed → Question
on d b a = record { date = d; table = bank; bic = text b; answer = a }

with : List ℕ → Routed → Question
with t a = record { date = 20260615; table = t; bic = text "AAAALV22XXX"; answer = a }

questions : List Question
questions =
    -- the BIC's own row, the head office's for a branch that has none, and a branch of kind 0 that is not passed over
    on 20260615 "AAAALV22XXX" (row_is 0 1)
    ∷ on 20260615 "AAAALV22RIX" (row_is 0 1)
    ∷ on 20260615 "AAAALV22KUL" (row_is 1 0)
    -- an expired row does not count: before its time the head office's, after it the second
    ∷ on 20260615 "BBBBLV22RIX" (row_is 3 1)
    ∷ on 20251231 "BBBBLV22RIX" (row_is 2 1)
    ∷ on 20260101 "BBBBLV22RIX" (row_is 3 1)
    -- an own row that does not count leaves the way to the head office open
    ∷ on 20260615 "BBBBLV22KUL" (row_is 4 1)
    ∷ on 20270101 "BBBBLV22KUL" (row_is 7 0)
    -- all eleven characters are compared, and the last three are the ninth to the eleventh
    ∷ on 20260615 "AAAALV22KUM" (row_is 0 1)
    ∷ on 20260615 "EEEELV2XXXR" (row_is 8 1)
    -- both ends of a row's days, and the first row that counts wins
    ∷ on 20260615 "CCCCLV22XXX" (row_is 5 1)
    ∷ on 20260616 "CCCCLV22XXX" (row_is 5 1)
    ∷ on 20260614 "CCCCLV22XXX" (row_is 6 0)
    ∷ on 20260617 "CCCCLV22RIX" (row_is 6 0)
    -- no row at all; a head office has no second try
    ∷ on 20250615 "AAAALV22XXX" missing
    ∷ on 20260615 "DDDDLV22RIX" missing
    ∷ on 20260615 "AAAALV2XXXX" missing
    -- the refusals in their order
    ∷ on 20230229 "AAAALV22" (refused 1)
    ∷ on 23000101 "AAAALV22XXX" (refused 1)
    ∷ record { date = 20230229; table = []; bic = text "AAAALV22XXX"; answer = refused 1 }
    ∷ record { date = 20260615; table = []; bic = text "AAAALV22"; answer = refused 2 }
    ∷ with [] (refused 2)
    ∷ with (bytes_of 4 0 ++ row "AAAALV22XXX" 20260101 20991231 5) (refused 2)
    ∷ with (table_of (row "AAAALV22XXX" 20260101 20991231 7 ∷ [])) (refused 2)
    ∷ with (0 ∷ 0 ∷ 0 ∷ []) (refused 2)
    ∷ with (0 ∷ 0 ∷ 0 ∷ 0 ∷ []) missing
    ∷ with (255 ∷ 255 ∷ 255 ∷ 255 ∷ []) (refused 2)
    ∷ with (bytes_of 4 2 ++ row "AAAALV22XXX" 20260101 20991231 5) (refused 2)
    ∷ with (table_of (row "AAAALV22XXX" 20260101 20991231 5 ∷ row "BBBBLV22XXX" 20200101 20200101 7 ∷ [])) (refused 2)
    ∷ on 20260615 "AAAALV22" (refused 18)
    ∷ on 20260615 "AAAALV22XXXX" (refused 18)
    ∷ []

questions_right : map (λ q. lookup q.date q.table q.bic) questions ≡ map (λ q. q.answer) questions
unfolding lookup_computes questions on with bank table_of row missing row_is
questions_right = refl
