-- The records of short texts, one of them without some of its fields. Assumes nothing.
use mathlib.Core.Path.{◌≡◌, refl}
use mathlib.Core.List.{List, [], ◌∷◌, ◌++◌}
use Prim.Native.Nat.{ℕ}
use lib.ListN.{get_or, replicate}
use Rattle.wire.specs.Field.{text}
use Rattle.letters.specs.Places.{matches}
use Rattle.letters.specs.Characters.{width_of, width_at}
use Rattle.prose.specs.Prose.{piece_at, said_by, said_at}
use Rattle.fields.proofs.Computing.{fields_compute}
use Rattle.records.specs.Records.{Places, header_of, message_of}

-- where roles 21 and on are played, in a document of payments that names a recipient
placed : List ℕ → Places
placed fields k = get_or (replicate 3 0 ++ (2 ∷ replicate 16 0) ++ (9 ∷ fields)) k 0

small : ℕ → List ℕ
small n = replicate 6 0 ++ (1 ∷ n ∷ [])

-- bulk identifier, number, sum, date, method, system, sender
header : List ℕ
header = text ">B1<258<2.57<0000-02-56<CLRG<EKS<AAAALV22<"

headed : header_of header (placed (1 ∷ 4 ∷ 8 ∷ 13 ∷ 24 ∷ 29 ∷ 33 ∷ []))
    ≡ 1 ∷ text "B1" ++ replicate 33 32 ++ text "AAAALV22" ++ small 2 ++ small 1 ++ (0 ∷ 0 ∷ 1 ∷ 0 ∷ []) ++ (7 ∷ [])
unfolding fields_compute matches width_of width_at piece_at said_by said_at header_of placed small header
headed = refl

-- without system and sender
lacking : header_of header (placed (1 ∷ 4 ∷ 8 ∷ 13 ∷ 24 ∷ []))
    ≡ 1 ∷ text "B1" ++ replicate 41 32 ++ small 2 ++ small 1 ++ (0 ∷ 0 ∷ 1 ∷ 0 ∷ []) ++ (5 ∷ [])
unfolding fields_compute matches width_of width_at piece_at said_by said_at header_of placed small header
lacking = refl

-- identifier, receiver and amount: a payment says no more
message : List ℕ
message = text ">P1<AAAALV22<2.58<"

paid : message_of message (placed (replicate 7 0 ++ (1 ∷ 4 ∷ 13 ∷ [])))
    ≡ text "P1" ++ replicate 33 32 ++ text "AAAALV22XXX" ++ small 2 ++ replicate 8 0 ++ replicate 19 32
unfolding fields_compute matches width_of width_at piece_at said_by said_at message_of placed small message
paid = refl
