-- The lines tried byte by byte: those of the whole case, sums at the edges of their fields, and what a report takes. One
-- table, one statement. Assumes nothing.
use mathlib.Core.Path.{◌≡◌, refl}
use mathlib.Core.List.{List, [], ◌∷◌, ◌++◌, map}
use Prim.Native.Nat.{ℕ, ◌+◌, ◌^◌, ◌-◌}
use Prim.Native.String.{String}
use lib.ListN.{replicate, drop}
use Rattle.wire.specs.Written.{padded}
use Rattle.tally.specs.Tally.{Totals, nothing, with_accepted, with_rejected}
use Rattle.report.specs.Line.{bulk_line, message_line, report_length}
use Rattle.report.proofs.Computing.{lines_compute}

named : String → List ℕ
named t = padded 35 t

-- T1 of 100 cents was accepted, T2 of 200 and the second T1 of 300 were not
whole : Totals
whole = with_rejected (with_rejected (with_accepted nothing 100) 200) 300

-- the largest amount twice, and three cents: 2 ^ 65 + 1
huge : Totals
huge = with_rejected (with_rejected (with_rejected nothing (2 ^ 64 - 1)) (2 ^ 64 - 1)) 3

record Case : Type 0 where
  made : List ℕ
  bytes : List ℕ

same : List ℕ → List ℕ → Case
same xs ys = record { made = xs; bytes = ys }

cases : List Case
cases =
    -- D1: partial, no faults, one accepted of 100 cents, two rejected of 500
    same (bulk_line (named "D1") 1 0 whole) (
    68 ∷ 49 ∷ replicate 33 32
    ++ (1 ∷ 0 ∷ 0 ∷ [])
    ++ (0 ∷ 0 ∷ 0 ∷ 1 ∷ [])
    ++ (0 ∷ 0 ∷ 0 ∷ 0 ∷ 0 ∷ 0 ∷ 0 ∷ 100 ∷ [])
    ++ (0 ∷ 0 ∷ 0 ∷ 2 ∷ [])
    ++ (0 ∷ 0 ∷ 0 ∷ 0 ∷ 0 ∷ 0 ∷ 0 ∷ 0 ∷ 1 ∷ 244 ∷ []))
    -- T2: rejected, receiver not reachable
    ∷ same (message_line (named "T2") 1 8) (84 ∷ 50 ∷ replicate 33 32 ++ (1 ∷ 0 ∷ 8 ∷ []))
    -- the highest bit of a message's faults stands in the first of its two bytes
    ∷ same (message_line (named "T1") 2 256) (84 ∷ 49 ∷ replicate 33 32 ++ (2 ∷ 1 ∷ 0 ∷ []))
    -- a rejected sum past 64 bits, in its ten bytes
    ∷ same (drop 54 (bulk_line (named "D2") 2 0 huge)) (0 ∷ 2 ∷ 0 ∷ 0 ∷ 0 ∷ 0 ∷ 0 ∷ 0 ∷ 0 ∷ 1 ∷ [])
    -- a sheet of no bulks, and one of a bulk and three messages
    ∷ same (report_length 0 0 ∷ report_length 1 3 ∷ []) (4 ∷ (4 + 68 + 114) ∷ [])
    ∷ []

cases_right : map (λ c. c.made) cases ≡ map (λ c. c.bytes) cases
unfolding lines_compute cases same huge whole named
cases_right = refl
