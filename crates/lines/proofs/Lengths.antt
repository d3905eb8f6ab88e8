-- How long the printed lines can be, of any bytes. Assumes nothing.
use mathlib.Core.Bool.{Bool, true, false, cond}
use mathlib.Core.List.{List, map}
use Prim.Native.Nat.{ℕ, suc, ◌^◌, ◌≤◌, ◌<◌}
use native.Mathlib.Nat.{lt_of_lt_of_le}
use native.Mathlib.Omega.{arith}
use lib.Dec.{eqb, lit≤}
use lib.ListN.{length, length-append, length-take, length-map}
use Rattle.wire.specs.Field.{Bytes, text}
use Rattle.wire.proofs.Texts.{part_short}
use Rattle.wording.specs.Wording.{kept, trimmed}
use Rattle.decimals.specs.Decimal.{field}
use Rattle.decimals.proofs.Lengths.{field_short}
use Rattle.report.specs.Line.{identifier_width, faults_width, number_width, accepted_cents_width, rejected_cents_width, identifier_in, outcome_in, faults_in, totals_in}
use Rattle.lines.specs.Lines.{shown, identifier_text, head_text, totals_text, bulk_text, message_text}
use Rattle.lines.proofs.Fields.{identifier_width_lem, faults_small, accepted_number_small, accepted_cents_small, rejected_number_small, rejected_cents_small}

-- a number that fits in w bytes, printed after a space
read_short : (n w k : ℕ) → n < 256 ^ w → 256 ^ w ≤ 10 ^ suc k → length (field n) ≤ suc (suc k)
read_short n w k small fits = field_short k n (lt_of_lt_of_le small fits)

identifier_short : (s : List ℕ) → length s ≤ identifier_width → length (identifier_text s) ≤ identifier_width
unfolding identifier_text
identifier_short s h = by_test (eqb (kept s) 0)
  where
    by_test : (t : Bool) → length (cond t (text "_") (map shown (trimmed s))) ≤ identifier_width
    by_test true = lit≤ tt
    by_test false = rw (length-map (trimmed s) shown, length-take (kept s) s) (omega arith)

head_short : (letters line : List ℕ) → Bytes line → length (head_text letters line) ≤ 44
unfolding head_text
head_short letters line bytes =
    let named = identifier_short (identifier_in line) (identifier_width_lem line) in
    let letter = part_short letters (outcome_in line) 1 in
    let faults = read_short (faults_in line) faults_width 4 (faults_small line bytes) (lit≤ tt) in
    simp length-append (omega arith)

totals_short : (line : List ℕ) → Bytes line → length (totals_text line) ≤ 69
unfolding totals_text
totals_short line bytes =
    let accepted = read_short (totals_in line).accepted_number number_width 9 (accepted_number_small line bytes) (lit≤ tt) in
    let paid = read_short (totals_in line).accepted_cents accepted_cents_width 19 (accepted_cents_small line bytes) (lit≤ tt) in
    let rejected = read_short (totals_in line).rejected_number number_width 9 (rejected_number_small line bytes) (lit≤ tt) in
    let unpaid = read_short (totals_in line).rejected_cents rejected_cents_width 24 (rejected_cents_small line bytes) (lit≤ tt) in
    simp length-append (omega arith)

pub bulk_short : (line : List ℕ) → Bytes line → length (bulk_text line) ≤ 115
unfolding bulk_text
bulk_short line bytes =
    let head = head_short (text "APR") line bytes in
    let totals = totals_short line bytes in
    simp length-append (omega arith)

pub message_short : (line : List ℕ) → Bytes line → length (message_text line) ≤ 46
unfolding message_text
message_short line bytes = let head = head_short (text "ARF") line bytes in simp length-append (omega arith)
