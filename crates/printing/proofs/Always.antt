-- What holds of every response: a longer input than the program reads is answered as what it reads of it, and nobody is refused for the
-- spaces that the program lends. Assumes nothing.
use mathlib.Core.Path.{◌≡◌, refl, sym, ap, ◌∙◌}
use mathlib.Core.Bool.{Bool, true, false}
use mathlib.Core.List.{List}
use Prim.Native.Nat.{ℕ, ◌+◌, ◌*◌, ◌≤◌, ◌<◌}
use native.Mathlib.Omega.{arith}
use lib.ListN.{length, take}
use borrow.Author.Tests.{eq-eqb, le-ltb}
use Rattle.routing.specs.Table.{rows}
use Rattle.sheet.specs.Sheet.{count_width, bulk_count, message_count, first_section, whole}
use Rattle.sheet.proofs.Laws.{whole_facts}
use Rattle.positions.specs.Positions.{position_width}
use Rattle.report.specs.Line.{report_length}
use Rattle.report.proofs.Laws.{lines_small}
use Rattle.refusing.specs.Refusals.{holds_given, holds}
use Rattle.refusing.specs.declared.Refusal.TheVariants.{Positions, Space}
use Rattle.frame.specs.Frame.{most_part, most_input, in_shape}
use Rattle.frame.specs.Read.{Begins, ReadOf}
use Rattle.frame.proofs.Laws.{sheet_fits_lem, read_shape, read_whole}
use Rattle.printing.specs.Response.{call_in, most_response, response}
use Rattle.printing.specs.Writing.{Answered, AnsweredAll}
use Rattle.sheet.proofs.Bulks.{sheet_length}
use Rattle.printing.proofs.Shapes.{zeros_length}

-- ---- longer input

-- what is read of an input decides its response, where it tells whether the input is in shape, and is all of one that is
pub same_response : (read all : List ℕ) → in_shape read ≡ in_shape all → (in_shape all ≡ true → all ≡ read) → response read ≡ response all
unfolding response
same_response read all same whole = by_test (in_shape all) refl
  where
    by_test : (t : Bool) → in_shape all ≡ t → response read ≡ response all
    by_test true e = ap response (sym (whole e))
    by_test false e = rw (same, e)

-- one byte more than the longest is enough
pub read_is_enough : (input : List ℕ) → response (take (most_input + 1) input) ≡ response input
read_is_enough input =
    let more : most_input < most_input + 1 = omega arith in
    same_response (take (most_input + 1) input) input
    (read_shape input (take (most_input + 1) input) (most_input + 1) more refl)
    (read_whole input (take (most_input + 1) input) (most_input + 1) more refl)

pub answered_all : {buffer before after : List ℕ} {n written : ℕ} (read : List ℕ) → ReadOf buffer n read → most_response ≤ length before
    → Answered before after written (response read) → AnsweredAll buffer n before after written
answered_all {buffer} {before} {after} {n} {written} read of room answered =
    record {
      answered = rw (← of.bytes) answered;
      whole = λ all begins.
          let started : Begins all (length buffer) read = begins ∙ sym of.bytes in
          answered.all room ∙ same_response read all (of.shape all started) (of.whole all started);
    }

-- ---- the spaces lent

-- a report takes no more than its sheet
report_no_longer : (sheet : List ℕ) → whole sheet ≡ true → report_length (bulk_count sheet) (message_count sheet) ≤ length sheet
report_no_longer sheet e =
    let lines = lines_small (message_count sheet) in
    let size = sheet_length sheet (bulk_count sheet) count_width (first_section sheet) in
    let end = (whole_facts sheet e).ended in
    omega arith

-- so the program's report space lacks nothing: refusal 11 is asked of whole sheets only, and never holds
pub report_fits : (input : List ℕ) → in_shape input ≡ true → whole (call_in input).sheet ≡ true → holds Space (call_in input) ≡ false
unfolding holds_given
report_fits input e kept =
    let small = sheet_fits_lem input e in
    let long = zeros_length most_part in
    let short = report_no_longer (call_in input).sheet kept in
    le-ltb (length (call_in input).report) (report_length (bulk_count (call_in input).sheet) (message_count (call_in input).sheet)) (omega arith)

-- nor do the positions: refusal 3 never holds
pub positions_fit_lem : (input : List ℕ) → holds Positions (call_in input) ≡ false
unfolding holds_given
positions_fit_lem input = rw (zeros_length (position_width * rows (call_in input).table), eq-eqb (position_width * rows (call_in input).table) _ refl)
