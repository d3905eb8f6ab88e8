-- The program: what is printed for the bytes that it reads. Assumes nothing.
use Rattle.std.specs.Prelude.{ℕ, ◌*◌, cond, List, take, replicate, eqb}
use Rattle.routing.specs.Table.{rows}
use Rattle.positions.specs.Positions.{position_width}
use Rattle.rules.specs.Terms.{dated}
use Rattle.refusing.specs.Refusals.{Call}
use Rattle.judging.specs.Outcome.{Outcome, outcome}
use Rattle.figures.specs.Figures.{refusal_text}
use Rattle.sections.specs.Sections.{judged_text}
use Rattle.frame.specs.Frame.{most_part, in_shape, date_in, table_in, register_in, sheet_in}

-- ---- the call: positions start at 0, and there is room for any report

unfoldable pub zeros : ℕ → List ℕ
zeros n = replicate n 0

abbrev pub call_with : ℕ → List ℕ → List ℕ → List ℕ → Call
call_with date sheet table register =
    record {
      terms = dated date;
      sheet = sheet;
      table = table;
      register = register;
      positions = zeros (position_width * rows table);
      report = zeros most_part;
    }

abbrev pub call_in : List ℕ → Call
call_in input = call_with (date_in input) (sheet_in input) (table_in input) (register_in input)

-- ---- what is printed

unfoldable pub outcome_text : Outcome → List ℕ
outcome_text o =
    cond (eqb o.number 0)
    (judged_text o.register o.positions (take o.length o.report))
    (refusal_text o.number)

abbrev pub another_shape : ℕ
another_shape = 99

-- more than twice the longest sheet, 48 bytes for each row of the longest table and one line: no response is longer
abbrev pub most_response : ℕ
most_response = 73728

unfoldable pub response : List ℕ → List ℕ
response input = cond (in_shape input) (outcome_text (outcome (call_in input))) (refusal_text another_shape)
