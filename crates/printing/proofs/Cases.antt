-- The definitions tried on the whole case and on the edges of numbers and identifiers, before any code. Assumes nothing.
use mathlib.Core.Path.{◌≡◌, refl}
use mathlib.Core.List.{List, [], ◌∷◌, ◌++◌}
use Prim.Native.Nat.{ℕ}
use Rattle.wire.specs.Field.{text}
use Rattle.wording.proofs.Computing.{wording_computes}
use Rattle.judging.proofs.Cases.{call}
use Rattle.judging.proofs.Computing.{outcomes_compute}
use Rattle.decimals.specs.Decimal.{decimal_in, decimal, line_end}
use Rattle.lines.specs.Lines.{identifier_text, head_text, totals_text, bulk_text, message_text}
use Rattle.figures.specs.Figures.{signed_text, position_text, number_text}
use Rattle.sections.specs.Sections.{messages_text, bulks_text, report_text, positions_from, positions_text, judged_text}
use Rattle.frame.specs.Frame.{in_shape}
use Rattle.frame.specs.Written.{input_bytes}
use Rattle.printing.specs.Response.{zeros, outcome_text, response}

-- ---- numbers

zero_printed : decimal 0 ≡ text "0"
unfolding decimal decimal_in
zero_printed = refl

nines_printed : decimal 99 ++ decimal 100 ≡ text "99100"
unfolding decimal decimal_in
nines_printed = refl

-- the most that ten bytes hold
widest_printed : decimal 1208925819614629174706175 ≡ text "1208925819614629174706175"
unfolding decimal decimal_in
widest_printed = refl

least_position : position_text 7 9223372036854775808 ≡ text "P 7 -9223372036854775808" ++ line_end
unfolding position_text signed_text decimal decimal_in
least_position = refl

no_position : position_text 7 0 ≡ []
unfolding position_text
no_position = refl

-- ---- identifiers

inner_space : identifier_text (text "A B*  ") ≡ text "A_B*"
unfolding wording_computes identifier_text
inner_space = refl

odd_bytes : identifier_text (text " A" ++ (0 ∷ 255 ∷ 10 ∷ []) ++ text "/ ") ≡ text "_A***/"
unfolding wording_computes identifier_text
odd_bytes = refl

only_spaces : identifier_text (text "   ") ≡ text "_"
unfolding wording_computes identifier_text
only_spaces = refl

-- ---- the whole case of `judging`

input : List ℕ
input = input_bytes call.terms.date call.table call.register call.sheet

expected : List ℕ
expected =
    text "B D1 P 0 1 100 2 500"
    ++ line_end
    ++ text "M T1 A 0"
    ++ line_end
    ++ text "M T2 R 8"
    ++ line_end
    ++ text "M T1 R 2"
    ++ line_end
    ++ text "P 0 -100"
    ++ line_end
    ++ text "P 1 100"
    ++ line_end
    ++ text "= 2"
    ++ line_end

whole_case : response input ≡ expected
unfolding outcomes_compute input expected decimal_in decimal identifier_text head_text totals_text bulk_text message_text signed_text position_text number_text messages_text bulks_text report_text positions_from positions_text judged_text in_shape zeros outcome_text response
whole_case = refl

-- a byte too many
left_over : response (input ++ (0 ∷ [])) ≡ text "X 99" ++ line_end
unfolding outcomes_compute input decimal_in decimal number_text in_shape response
left_over = refl
