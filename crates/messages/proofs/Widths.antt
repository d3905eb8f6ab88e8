-- How long the lines of a bulk's messages are. Assumes nothing.
use mathlib.Core.Path.{◌≡◌, ◌∙◌}
use mathlib.Core.Bool.{Bool}
use mathlib.Core.List.{List, [], ◌∷◌}
use Prim.Native.Nat.{ℕ, ◌*◌}
use native.Mathlib.Omega.{arith}
use lib.ListN.{length, length-append}
use Rattle.sheet.specs.Sheet.{message_width, identifier_of}
use Rattle.sheet.proofs.Bulks.{MessagesWide}
use Rattle.sheet.proofs.Fields.{identifier_long}
use Rattle.rules.specs.declared.Terms.{Terms}
use Rattle.report.specs.Line.{message_line_width}
use Rattle.report.proofs.Laws.{message_line_length}
use Rattle.messages.specs.Messages.{State, line_of, after_message, judge_messages}

module _ (terms : Terms) (table header : List ℕ) (fallen : Bool) (kind : ℕ) where
  pub line_wide : (m : List ℕ) (before : State) → length m ≡ message_width kind → length (line_of terms table header fallen m before) ≡ message_line_width
  unfolding line_of
  line_wide m before wide = message_line_length (identifier_of m) _ _ (identifier_long kind m wide)

  pub lines_wide : (ms : List (List ℕ)) (before : State) → MessagesWide kind ms
      → length (judge_messages terms table header fallen ms before).lines ≡ message_line_width * length ms
  unfolding judge_messages MessagesWide
  lines_wide [] before wide = omega arith
  lines_wide (m ∷ ms) before wide =
      let first = line_wide m before wide.0 in
      let rest = lines_wide ms (after_message terms table header fallen m before) wide.1 in
      length-append (line_of terms table header fallen m before) _ ∙ (rw (first, rest) (omega arith))
