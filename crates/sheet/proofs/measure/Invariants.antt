-- `sheet::measure` meets its contract: a walk over the bulks, that stops once it is past the end. Assumes nothing.
use mathlib.Core.Path.{◌≡◌}
use mathlib.Core.List.{List}
use Prim.Native.Nat.{ℕ, ◌+◌, ◌*◌, ◌-◌, ◌≤◌}
use Rattle.sheet.specs.Sheet.{count_width, header_width, bulk_count, first_section, end_from, messages_from, message_count}
use Rattle.sheet.proofs.Laws.{head_of}
use Rattle.sheet.proofs.measure.Given as goal

-- After k of the bulks: what is left of the walk comes to the whole of it. Headers stand before sections, so that the next one lies
-- in the sheet where its section begins there. Messages take more than a byte each, so that their number fits wherever the place does.
pub record Walked (s : List ℕ) (bulks at messages k : ℕ) : Type 0 where
  pub stated : bulks ≡ bulk_count s
  pub before : count_width + header_width * bulks ≤ at
  pub few : messages ≤ at
  pub ends : end_from s (bulks - k) (head_of k) at ≡ end_from s (bulk_count s) count_width (first_section s)
  pub holds : messages + messages_from s (bulks - k) (head_of k) at ≡ message_count s

abbrev pub invariant-loop-k : goal.invariant-loop-k
invariant-loop-k l = Walked l.s l.bulks l.at l.messages l.k
