-- `codes::known_reason` meets its contract: the text is among the codes left exactly if it is among all. Assumes nothing.
use mathlib.Core.Path.{◌≡◌}
use lib.ListN.{drop}
use Rattle.wording.specs.Wording.{one_of, reasons}
use Rattle.codes.proofs.known_reason.Given as goal

abbrev pub invariant-loop-i : goal.invariant-loop-i
invariant-loop-i l = one_of l.s (drop l.i reasons) ≡ one_of l.s reasons
