-- `codes::letters` meets its contract: what is left of the scan comes to what the whole scan comes to. Assumes nothing.
use mathlib.Core.Path.{◌≡◌}
use mathlib.Core.Bool.{cond}
use Rattle.wording.specs.Wording.{upper, upper_or_digit, every}
use Rattle.codes.proofs.letters.Given as goal

abbrev pub invariant-loop-i : goal.invariant-loop-i
invariant-loop-i l = every (cond l.digits upper_or_digit upper) l.s l.i l.to ≡ every (cond l.digits upper_or_digit upper) l.s l.from l.to
