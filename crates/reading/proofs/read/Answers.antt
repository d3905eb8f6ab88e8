-- `reading::read` meets its contract. Assumes nothing.
use mathlib.Core.Path.{◌≡◌, ◌∙◌}
use native.Mathlib.Omega.{arith}
use Rattle.std.specs.Prelude.{Ok}
use Rattle.prolog.specs.Prolog.{prolog}
use Rattle.reading.specs.Text.{parsed}
use Rattle.reading.specs.Reading.{reads}
use Rattle.reading.proofs.read.Goals as goal

pub returns-in_err-first : goal.returns-in_err-first
unfolding reads parsed
returns-in_err-first c = grind arith

pub returns : goal.returns
unfolding reads parsed
returns c =
    let to : prolog c.args.text.now ≡ Ok c.in_ok-first.first = grind arith in
    c.from.ensures ∙ (rw to)
