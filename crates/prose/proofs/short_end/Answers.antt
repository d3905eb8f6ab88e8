-- `prose::short_end` meets its contract: a tag's first byte is not plain. Assumes nothing.
use mathlib.Core.Path.{◌≡◌, sym, ap, ◌∙◌}
use native.Mathlib.Omega.{arith}
use Rattle.letters.specs.Places.{byte_at}
use Rattle.letters.proofs.Scans.{byte_there, run_stops}
use Rattle.prose.specs.Plain.{plain}
use Rattle.prose.proofs.short_end.Goals as goal

pub returns-then-byte_at-eq60 : goal.returns-then-byte_at-eq60
returns-then-byte_at-eq60 c =
    let s = c.args.s.now in
    let at = c.args.at in
    let sign : byte_at s at ≡ 60 = sym c.byte_at.ensures ∙ c.if-byte_at-eq60.true in
    run_stops plain s at (byte_there s at (omega arith)) (ap plain sign)
