-- `tags::start_from` meets its contract: '>' after the name ends a tag that has no attributes. Assumes nothing.
use mathlib.Core.Path.{◌≡◌}
use native.Mathlib.Omega.{arith}
use Rattle.letters.specs.Places.{byte_at}
use Rattle.letters.proofs.Scans.{byte_there}
use Rattle.tags.proofs.Tags.{start_plain}
use Rattle.tags.proofs.start_from.Goals as goal

pub bounds-s-at : goal.bounds-s-at
bounds-s-at c =
    let args = c.args in
    let closes : byte_at args.s.now args.to ≡ 62 = cc in
    omega (arith, byte_there args.s.now args.to (omega arith))

pub overflow_add-result : goal.overflow_add-result
overflow_add-result c =
    let args = c.args in
    let closes : byte_at args.s.now args.to ≡ 62 = cc in
    omega (arith, byte_there args.s.now args.to (omega arith))

pub returns-then-name_starts : goal.returns-then-name_starts
returns-then-name_starts c =
    start_plain c.args.s.now c.args.at (cc) c.args.to c.requires (cc)
