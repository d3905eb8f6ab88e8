-- `writing::put_halves` meets its contract: two numbers stored one after the other. Assumes nothing.
use mathlib.Core.Path.{sym, ◌∙◌}
use Prim.Native.Nat.{◌+◌, ◌*◌, ◌^◌, ◌≤◌, ◌<◌}
use lib.ListN.{length}
use native.Mathlib.Omega.{arith}
use Rattle.wire.specs.Field.{bytes_of}
use Rattle.wire.proofs.Stores.{sets_out, halves_stored}
use Rattle.writing.proofs.put_halves.Goals as goal

pub returns-then-at-d : goal.returns-then-at-d
returns-then-at-d c =
    let fits : c.args.low < 2 ^ 64 = omega (arith, c.well_formed) in
    rw (c.put_number-then-at-d.ensures, c.put_number.ensures)
    (halves_stored c.args.d.now c.args.at c.args.high c.args.low fits)

pub returns-else-at-d : goal.returns-else-at-d
returns-else-at-d c =
    let all = bytes_of 10 (c.args.high * 2 ^ 64 + c.args.low) in
    let out : length c.args.d.now ≤ c.args.at = omega (arith, c.put_number.auto.d) in
    c.put_number.ensures
    ∙ sets_out c.args.d.now c.args.at (bytes_of 2 c.args.high) out
    ∙ sym (sets_out c.args.d.now c.args.at all out)
