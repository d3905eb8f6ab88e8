-- `prose::text_end` meets its contract: a tag after plain bytes ends them, and else the rest is left. Assumes nothing.
use mathlib.Core.Path.{◌≡◌, sym, ◌∙◌}
use native.Mathlib.Omega.{arith}
use Rattle.letters.specs.Places.{byte_at}
use Rattle.letters.proofs.Scans.{byte_there}
use Rattle.prose.proofs.Runs.{text_left, text_tag}
use Rattle.prose.proofs.text_end.Goals as goal

pub returns-then-byte_at-ne60 : goal.returns-then-byte_at-ne60
returns-then-byte_at-ne60 c =
    let args = c.args in
    let plain = c.short_end-i in
    c.rest_end.ensures ∙ text_left args.s.now args.at plain.result plain.ensures

pub overflow_add-i : goal.overflow_add-i
overflow_add-i c =
    let s = c.args.s.now in
    let i = c.short_end-i.result in
    let sign : byte_at s i ≡ 60 = sym c.byte_at.ensures ∙ c.if-byte_at-ne60.false in
    omega (arith, byte_there s i (omega arith))

pub returns-then-byte_at-ne33 : goal.returns-then-byte_at-ne33
returns-then-byte_at-ne33 c =
    let args = c.args in
    let plain = c.short_end-i in
    text_tag args.s.now args.at plain.result plain.ensures (sym c.byte_at.ensures ∙ c.if-byte_at-ne60.false)
    (λ e. c.if-byte_at-ne33.true (c.byte_at-2.ensures ∙ e))

pub returns : goal.returns
returns c =
    let args = c.args in
    let plain = c.short_end-i in
    c.rest_end-2.ensures ∙ text_left args.s.now args.at plain.result plain.ensures
